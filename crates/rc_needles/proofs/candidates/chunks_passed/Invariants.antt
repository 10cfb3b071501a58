use Rattle.std.proofs.Common.{◌-◌, ◌≤◌}
use Rattle.rc_text.specs.Text.{Keeps}
use Rattle.rc_needles.proofs.FindLemmas.{NonePlaced}
use Rattle.rc_needles.proofs.candidates.chunks_passed.Given as goal

abbrev pub invariant-loop-input : goal.invariant-loop-input
invariant-loop-input g l = record {
  keeps : Keeps l.fn.input l.input;
  from : l.from ≤ l.at;
  passed : NonePlaced (g.L.Candidates.needles l.look) (g.L.Candidates.offset l.look) l.fn.input.content l.end l.from l.at;
}

abbrev pub decreases-loop-input : goal.decreases-loop-input
decreases-loop-input g l = l.end - l.at
