use Rattle.std.proofs.Common.{◌-◌, ◌≤◌}
use Rattle.rc_text.specs.Text.{Keeps}
use Rattle.rc_needles.proofs.FindLemmas.{NonePlaced}
use Rattle.rc_needles.proofs.candidates.look_from.Given as goal

abbrev pub invariant-loop-at : goal.invariant-loop-at
invariant-loop-at g l = record {
  keeps : Keeps l.fn.input l.input;
  from : l.from ≤ l.at;
  passed : NonePlaced (g.L.Candidates.needles l.look) (g.L.Candidates.offset l.look) l.fn.input.content l.end l.from l.at;
}

abbrev pub decreases-loop-at : goal.decreases-loop-at
decreases-loop-at g l = l.end - l.at
