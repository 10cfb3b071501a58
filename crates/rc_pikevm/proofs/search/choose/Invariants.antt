use Rattle.std.proofs.Common.{◌+◌, ◌-◌, ◌*◌, ◌≤◌, length}
use Rattle.rc_text.specs.Text.{Keeps}
use Rattle.rc_program.specs.Programs.{search_of}
use Rattle.rc_pikevm.specs.Scratches.{IsSame}
use Rattle.rc_pikevm.proofs.RuleLemmas.{PassedBy}
use Rattle.rc_pikevm.proofs.search.choose.Given as goal

abbrev pub invariant-starts : goal.invariant-starts
invariant-starts g l = record {
  keeps : Keeps l.fn.input l.input;
  passed : PassedBy l.rule (search_of l.program l.fn.input) l.from;
  low : (l.lo ≤ l.from) × (l.last ≤ l.hi);
  few : l.scratch.insertions ≤ length l.program.places.items * (l.hi - l.lo + 2);
  same : IsSame l.fn.scratch l.scratch;
}

abbrev pub decreases-starts : goal.decreases-starts
decreases-starts g l = l.last + 1 - l.from

abbrev pub ghost-pass : goal.ghost-pass
ghost-pass g a = a.input.now
