use Rattle.std.proofs.Common.{◌≡◌, ℕ, ◌<◌, ◌≤◌, ◌-◌}
use Rattle.rc_text.specs.Text.{Keeps, high, low}
use Rattle.rc_pattern_set.specs.Sets.{Has}
use Rattle.rc_literals.specs.Answers.{owned_of}
use Rattle.rc_literals.specs.Marks.{AddsFrom, AreDone}
use Rattle.rc_literals.proofs.marks.mark_anywhere.Given as goal

abbrev pub invariant-loop-at : goal.invariant-loop-at
invariant-loop-at g l = record {
  keeps : Keeps l.fn.input l.input;
  ends : l.end ≡ high l.fn.input;
  begins : low l.fn.input ≤ l.at;
  done : AreDone (owned_of l.needles) l.done l.set;
  missing : (p : ℕ) → p < l.missing → Has l.set p;
  adds : AddsFrom (owned_of l.needles) l.fn.input.content (high l.fn.input) (low l.fn.input) l.at l.fn.set l.set;
}

abbrev pub decreases-loop-at : goal.decreases-loop-at
decreases-loop-at g l = l.end - l.at
