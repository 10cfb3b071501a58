use Rattle.std.proofs.Common.{◌≡◌, ℕ, ◌<◌, length, slice_get}
use Rattle.rc_pattern_set.specs.Sets.{Has}
use Rattle.searcher.specs.Places.{IsMark}
use Rattle.searcher.proofs.answers.write_marks.Given as goal

-- the marks so far
abbrev pub invariant-loop-i : goal.invariant-loop-i
invariant-loop-i l = record {
  sized : length l.marks ≡ length l.initial.marks;
  written : (k : ℕ) → k < l.i → IsMark (Has l.set k) (slice_get l.marks k);
}
