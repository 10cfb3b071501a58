use Rattle.std.proofs.Common.{◌≡◌, ℕ, ◌<◌, Some, length, slice_get}
use Rattle.rc_captures.specs.Captures.{group_span}
use Rattle.searcher.specs.Places.{group_of}
use Rattle.searcher.proofs.answers.GroupAt.write_all.Given as goal

-- the groups so far
abbrev pub invariant-loop-i : goal.invariant-loop-i
invariant-loop-i l = record {
  sized : length l.groups ≡ length l.initial.groups;
  written : (k : ℕ) → k < l.i → slice_get l.groups k ≡ Some (group_of (group_span l.captures k));
}
