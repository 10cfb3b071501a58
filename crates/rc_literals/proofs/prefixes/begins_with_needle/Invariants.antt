use Rattle.std.proofs.Common.{ℕ, List, ◌≡◌, ◌<◌, Some, slice_get}
use Rattle.rc_needles.specs.Prefilters.{needles_of}
use Rattle.rc_literals.specs.Prefixes.{BeginsWith}
use Rattle.rc_literals.proofs.prefixes.begins_with_needle.Given as goal

abbrev pub invariant-loop-needle : goal.invariant-loop-needle
invariant-loop-needle l =
    (k : ℕ) (needle : List ℕ) → k < l.needle-index → slice_get (needles_of l.prefilter) k ≡ Some needle → ¬ BeginsWith l.bytes needle
