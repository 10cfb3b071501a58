use Rattle.std.proofs.Common.{ℕ, ◌<◌, length}
use Rattle.rc_needles.specs.Tables.{needles_in, numbered}
use Rattle.rc_needles.proofs.prefilter.is_usable.Given as goal

abbrev pub invariant-loop-needle : goal.invariant-loop-needle
invariant-loop-needle l = (k : ℕ) → k < l.needle-index → 0 < length (numbered (needles_in l.needles.items) k)
