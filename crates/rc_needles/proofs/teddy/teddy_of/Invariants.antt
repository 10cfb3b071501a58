use Rattle.std.proofs.Common.{ℕ, ◌<◌}
use Rattle.rc_needles.specs.Teddies.{IsSifted}
use Rattle.rc_needles.specs.Tables.{needles_in, numbered}
use Rattle.rc_needles.proofs.teddy.teddy_of.Given as goal

abbrev pub invariant-loop-needle : goal.invariant-loop-needle
invariant-loop-needle l = (n : ℕ) → n < l.needle-index → IsSifted l.teddy (numbered (needles_in l.needles) n)
