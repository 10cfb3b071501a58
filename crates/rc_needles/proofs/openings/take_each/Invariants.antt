use Rattle.std.proofs.Common.{ℕ, ◌<◌}
use Rattle.rc_needles.specs.Openings.{IsOpened}
use Rattle.rc_needles.specs.Tables.{needles_in, numbered}
use Rattle.rc_needles.proofs.openings.take_each.Given as goal

abbrev pub invariant-loop-needle : goal.invariant-loop-needle
invariant-loop-needle l = (n : ℕ) → n < l.needle-index → IsOpened l.words (numbered (needles_in l.needles) n)
