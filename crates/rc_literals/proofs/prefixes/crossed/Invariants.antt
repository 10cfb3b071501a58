use Rattle.std.proofs.Common.{◌≡◌, ◌++◌, drop}
use Rattle.rc_literals.specs.Extraction.{crossed}
use Rattle.rc_needles.specs.Tables.{needles_in}
use Rattle.rc_literals.proofs.prefixes.crossed.Given as goal

abbrev pub invariant-loop-needle : goal.invariant-loop-needle
invariant-loop-needle l =
    crossed (needles_in l.needles) (needles_in l.behind)
    ≡ needles_in l.list.items ++ crossed (needles_in (drop l.needle-index l.needles)) (needles_in l.behind)
