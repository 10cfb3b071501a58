use Rattle.std.proofs.Common.{◌≡◌, drop, map}
use Rattle.rc_pattern.specs.Meaning.{cat_all, meaning}
use Rattle.rc_literals.specs.Extraction.{lengthened}
use Rattle.rc_needles.specs.Tables.{needles_in}
use Rattle.rc_literals.proofs.prefixes.lengthened.Given as goal

abbrev pub invariant-loop-sub : goal.invariant-loop-sub
invariant-loop-sub l =
    lengthened (needles_in l.fn.needles.items) (cat_all (map meaning l.rest))
    ≡ lengthened (needles_in l.longer.items) (cat_all (map meaning (drop l.sub-index l.rest)))
