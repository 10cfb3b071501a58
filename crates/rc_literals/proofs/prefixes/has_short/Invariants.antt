use Rattle.std.proofs.Common.{◌≡◌, drop}
use Rattle.rc_literals.specs.Extraction.{has_short}
use Rattle.rc_needles.specs.Tables.{needles_in}
use Rattle.rc_literals.proofs.prefixes.has_short.Given as goal

abbrev pub invariant-loop-needle : goal.invariant-loop-needle
invariant-loop-needle l = has_short (needles_in l.needles) ≡ has_short (needles_in (drop l.needle-index l.needles))
