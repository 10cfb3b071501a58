use Rattle.std.proofs.Common.{take}
use Rattle.std.specs.Prelude.{All}
use Rattle.rc_needles.specs.Prefilters.{needles_of}
use Rattle.rc_literals.specs.Prefixes.{BeginsWithOne}
use Rattle.rc_needles.specs.Tables.{needles_in}
use Rattle.rc_literals.proofs.prefixes.begins_with_one_of.Given as goal

abbrev pub invariant-loop-prefix : goal.invariant-loop-prefix
invariant-loop-prefix l = All (BeginsWithOne (needles_of l.prefilter)) (take l.prefix-index (needles_in l.prefixes))
