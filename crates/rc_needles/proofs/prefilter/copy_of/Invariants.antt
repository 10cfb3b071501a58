use Rattle.std.proofs.Common.{◌≡◌, take}
use Rattle.rc_needles.specs.Tables.{needles_in}
use Rattle.rc_needles.specs.Prefilters.{needles_of}
use Rattle.rc_needles.proofs.prefilter.copy_of.Given as goal

abbrev pub invariant-loop-needle : goal.invariant-loop-needle
invariant-loop-needle l = needles_in l.needles.items ≡ take l.needle-index (needles_of l.prefilter)
