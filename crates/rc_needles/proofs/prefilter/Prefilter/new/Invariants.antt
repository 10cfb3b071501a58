use Rattle.std.proofs.Common.{◌≡◌, take, map}
use Rattle.rc_needles.specs.Tables.{needles_in}
use Rattle.rc_needles.proofs.prefilter.Prefilter.new.Given as goal

abbrev pub invariant-loop-needle : goal.invariant-loop-needle
invariant-loop-needle l = needles_in l.copies.items ≡ take l.needle-index (map (λ w. w.now) l.needles)
