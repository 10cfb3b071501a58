use Rattle.std.proofs.Common.{◌<◌, arith, map, cond, not, eqb, replicate, ◌%◌, ◌^◌}
use Rattle.std.specs.Simd.Lanes.{mask_l, top, zip2}
use Rattle.std.proofs.lemmas.Bool.Decides.{nat_tests}
use Rattle.rc_needles.proofs.TeddyLemmas.{nonzero_set, some_bit}
use Rattle.rc_needles.proofs.lanes.has_some.Goals as goal

pub returns : goal.returns
returns c k l some =
    let bits = mask_l (map (top 7) (zip2 (λ a b. cond (not (eqb a b)) 255 0) c.args.lanes (replicate 16 0))) % 2 ^ 64 in
    let more : 0 < bits = some_bit bits k (nonzero_set c.args.lanes k c.requires l some) in
    grind (arith, nat_tests)
