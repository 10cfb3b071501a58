use Rattle.std.proofs.Common.{◌≡◌, ◌+◌, ◌∙◌, ap, bit_and, slice_index, sym, arith}
use Rattle.std.proofs.lemmas.Simd.{length-zip2}
use Rattle.rc_needles.proofs.BlockLemmas.{both_chosen}
use Rattle.rc_needles.proofs.pairs.pair_lanes.Goals as goal

pub returns-clause-long : goal.returns-clause-long
returns-clause-long c =
    length-zip2 bit_and c.byte_lanes.result c.byte_lanes-2.result (c.byte_lanes.ensures.long ∙ sym c.byte_lanes-2.ensures.long) ∙ c.byte_lanes.ensures.long

pub returns-clause-set : goal.returns-clause-set
returns-clause-set c k l pair =
    let behind : c.args.at + 1 + k ≡ c.args.at + k + 1 = omega arith in
    both_chosen c.byte_lanes.result c.byte_lanes-2.result k c.byte_lanes.ensures.long c.byte_lanes-2.ensures.long l (c.byte_lanes.ensures.set k l pair.is_first)
    (c.byte_lanes-2.ensures.set k l (ap (slice_index c.args.piece.now) behind ∙ pair.is_second))
