use Rattle.std.proofs.Common.{◌≡◌, ap}
use Rattle.rc_determinize.specs.Sparse.{Members}
use Rattle.rc_determinize.proofs.SparseLemmas.{has_at}
use Rattle.rc_determinize.proofs.backward.add_list.Goals as goal

pub add-requires : goal.add-requires
add-requires c =
    let same : c.loop-place.set.capacity ≡ c.args.set.now.capacity = ap (λ (m : Members). m.capacity) c.loop-place.invariant in
    rw same (c.requires _ (has_at c.args.list.now c.loop-place.place-index c.loop-place-test.true))
