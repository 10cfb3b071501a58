use Rattle.std.proofs.Common.{◌≡◌, ap, sym, subst, map}
use Rattle.rc_determinize.specs.Sparse.{Members}
use Rattle.rc_determinize.specs.Steps.{AreBelow}
use Rattle.rc_utf8.specs.declared.place.ByteWay.{ByteWay}
use Rattle.rc_determinize.proofs.OpenLemmas.{next_in}
use Rattle.rc_determinize.proofs.open.add_ways.Goals as goal

pub add-requires : goal.add-requires
add-requires c =
    let same : c.loop-way.listed.capacity ≡ c.args.listed.now.capacity = ap (λ (m : Members). m.capacity) c.loop-way.invariant in
    let below = subst (λ ws. AreBelow c.args.listed.now.capacity (map (λ (w : ByteWay). w.next) ws)) (sym c.deref-way-items.ensures.value) c.requires in
    rw same (below _ (next_in c.deref-way-items.result.now c.loop-way.way-index _ c.loop-way-test.true))
