use Rattle.std.proofs.Common.{◌≡◌, ap, sym, subst, map}
use Rattle.rc_determinize.specs.Sparse.{Members}
use Rattle.rc_determinize.specs.Steps.{AreBelow}
use Rattle.rc_determinize.specs.declared.backward.Source.{Source}
use Rattle.rc_determinize.proofs.BackLemmas.{source_in}
use Rattle.rc_determinize.proofs.backward.add_reading.Goals as goal

pub add-requires : goal.add-requires
add-requires c =
    let same : c.loop-edge.set.capacity ≡ c.args.set.now.capacity = ap (λ (m : Members). m.capacity) c.loop-edge.invariant in
    let below = subst (λ es. AreBelow c.args.set.now.capacity (map (λ (e : Source). e.from) es)) (sym c.deref-edge-items.ensures.value) c.requires in
    rw same (below _ (source_in c.deref-edge-items.result.now c.loop-edge.edge-index _ c.loop-edge-test.true))
