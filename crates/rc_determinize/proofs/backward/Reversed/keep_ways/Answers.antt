use Rattle.std.proofs.Common.{sym, subst, map, length}
use Rattle.rc_determinize.specs.Steps.{AreBelow}
use Rattle.rc_utf8.specs.declared.place.ByteWay.{ByteWay}
use Rattle.rc_determinize.proofs.OpenLemmas.{next_in}
use Rattle.rc_determinize.proofs.backward.Reversed.keep_ways.Goals as goal

pub keep-requires : goal.keep-requires
keep-requires c =
    let below = subst (λ ws. AreBelow (length c.args.self.now.into.items) (map (λ (w : ByteWay). w.next) ws)) (sym c.deref-way-items.ensures.value) c.requires in
    rw c.loop-way.invariant.0 (below _ (next_in c.deref-way-items.result.now c.loop-way.way-index _ c.loop-way-test.true))
