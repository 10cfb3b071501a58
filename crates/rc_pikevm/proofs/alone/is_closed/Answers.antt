use Rattle.std.proofs.Common.{None, ⊎_elim, subst}
use Rattle.rc_pikevm.specs.Near.{seen_from}
use Rattle.rc_pikevm.specs.Sights.{Sight}
use Rattle.rc_pikevm.specs.Alone.{IsDead}
use Rattle.rc_pikevm.proofs.AloneLemmas.{dead_slot}
use Rattle.rc_pikevm.proofs.alone.is_closed.Goals as goal

pub returns : goal.returns
returns g c shut passed =
    let s : Sight = seen_from c.args.spot.now g.text in
    let at = c.args.spot.now.at in
    let dead = c.is_shut.ensures shut None tt passed in
    ⊎_elim (λ e. subst (λ p. IsDead s passed (p, at)) e dead) (λ r. dead_slot s at passed c.args.place r.0 c.past_slot.result r.1 dead)
    c.past_slot.ensures.past
