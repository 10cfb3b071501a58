use Rattle.std.proofs.Common.{◌≡◌, ℕ, None, [], ◌∷◌, inl, ap, arith}
use Rattle.rc_pikevm.specs.Near.{seen_from}
use Rattle.rc_pikevm.proofs.AloneLemmas.{dead_on, dead_tried, not_false}
use Rattle.rc_pikevm.proofs.alone.may_set_out.Goals as goal

pub returns : goal.returns
returns g c none _ _ =
    dead_on (seen_from c.args.spot.now g.text) c.args.spot.now.at ((c.args.tried, c.args.spot.now.at) ∷ []) 0 c.args.way c.requires.1.1
    (c.leads_nowhere.ensures (not_false c.leads_nowhere.result none))

pub returns-then-is_shut : goal.returns-then-is_shut
returns-then-is_shut g c _ _ _ =
    let s = seen_from c.args.spot.now g.text in
    let at = c.args.spot.now.at in
    dead_on s at ((c.args.tried, at) ∷ []) 0 c.args.way c.requires.1.1
    (c.is_shut.ensures c.if-is_shut.true None tt ((c.args.tried, at) ∷ []))

pub returns-then-way-tried : goal.returns-then-way-tried
returns-then-way-tried g c _ _ _ =
    let s = seen_from c.args.spot.now g.text in
    let at = c.args.spot.now.at in
    let same : c.args.tried ≡ c.args.way = omega (arith, c.if-way-tried.true) in
    dead_on s at ((c.args.tried, at) ∷ []) 0 c.args.way c.requires.1.1
    (dead_tried s at ((c.args.tried, at) ∷ []) c.args.way (inl (ap (λ (p : ℕ). (p, at)) same)))
