use Rattle.std.proofs.Common.{ℕ, None, [], ◌∷◌, inl, inr, refl, sym, subst}
use Rattle.rc_pikevm.specs.Near.{seen_from}
use Rattle.rc_pikevm.specs.Sights.{Sight}
use Rattle.rc_pikevm.specs.Alone.{IsChosen, IsDead}
use Rattle.rc_pikevm.proofs.alone.only_way.Goals as goal
use Rattle.rc_pikevm.proofs.alone.only_way.Goals.{then-round-eq0, else-round-eq0}

pub returns-then-is_closed : goal.returns-then-is_closed
returns-then-is_closed g c = inl (refl, c.is_closed.ensures c.if-is_closed.true ((c.args.place, c.args.spot.now.at) ∷ []))

pub returns-then-is_dead : goal.returns-then-is_dead
returns-then-is_dead g c = inr (refl, c.is_dead.ensures c.if-is_dead.true None tt ((c.args.place, c.args.spot.now.at) ∷ []))

pub returns-then-leads_nowhere : goal.returns-then-leads_nowhere
returns-then-leads_nowhere g c =
    let s : Sight = seen_from c.args.spot.now g.text in
    let at : ℕ = c.args.spot.now.at in
    let place : ℕ = c.args.place in
    let dead = c.leads_nowhere.ensures c.if-leads_nowhere.true in
    elim c.if-round-eq0.branch [
      | then-round-eq0 w ↦
          subst (λ (t : ℕ × ℕ). IsChosen s at place c.args.first c.args.second t.1) (sym w.tested-is)
          (inr (refl, subst (λ (t : ℕ × ℕ). IsDead s ((place, at) ∷ []) (t.0, at)) w.tested-is dead))
      | else-round-eq0 w ↦
          subst (λ (t : ℕ × ℕ). IsChosen s at place c.args.first c.args.second t.1) (sym w.tested-is)
          (inl (refl, subst (λ (t : ℕ × ℕ). IsDead s ((place, at) ∷ []) (t.0, at)) w.tested-is dead))
    ]
