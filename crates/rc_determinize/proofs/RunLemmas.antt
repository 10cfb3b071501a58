-- Runs over positions.
use Rattle.std.proofs.Common.{◌≡◌, ◌≢◌, ℕ, zero, suc, ◌+◌, ◌<◌, ◌≤◌, ◌⊎◌, ◌↔◌, List, [], ◌∷◌, Some, inl, inr, ⊎_elim, sym, subst, ap, ◌∙◌, refl, arith}
use Rattle.std.proofs.lemmas.Bool.{cases_lt, cases_eq}
use Rattle.rc_walks.specs.Walks.{Pair, IsIn, IsWalk, stops, goes, HasNoWalk}
use Rattle.rc_walks.proofs.CutLemmas as cuts
use Rattle.rc_walks.proofs.CutLemmas.{cut, EndsAt-tail}
use Rattle.rc_walks.specs.Walks.{EndsAt}
use Rattle.rc_determinize.specs.Gives.{Gives, starts}
use Rattle.rc_determinize.proofs.Passes.{AreFrom}
use Rattle.rc_determinize.specs.Steps.{HasPlace}
use Rattle.rc_determinize.specs.Run.{Reaches, arrived, goes_on, IsGoal, IsBackState}
use Rattle.rc_determinize.proofs.Leads.{Leads, listed, leads, IsLeastStart}
use Rattle.rc_determinize.proofs.PartsLemmas.{first_parts, no_walk_left, no_walk_right}

pub starts_from : (root x c : ℕ) → AreFrom x (starts root x c)
starts_from root x zero n h = absurd h
starts_from root x (suc c) n h =
    ⊎_elim (λ e. subst (λ (k : Pair). x ≤ k.1) e (omega arith))
    (λ i. let r = starts_from root (x + 1) c n i in omega (arith, r)) h

module _ (ways : Pair → List Pair) (Ends : Pair → Type 0) (decide : (n m : Pair) → (n ≡ m) ⊎ (n ≢ m))
    (last : (n m : Pair) → Ends n → ¬ IsIn m (ways n)) (near : (n m : Pair) → IsIn m (ways n) → (m.1 ≡ n.1) ⊎ (m.1 ≡ n.1 + 1)) where
  pub rises : (n m : Pair) → IsIn m (ways n) → n.1 ≤ m.1
  rises n m i = ⊎_elim (λ e. omega (arith, e)) (λ e. omega (arith, e)) (near n m i)

  -- the first walk of all starts is that of the least start that has a walk
  pub starts_first : (root x c : ℕ) (e : Pair) → Gives ways Ends [] (starts root x c) (Some e) →
      (y : ℕ) × (x ≤ y) × (y < x + c) × Gives ways Ends [] ((root, y) ∷ []) (Some e)
      × ((z : ℕ) → x ≤ z → z < y → HasNoWalk ways Ends [] ((root, z) ∷ []))
  starts_first root x zero e g = absurd (nowhere g.1.is_walk)
    where
      nowhere : {v : List Pair} → IsWalk ways Ends [] [] v → ⊥
      nowhere (stops k here fresh ends) = absurd here
      nowhere (goes k here fresh more) = absurd here
  starts_first root x (suc c) e g =
      ⊎_elim (λ f. (x, omega arith, omega arith, (g.0, f, g.2), λ z a b. absurd (omega (arith, a, b))))
      (λ q. let r = starts_first root (x + 1) c e (g.0, q.1, g.2) in
      let a = r.1 in let b = r.2 in (
        r.0,
        omega (arith, a),
        omega (arith, b),
        r.3,
        λ z lo hi. ⊎_elim (λ eq. subst (λ k. HasNoWalk ways Ends [] ((root, k) ∷ [])) eq q.0)
            (λ ne. r.4 z (omega (arith, lo, ne)) hi) (cases_eq x z),
      ))
      (first_parts ways Ends decide ((root, x) ∷ []) g.1)

  pub starts_none : (root x c : ℕ) → HasNoWalk ways Ends [] (starts root x c) → (z : ℕ) → x ≤ z → z < x + c →
      HasNoWalk ways Ends [] ((root, z) ∷ [])
  starts_none root x zero g z a b = absurd (omega (arith, a, b))
  starts_none root x (suc c) g z a b =
      ⊎_elim (λ eq. subst (λ k. HasNoWalk ways Ends [] ((root, k) ∷ [])) eq (no_walk_left ways Ends ((root, x) ∷ []) (starts root (x + 1) c) g))
      (λ ne. starts_none root (x + 1) c (no_walk_right ways Ends ((root, x) ∷ []) (starts root (x + 1) c) g) z
      (omega (arith, a, ne)) (omega (arith, b))) (cases_eq x z)

  -- the least start has no walk, or its first walk is the one that was found
  pub least_decided : (root x c : ℕ) (e : Pair) → Gives ways Ends [] (starts root x (suc c)) (Some e) →
      HasNoWalk ways Ends [] ((root, x) ∷ []) ⊎ Gives ways Ends [] ((root, x) ∷ []) (Some e)
  least_decided root x c e g =
      ⊎_elim (λ f. inr (g.0, f, g.2)) (λ q. inl q.0) (first_parts ways Ends decide ((root, x) ∷ []) g.1)

  -- BACKWARDS

  reach_position : (end : ℕ) {n : Pair} → Reaches ways (IsGoal Ends end) n → n.1 ≤ end
  reach_position end (arrived n g) = let e = g.1 in omega (arith, e)
  reach_position end (goes_on n m here more) =
      let a = rises n m here in let b = reach_position end more in omega (arith, a, b)

  pub back_begins : (end : ℕ) (list : List ℕ) → ((q : ℕ) → HasPlace q list ↔ Ends (q, end)) → IsBackState ways Ends end end list
  back_begins end list same q = (
    (λ h. inl ((same q).0 h, refl)),
    (λ d. ⊎_elim (λ g. (same q).1 g.0) (λ r. let b = reach_position end r.2 in absurd (omega (arith, b))) d),
  )

  leads_reach : (end i : ℕ) (list : List ℕ) → IsBackState ways Ends end i list → {q : ℕ} → Leads ways i list q → Reaches ways (IsGoal Ends end) (q, i)
  leads_reach end i list s (listed q h) =
      ⊎_elim (λ g. arrived (q, i) g) (λ r. goes_on (q, i) (r.0, i + 1) r.1 r.2) ((s q).0 h)
  leads_reach end i list s (leads q p here more) = goes_on (q, i) (p, i) here (leads_reach end i list s more)

  reach_leads : (end i : ℕ) (list : List ℕ) → IsBackState ways Ends end i list → {n : Pair} → Reaches ways (IsGoal Ends end) n → n.1 ≡ i → Leads ways i list n.0
  reach_leads end i list s (arrived n g) e =
      listed n.0 ((s n.0).1 (inl (subst (λ x. IsGoal Ends end (n.0, x)) e g)))
  reach_leads end i list s (goes_on n m here more) e =
      ⊎_elim
      (λ f. let at_i = f ∙ e in
      leads n.0 m.0 (subst (λ x. IsIn (m.0, i) (ways (n.0, x))) e (subst (λ x. IsIn (m.0, x) (ways n)) at_i here))
      (reach_leads end i list s more at_i))
      (λ f. let at_next = f ∙ ap (λ x. x + 1) e in
      listed n.0 ((s n.0).1 (inr (
        m.0,
        subst (λ x. IsIn (m.0, i + 1) (ways (n.0, x))) e (subst (λ x. IsIn (m.0, x) (ways n)) at_next here),
        subst (λ x. Reaches ways (IsGoal Ends end) (m.0, x)) at_next more,
      ))))
      (near n m here)

  -- THE STATE DECIDES: from a place edges lead to the goal exactly where edges at this position lead to the state
  pub back_decides : (end i : ℕ) (list : List ℕ) → IsBackState ways Ends end i list → (q : ℕ) →
      Leads ways i list q ↔ Reaches ways (IsGoal Ends end) (q, i)
  back_decides end i list s q = (leads_reach end i list s, λ r. reach_leads end i list s r refl)

  pub back_steps : (end i : ℕ) (list list2 : List ℕ) → i < end → IsBackState ways Ends end (i + 1) list →
      ((q : ℕ) → HasPlace q list2 ↔ ((p : ℕ) × IsIn (p, i + 1) (ways (q, i)) × Leads ways (i + 1) list p)) →
      IsBackState ways Ends end i list2
  back_steps end i list list2 below s same q = (
    (λ h. let r = (same q).0 h in inr (r.0, r.1, leads_reach end (i + 1) list s r.2)),
    (λ d. ⊎_elim (λ g. let e = g.1 in absurd (omega (arith, e, below)))
        (λ r. (same q).1 (r.0, r.1, reach_leads end (i + 1) list s r.2 refl)) d),
  )

  -- BOTH

  pub walk_reaches : (e : Pair) {p f w : List Pair} → IsWalk ways Ends p f w → EndsAt w e →
      (m : Pair) × IsIn m f × Reaches ways (IsGoal Ends e.1) m
  walk_reaches e (stops k here fresh ends) at_end = (k, here, arrived k (ends, ap (λ (x : Pair). x.1) at_end))
  walk_reaches e (goes k here fresh more) at_end =
      let r = walk_reaches e more (EndsAt-tail ways Ends k e more at_end) in (k, here, goes_on k r.0 r.1 r.2)

  pub reach_long : (end : ℕ) {n : Pair} → Reaches ways (IsGoal Ends end) n →
      (e : Pair) × Ends e × (e.1 ≡ end) × ((len : ℕ) × cuts.Leads ways len n e)
  reach_long end (arrived n g) = (n, g.0, g.1, (0, cuts.stays n))
  reach_long end (goes_on n m here more) =
      let r = reach_long end more in (r.0, r.1, r.2, (suc r.3.0, cuts.steps n m r.0 here r.3.1))

  pub reach_walks : (end : ℕ) (n : Pair) → Reaches ways (IsGoal Ends end) n → HasNoWalk ways Ends [] (n ∷ []) → ⊥
  reach_walks end n r none =
      let l = reach_long end r in let c = cut ways Ends decide l.3.1 l.1 in none c.0 c.1

  from_reaches : (e n : Pair) → Gives ways Ends [] (n ∷ []) (Some e) → Reaches ways (IsGoal Ends e.1) n
  from_reaches e n g =
      let r = walk_reaches e g.1.is_walk g.2 in
      ⊎_elim (λ q. subst (λ x. Reaches ways (IsGoal Ends e.1) x) (sym q) r.2) (λ never. absurd never) r.1

  -- FORWARDS AND THEN BACKWARDS: the least start from which edges lead to the found end is the answer's start.
  pub span : (root from c x : ℕ) (e : Pair) → Gives ways Ends [] (starts root from c) (Some e) →
      IsLeastStart ways Ends root from e.1 x →
      (x < from + c) × Gives ways Ends [] ((root, x) ∷ []) (Some e)
      × ((z : ℕ) → from ≤ z → z < x → HasNoWalk ways Ends [] ((root, z) ∷ []))
  span root from c x e g s =
      let r = starts_first root from c e g in
      let at_least = s.at_least in
      ⊎_elim (λ lt. absurd (reach_walks e.1 (root, x) s.reaches (r.4 x at_least lt)))
      (λ ge. ⊎_elim (λ lt. absurd (s.least r.0 r.1 lt (from_reaches e (root, r.0) r.3)))
      (λ le. let same : r.0 ≡ x = omega (arith, ge, le) in (
        subst (λ k. k < from + c) same r.2,
        subst (λ k. Gives ways Ends [] ((root, k) ∷ []) (Some e)) same r.3,
        subst (λ k. (z : ℕ) → from ≤ z → z < k → HasNoWalk ways Ends [] ((root, z) ∷ [])) same r.4,
      ))
      (cases_lt r.0 x))
      (cases_lt x r.0)
