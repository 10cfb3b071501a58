-- What comes together at each position.
use Rattle.std.proofs.Common.{◌≡◌, ℕ, ◌+◌, ◌<◌, ◌≤◌, ◌⊎◌, ◌↔◌, List, [], ◌∷◌, length, Option, Some, None, true, inl, inr, ⊎_elim, sym, subst, ap, ap₂, ◌∙◌, refl, arith}
use Rattle.std.proofs.lemmas.Bool.{cases_lt}
use Rattle.rc_walks.specs.Walks.{Pair, IsIn}
use Rattle.rc_program.specs.Text.{Text, before_at, after_at}
use Rattle.rc_program.specs.Program.{Way, stays, reads, place_at, ways}
use Rattle.rc_determinize.specs.Steps.{HasPlace, still}
use Rattle.rc_determinize.specs.declared.sides.Seen.{Seen}
use Rattle.rc_determinize.specs.Sides.{told_side, sides_near, out_over, byte_of}
use Rattle.rc_determinize.specs.States.{Setting, IsSetting, State, sides_ahead}
use Rattle.rc_determinize.specs.Steps.{HasWay}
use Rattle.rc_determinize.proofs.TextLemmas.{out_here, same_below, same_at_end, near}
use Rattle.rc_determinize.specs.Sets.{Comes, begins, goes, ComesBy, listed, follows, ComesOver, IsLeastMatch, IsNextOfAllOver, IsGathering}
use Rattle.rc_determinize.proofs.BackwardLemmas.{to_map, still_has, has_still, same_position, next_position, each_way, IsStay}

still_stays : (ws : List Way) (w : Way) → HasWay w (still ws) → IsStay w
still_stays [] w z = absurd z
still_stays (stays k ∷ ws) w z = ⊎_elim (λ e. (k, sym e)) (λ y. still_stays ws w y) z
still_stays (reads n k ∷ ws) w z = still_stays ws w z

module _ (g : Setting) (ok : IsSetting g) (t : Text) (terminator : g.terminator ≡ t.terminator) (hi : ℕ) (origin : List Pair) where
  abbrev W : Pair → List Pair
  W = ways g.places t hi

  module _ (i : ℕ) (here : i ≤ hi) (high : hi ≤ t.slice_end) (bounded : t.slice_end ≤ length t.content)
      (s : State) (c : IsGathering g t hi origin i s) where
    abbrev out : ℕ → List Way
    out = out_here g.places g.needs ok.by_bytes ok.covers t i

    told_is : (far : Seen) → out_over g.places s.beside (sides_near g.needs g.terminator (after_at t i) far) ≡ out
    told_is far = ap₂ (λ x b. out_over g.places b (sides_near g.needs x (after_at t i) far)) terminator c.beside

    each : (q : ℕ) (w : Way) → HasWay w (out q) → IsStay w ⊎ ((k : ℕ) × (w ≡ reads 1 k))
    each q w h = each_way _ (byte_of (after_at t i)) (place_at g.places q) (ok.by_bytes q) w h

    stay_in : (q p : ℕ) → HasWay (stays p) (out q) → IsIn (p, i) (W (q, i))
    stay_in q p h =
        ⊎_elim
        (λ lt. subst (λ ms. IsIn (p, i) ms) (sym (same_below g.places g.needs ok.by_bytes ok.covers t i hi lt high bounded q))
        (to_map i (stays p) (out q) h))
        (λ ge. let e : i ≡ hi = omega (arith, ge, here) in
        subst (λ k. IsIn (p, i) (ways g.places t k (q, i))) e
        (subst (λ ms. IsIn (p, i) ms) (sym (same_at_end g.places g.needs ok.by_bytes ok.covers t i q))
        (to_map i (stays p) (still (out q)) (has_still p (out q) h))))
        (cases_lt i hi)

    in_stay : (q p : ℕ) → IsIn (p, i) (W (q, i)) → HasWay (stays p) (out q)
    in_stay q p h =
        ⊎_elim
        (λ lt. same_position i p (out q) (each q)
        (subst (λ ms. IsIn (p, i) ms) (same_below g.places g.needs ok.by_bytes ok.covers t i hi lt high bounded q) h))
        (λ ge. let e : i ≡ hi = omega (arith, ge, here) in
        let k : IsIn (p, i) (ways g.places t i (q, i)) = subst (λ k. IsIn (p, i) (ways g.places t k (q, i))) (sym e) h in
        let m = subst (λ ms. IsIn (p, i) ms) (same_at_end g.places g.needs ok.by_bytes ok.covers t i q) k in
        still_has p (out q) (same_position i p (still (out q)) (λ w z. inl (still_stays (out q) w z)) m))
        (cases_lt i hi)

    comes_from : {q : ℕ} → ComesBy out s.list q → Comes W origin (q, i)
    comes_from (listed q h) =
        ⊎_elim (λ x. begins (q, i) x) (λ x. goes (q, i) (x.1, x.0) x.3 x.4) ((c.list q).0 h)
    comes_from (follows q p l h) = goes (q, i) (p, i) (comes_from l) (stay_in p q h)

    comes_to : {n : Pair} → Comes W origin n → n.1 ≡ i → ComesBy out s.list n.0
    comes_to (begins n h) e = listed n.0 ((c.list n.0).1 (inl (subst (λ x. IsIn (n.0, x) origin) e h)))
    comes_to (goes n m l h) e =
        ⊎_elim
        (λ f. let at : m.1 ≡ i = sym f ∙ e in
        follows n.0 m.0 (comes_to l at)
        (in_stay m.0 n.0 (subst (λ x. IsIn (n.0, i) (W (m.0, x))) at (subst (λ x. IsIn (n.0, x) (W m)) e h))))
        (λ f. listed n.0 ((c.list n.0).1 (inr (m.1, m.0, sym f ∙ e, l, subst (λ x. IsIn (n.0, x) (W m)) e h))))
        (near g.places t hi ok.by_bytes m n h)

    -- THE STATE AND THE BYTE AHEAD DECIDE
    pub gathers : (far : Seen) (q : ℕ) → ComesOver g.places s (sides_near g.needs g.terminator (after_at t i) far) q ↔ Comes W origin (q, i)
    gathers far q =
        ((λ h. comes_from (subst (λ o. ComesBy o s.list q) (told_is far) h)), (λ h. subst (λ o. ComesBy o s.list q) (sym (told_is far)) (comes_to h refl)))

    -- whether a walk ends here
    pub ends_here : (root : ℕ) (s2 : State) (far : Seen) → IsNextOfAllOver g.places root s (sides_near g.needs g.terminator (after_at t i) far) s2 →
        IsLeastMatch g.places (λ q. Comes W origin (q, i)) s2.matched
    ends_here root s2 far n = by_stop s2.matched n.matched
      where
        by_stop : (o : Option ℕ) → IsLeastMatch g.places (ComesOver g.places s (sides_near g.needs g.terminator (after_at t i) far)) o →
            IsLeastMatch g.places (λ q. Comes W origin (q, i)) o
        by_stop None h = λ q k. h q ((gathers far q).1 k)
        by_stop (Some q) h = (h.0, (gathers far q).0 h.1, λ p k m. h.2 p ((gathers far p).1 k) m)

    -- THE STEP
    pub gathers_on : (root : ℕ) (s2 : State) → t.slice_start ≤ i → i < hi → ((q : ℕ) → IsIn (q, i + 1) origin ↔ ((s2.goes_on ≡ true) × (q ≡ root))) →
        IsNextOfAllOver g.places root s (sides_ahead g t i) s2 → IsGathering g t hi origin (i + 1) s2
    gathers_on root s2 low lt first n =
        let far = told_side g.needs g.terminator (before_at t (i + 1)) in
        let over = λ (q : ℕ). same_below g.places g.needs ok.by_bytes ok.covers t i hi lt high bounded q in
        record {
          list = λ q. let l = n.list q in (
            (λ h. ⊎_elim (λ x. inl ((first q).1 x))
                (λ x. inr (
                  i,
                  x.0,
                  refl,
                  (gathers far x.0).0 x.1,
                  subst (λ ms. IsIn (q, i + 1) ms) (sym (over x.0)) (to_map i (reads 1 q) (out x.0) (subst (λ o. HasWay (reads 1 q) (o x.0)) (told_is far) x.2)),
                )) (l.0 h)),
            (λ h. l.1 (⊎_elim (λ x. inl ((first q).0 x))
                (λ x. let e : x.0 ≡ i = let f = x.2 in omega (arith, f) in
                let from : Comes W origin (x.1, i) = subst (λ k. Comes W origin (x.1, k)) e x.3 in
                let edge : IsIn (q, i + 1) (W (x.1, i)) = subst (λ k. IsIn (q, i + 1) (W (x.1, k))) e x.4 in
                inr (
                  x.1,
                  (gathers far x.1).1 from,
                  subst (λ o. HasWay (reads 1 q) (o x.1)) (sym (told_is far))
                      (next_position i q (out x.1) (each x.1) (subst (λ ms. IsIn (q, i + 1) ms) (over x.1) edge)),
                )) h)),
          );
          beside = n.beside ∙ ap (λ x. told_side g.needs x (before_at t (i + 1))) terminator;
        }

-- where nothing is under way and no start is left, no walk goes on
pub nothing_later : (g : Setting) → IsSetting g → (t : Text) (hi : ℕ) (origin : List Pair) (i : ℕ) (s : State) → IsGathering g t hi origin i s →
    s.list ≡ [] → ((q y : ℕ) → IsIn (q, y) origin → y ≤ i) → {n : Pair} → Comes (ways g.places t hi) origin n → i ≤ n.1 → ⊥
nothing_later g ok t hi origin i s c empty started (begins n h) le =
    let a = started n.0 n.1 h in
    let e : n.1 ≡ i = omega (arith, a, le) in
    subst (λ l. HasPlace n.0 l) empty ((c.list n.0).1 (inl (subst (λ x. IsIn (n.0, x) origin) e h)))
nothing_later g ok t hi origin i s c empty started (goes n m l h) le =
    ⊎_elim
    (λ lt. ⊎_elim (λ e. absurd (omega (arith, e, lt, le)))
    (λ e. let here : n.1 ≡ i = omega (arith, e, lt, le) in
    subst (λ xs. HasPlace n.0 xs) empty
    ((c.list n.0).1 (inr (m.1, m.0, sym e ∙ here, l, subst (λ x. IsIn (n.0, x) (ways g.places t hi m)) here h))))
    (near g.places t hi ok.by_bytes m n h))
    (λ ge. nothing_later g ok t hi origin i s c empty started l ge)
    (cases_lt m.1 i)
