-- Places in lists, and the ways out of one place.
use Rattle.std.proofs.Common.{◌≡◌, ℕ, zero, suc, ◌<◌, List, [], ◌∷◌, ◌++◌, map, length, Bool, true, false, true≢false, nat_eq, nat_le, ◌&&◌, if◌then◌else◌, get_or, inl, inr, ⊎_elim, sym, ◌∙◌, refl, arith, eqb-true, eq-eqb}
use Rattle.std.specs.List.{list_any}
use Rattle.std.specs.Bool.{MatchBool}
use Rattle.std.proofs.lemmas.Bool.{cases_Bool, or_left, or_right}
use Rattle.rc_pattern.specs.Re.{Range}
use Rattle.rc_program.specs.Program.{branch, reads, branch_ways}
use Rattle.rc_program.specs.Laws.{targets}
use Rattle.rc_utf8.specs.declared.place.ByteWay.{ByteWay}
use Rattle.rc_utf8.specs.Places.{way_of}
use Rattle.rc_determinize.specs.Sparse.{Members}
use Rattle.rc_determinize.specs.Steps.{HasPlace, Adds, all_added, adds_one, leaves_out}
use Rattle.rc_determinize.specs.Machine.{stay_places, add_one, add_all}

pub any_has : (place : ℕ) (qs : List ℕ) → list_any (λ q. nat_eq q place) qs ≡ true → HasPlace place qs
any_has place [] h = absurd (true≢false (sym h))
any_has place (q ∷ qs) h =
    ⊎_elim (λ t. inl (eqb-true q place t)) (λ f. inr (any_has place qs (rw f at h))) (cases_Bool (nat_eq q place))

pub has_any : (place : ℕ) (qs : List ℕ) → HasPlace place qs → list_any (λ q. nat_eq q place) qs ≡ true
has_any place [] h = absurd h
has_any place (q ∷ qs) h =
    ⊎_elim (λ e. or_left _ _ (eq-eqb q place e)) (λ z. or_right _ _ (has_any place qs z)) h

pub not_any : (place : ℕ) (qs : List ℕ) → ¬ HasPlace place qs → list_any (λ q. nat_eq q place) qs ≡ false
not_any place qs h = ⊎_elim (λ t. absurd (h (any_has place qs t))) (λ f. f) (cases_Bool (list_any (λ q. nat_eq q place) qs))

-- what an insertion leaves
pub added : (m new : Members) (p : ℕ) (b : Bool) → MatchBool b (¬ HasPlace p m.items) (HasPlace p m.items) →
    MatchBool b (new ≡ record m { items = m.items ++ p ∷ [] }) (new ≡ m) → new ≡ record m { items = add_one m.items p }
added m new p true fresh e = rw (not_any p m.items fresh) e
added m new p false old e = rw (has_any p m.items old) e

pub add_adds : (list qs : List ℕ) → Adds list qs (add_all list qs)
add_adds list [] = all_added
add_adds list (q ∷ qs) =
    ⊎_elim
    (λ t. leaves_out q (any_has q list t) (rw t (add_adds list qs)))
    (λ f. adds_one q (λ h. true≢false (sym (has_any q list h) ∙ f)) (rw f (add_adds (list ++ q ∷ []) qs)))
    (cases_Bool (list_any (λ k. nat_eq k q) list))

pub next_in : (ws : List ByteWay) (i : ℕ) (d : ByteWay) → i < length ws → HasPlace (get_or ws i d).next (map (λ (w : ByteWay). w.next) ws)
next_in [] i d h = absurd (omega (arith, h))
next_in (w ∷ ws) zero d h = inl refl
next_in (w ∷ ws) (suc i) d h = inr (next_in ws i d (omega (arith, h)))

pub branch_targets : (ws : List ByteWay) (q : ℕ) → HasPlace q (map (λ (w : ByteWay). w.next) ws) → HasPlace q (targets (branch (map way_of ws)))
branch_targets [] q h = h
branch_targets (w ∷ ws) q h = ⊎_elim (λ e. inl e) (λ z. inr (branch_targets ws q z)) h

pub no_stays : (b : ℕ) (ts : List (Range × ℕ)) → stay_places (branch_ways b ts) ≡ []
no_stays b [] = refl
no_stays b (t ∷ ts) = both (nat_le t.0.0 b && nat_le b t.0.1) (no_stays b ts)
  where
    both : (v : Bool) → stay_places (branch_ways b ts) ≡ [] → stay_places (if v then reads 1 t.1 ∷ branch_ways b ts else branch_ways b ts) ≡ []
    both true h = h
    both false h = h

pub empty_of_length : (xs : List ℕ) → length xs ≡ 0 → xs ≡ []
empty_of_length [] e = refl
empty_of_length (x ∷ xs) e = absurd (omega (arith, e))
