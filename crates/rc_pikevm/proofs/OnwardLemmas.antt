-- A thread at a pair of which one way alone leads on may go on by that way.
use Rattle.std.proofs.Common.{◌≡◌, ◌≢◌, ℕ, List, [], ◌∷◌, inl, inr, ⊎_elim, sym, subst, ap, ◌∙◌, IsTrue, Option, Some}
use Rattle.rc_walks.specs.Walks.{Pair, IsIn, IsWalk, stops, goes, IsFirstWalk, HasNoWalk}
use Rattle.rc_walks.specs.Threads.{noted, IsFirstOf, found, passes}
use Rattle.rc_walks.proofs.WalkLemmas.{first_goes, first_after, drop_way}
use Rattle.rc_walks.proofs.CutLemmas.{loosen, avoids}
use Rattle.rc_walks.proofs.StackLemmas.{dead_if_passed, dead_if_tried}
use Rattle.rc_walks.proofs.ThreadLemmas.{Alike, first_alike, fewer_passed, from_within, of_one, of_rest}
use Rattle.rc_walks.proofs.TryLemmas.{first_way}
use Rattle.rc_program.proofs.WayLemmas.{same_pair}
use Rattle.rc_pikevm.specs.Sights.{Sight, ends_to, next_to}
use Rattle.rc_pikevm.specs.Sparse.{Has}
use Rattle.rc_pikevm.specs.Threads.{Thread}
use Rattle.rc_pikevm.specs.Trace.{Trace, note}
use Rattle.rc_pikevm.specs.Passing.{pairs, CarriesTo}
use Rattle.rc_pikevm.proofs.SightLemmas.{last_to}
use Rattle.rc_pikevm.proofs.EnteredLemmas.{pairs_has}

-- Of the ways out of n, that to a alone leads on.
pub record IsOnlyWay (ways : Pair → List Pair) (Ends : Pair → Type 0) (n a : Pair) : Type 0 where
  pub first : (p v : List Pair) → IsFirstWalk ways Ends (n ∷ p) (a ∷ []) v → IsFirstWalk ways Ends (n ∷ p) (ways n) v
  pub none : (p : List Pair) → HasNoWalk ways Ends (n ∷ p) (a ∷ []) → HasNoWalk ways Ends (n ∷ p) (ways n)

module _ (ways : Pair → List Pair) (Ends : Pair → Type 0) (n a : Pair) where
  pub only_one : ways n ≡ a ∷ [] → IsOnlyWay ways Ends n a
  only_one out = record {
    first = λ p v f. subst (λ ms. IsFirstWalk ways Ends (n ∷ p) ms v) (sym out) f;
    none = λ p d. subst (λ ms. HasNoWalk ways Ends (n ∷ p) ms) (sym out) d;
  }

  module _ (b : Pair) (dead : HasNoWalk ways Ends (n ∷ []) (b ∷ [])) where
    -- so it is whatever else was passed
    still_dead : (p : List Pair) → HasNoWalk ways Ends (n ∷ p) (b ∷ [])
    still_dead p v x =
        dead v (loosen ways Ends x (n ∷ []) (λ k i. λ z. avoids ways Ends x k i (⊎_elim (λ e. inl e) (λ never. absurd never) z)))

    pub only_first : ways n ≡ a ∷ b ∷ [] → IsOnlyWay ways Ends n a
    only_first out = record {
      first = λ p v f. subst (λ ms. IsFirstWalk ways Ends (n ∷ p) ms v) (sym out) (first_way ways Ends same_pair a f);
      none = λ p d v x. still_dead p v (drop_way ways Ends a d (subst (λ ms. IsWalk ways Ends (n ∷ p) ms v) out x));
    }

    pub only_second : ways n ≡ b ∷ a ∷ [] → IsOnlyWay ways Ends n a
    only_second out = record {
      first = λ p v f. subst (λ ms. IsFirstWalk ways Ends (n ∷ p) ms v) (sym out) (first_after ways Ends b (still_dead p) f);
      none = λ p d v x. d v (drop_way ways Ends b (still_dead p) (subst (λ ms. IsWalk ways Ends (n ∷ p) ms v) out x));
    }

  module _ (on : ¬ Ends n) (only : IsOnlyWay ways Ends n a) where
    -- where no walk leads on from that way, none does from the pair
    pub none_on : (p : List Pair) → HasNoWalk ways Ends (n ∷ p) (a ∷ []) → HasNoWalk ways Ends p (n ∷ [])
    none_on p d v x = dead_if_tried ways Ends on (only.none p d) x

    -- a walk from there doesn't come back
    apart : {p w : List Pair} → a ≢ n → IsWalk ways Ends p (a ∷ []) w → IsIn n w → ⊥
    apart other (stops k here fresh ends) i =
        ⊎_elim (λ e. ⊎_elim (λ f. other (e ∙ f)) (λ never. absurd never) i) (λ never. absurd never) here
    apart {p} other (goes k here fresh rest) i =
        ⊎_elim
        (λ e. ⊎_elim (λ f. other (e ∙ f))
        (λ j. let r = from_within ways Ends n rest j in
        none_on (k ∷ p) (λ v x. dead_if_passed ways Ends (inr (inl (sym e))) x) r.0 r.1) i)
        (λ never. absurd never) here

    alike : (p : List Pair) → a ≢ n → Alike ways Ends p (n ∷ p) (a ∷ [])
    alike p other = record {
      there = λ w x. loosen ways Ends x (n ∷ p)
          (λ k i. λ z. ⊎_elim (λ e. apart other x (subst (λ y. IsIn y w) (sym e) i)) (λ q. avoids ways Ends x k i q) z);
      back = λ w x. fewer_passed ways Ends n x;
    }

    module _ (H : Type 0) (note : H → Pair → H) (last : (n m : Pair) → Ends n → ¬ IsIn m (ways n)) where
      pub first_on : {R : Option H → Type 0} (h : H) (v : List Pair) (ts : List (H × Pair)) (o : Option H) → ¬ IsIn n v → note h n ≡ h →
          IsFirstOf ways Ends H note v R ((h, a) ∷ ts) o → IsFirstOf ways Ends H note v R ((h, n) ∷ ts) o
      first_on {R} h v ts o fresh silent x =
          ⊎_elim
          (λ e. subst (λ m. IsFirstOf ways Ends H note v R ((h, m) ∷ ts) o) e x)
          (λ other. ⊎_elim
          (λ f. subst (λ y. IsFirstOf ways Ends H note v R ((h, n) ∷ ts) y)
          (sym (f.2 ∙ ap (λ g. Some (noted note g f.0)) (sym silent)))
          (found (h, n) (n ∷ f.0) (first_goes ways Ends same_pair last n v [] f.0 fresh on
          (only.first v f.0 (first_alike ways Ends v (n ∷ v) (a ∷ []) f.0 (alike v other) f.1)))))
          (λ f. passes (h, n) (none_on v (λ w y. f.0 w (fewer_passed ways Ends n y))) f.1)
          (of_one ways Ends H note x))
          (same_pair a n)

-- what a thread gives at the only way on, it gives at the place
pub carries_by : (limit : Option ℕ) (s : Sight) (at : ℕ) (rest : List Thread) (items : List ℕ) (best o : Option Trace) (p a : ℕ) (h : Trace) (ts : List (Trace × Pair)) →
    ¬ Has items p → ¬ IsTrue (ends_to limit s (p, at)) → IsOnlyWay (next_to limit s) (λ n. IsTrue (ends_to limit s n)) (p, at) (a, at) → note s.places h (p, at) ≡ h →
    CarriesTo limit s at rest items ((h, (a, at)) ∷ ts) best o → CarriesTo limit s at rest items ((h, (p, at)) ∷ ts) best o
carries_by limit s at rest items best o p a h ts fresh on only silent x =
    of_rest (next_to limit s) (λ n. IsTrue (ends_to limit s n)) Trace (note s.places)
    (λ q y. first_on (next_to limit s) (λ n. IsTrue (ends_to limit s n)) (p, at) (a, at) on only Trace (note s.places) (last_to limit s) h (pairs at items) ts q
    (λ i. fresh (pairs_has at p items i)) silent y) x
