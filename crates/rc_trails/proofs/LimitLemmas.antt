-- What was seen is told by what would have been found if walks might also end elsewhere.
use Rattle.std.proofs.Common.{◌≡◌, Bool, false, ◌||◌, IsTrue, List, [], ◌∷◌, map, if◌then◌else◌, inl, inr, ⊎_elim, sym, subst, ap, ap₂, ◌∙◌, refl, true≢false}
use Rattle.std.proofs.lemmas.Bool.{cases_Bool}
use Rattle.rc_walks.specs.Walks.{Pair, IsIn, IsWalk, stops, goes, IsEarlier, IsBefore, IsFirstWalk, HasNoWalk, EndsAt}
use Rattle.rc_walks.proofs.CutLemmas.{EndsAt-tail, from_other}
use Rattle.rc_trails.specs.Trails.{IsTrail, IsNoLater, AreSeen, AreSeenBy, Agree}
use Rattle.rc_trails.specs.Limits.{ends_or_out, within, LimitLaw}
use Rattle.rc_trails.proofs.TrailLemmas.{first_over, none_over, seen_here, seen_on, seen_by_here, seen_by_on, seen_earlier}

-- other ends of a walk that ends at a pair where those may
other_end : (ways : Pair → List Pair) (A B : Pair → Type 0) (e : Pair) {p f w : List Pair} → IsWalk ways A p f w → EndsAt w e → B e → IsWalk ways B p f w
other_end ways A B e (stops n here fresh a) at b = stops n here fresh (subst B (sym at) b)
other_end ways A B e (goes n here fresh rest) at b = goes n here fresh (other_end ways A B e rest (EndsAt-tail ways A n e rest at) b)

not_earlier_both : (from : List Pair) (n m : Pair) → IsEarlier from n m → IsEarlier from m n → ⊥
not_earlier_both [] n m a b = a
not_earlier_both (k ∷ from) n m a b =
    ⊎_elim (λ e. b.0 e) (λ p. ⊎_elim (λ e. a.0 e) (λ q. not_earlier_both from n m p q) b.1) a.1

not_earlier_same : (from : List Pair) (n m : Pair) → n ≡ m → IsEarlier from n m → ⊥
not_earlier_same [] n m e a = a
not_earlier_same (k ∷ from) n m e a = ⊎_elim (λ p. a.0 (p ∙ e)) (λ p. not_earlier_same from n m e p) a.1

-- nothing comes before what comes no later
module _ (ways : Pair → List Pair) where
  later_not : (from v w : List Pair) → IsNoLater ways from v w → IsBefore ways from w v → ⊥
  later_not from [] [] h b = b
  later_not from [] (m ∷ w) h b = b
  later_not from (n ∷ v) [] h b = h
  later_not from (n ∷ v) (m ∷ w) h b =
      ⊎_elim
      (λ x. ⊎_elim (λ y. not_earlier_both from n m x y) (λ y. not_earlier_same from n m (sym y.0) x) b)
      (λ x. ⊎_elim (λ y. not_earlier_same from m n (sym x.0) y)
      (λ y. later_not (ways n) v w x.1 (subst (λ k. IsBefore ways (ways k) w v) y.0 y.1)) b)
      h

module _ (ways : Pair → List Pair) (ends out : Pair → Bool) where
  abbrev Both : Pair → Type 0
  Both n = IsTrue (ends_or_out ends out n)

  abbrev Seen : Pair → Type 0
  Seen n = out n ≡ false

  both_out : (n : Pair) → IsTrue (out n) → Both n
  both_out n e = ⊎_elim (λ t. rw t refl) (λ f. rw f e) (cases_Bool (ends n))

  none_seen : (passed from : List Pair) → HasNoWalk ways Both passed from → AreSeen ways passed from Seen
  none_seen passed from none =
      λ v e t at. ⊎_elim (λ o. absurd (none v (other_end ways (λ n. Unit {0}) Both e t at (both_out e o)))) (λ f. f) (cases_Bool (out e))

  first_seen : (passed from w : List Pair) (e : Pair) → IsFirstWalk ways Both passed from w → EndsAt w e → out e ≡ false →
      AreSeenBy ways passed from w Seen
  first_seen passed from w e first at inside =
      λ v k t late here. ⊎_elim
      (λ o. absurd (let b = other_end ways (λ n. Unit {0}) Both k t here (both_out k o) in
      ⊎_elim
      (λ same. true≢false (sym o ∙ ap out (same_end v k e here (subst (λ x. EndsAt x e) (sym same) at)) ∙ inside))
      (λ before. later_not ways from v w late before)
      (first.is_least v b)))
      (λ f. f) (cases_Bool (out k))
    where
      same_end : (v : List Pair) (k e : Pair) → EndsAt v k → EndsAt v e → k ≡ e
      same_end [] k e a b = absurd a
      same_end (n ∷ []) k e a b = sym a ∙ b
      same_end (n ∷ m ∷ v) k e a b = same_end (m ∷ v) k e a b

map_same : (xs : List Pair) → map (λ n. n) xs ≡ xs
map_same [] = refl
map_same (x ∷ xs) = ap (λ ys. x ∷ ys) (map_same xs)

module _ (ways : Pair → List Pair) (ends out : Pair → Bool) (last : (n m : Pair) → IsTrue (ends n) → ¬ IsIn m (ways n)) where
  abbrev cut : Pair → List Pair
  cut = within ways out

  abbrev Inside : Pair → Type 0
  Inside n = out n ≡ false

  same_inside : (n : Pair) → Inside n → cut n ≡ ways n
  same_inside n e = ap (λ b. if b then [] else ways n) e

  agree : Agree cut ways (λ n. IsTrue (ends_or_out ends out n)) (λ n. IsTrue (ends n)) (λ n. n) Inside
  agree = record {
    same_ways = λ n e. sym (map_same (cut n) ∙ same_inside n e);
    ends = λ n e b. ⊎_elim (λ t. t) (λ f. absurd (true≢false (sym b ∙ ap₂ ◌||◌ f e))) (cases_Bool (ends n));
    ends_back = λ n e b. rw b refl;
    last = λ n m b i. ⊎_elim (λ o. subst (λ c. ¬ IsIn m (if c then [] else ways n)) (sym o) (λ never. never) i)
        (λ f. ⊎_elim (λ t. last n m t (subst (IsIn m) (same_inside n f) i)) (λ g. true≢false (sym b ∙ ap₂ ◌||◌ g f)) (cases_Bool (ends n)))
        (cases_Bool (out n));
    one = λ n m e. e;
  }

  -- a trail that stays inside is one of the cut graph
  trails_all : {p f v : List Pair} → IsTrail ways p f v → AreSeen cut p f Inside → IsTrail cut p f v
  trails_all (stops n here fresh e) all = stops n here fresh tt
  trails_all {p} {f} (goes {w = w} n here fresh rest) all =
      let same = same_inside n (seen_here cut Inside n all here fresh) in
      goes n here fresh
      (subst (λ g. IsTrail cut (n ∷ p) g w) (sym same)
      (trails_all rest (subst (λ g. AreSeen cut (n ∷ p) g Inside) same (seen_on cut Inside n all here fresh))))

  trails_by : {p f v : List Pair} → IsTrail ways p f v → (w : List Pair) → IsNoLater ways f v w → AreSeenBy cut p f w Inside →
      IsTrail cut p f v × IsNoLater cut f v w
  trails_by (stops n here fresh e) [] late some = absurd late
  trails_by (stops n here fresh e) (m ∷ w) late some = (stops n here fresh tt, ⊎_elim (λ a. inl a) (λ q. inr (q.0, tt)) late)
  trails_by (goes n here fresh rest) [] late some = absurd late
  trails_by {p} {f} (goes {w = v} n here fresh rest) (m ∷ w) late some =
      ⊎_elim
      (λ a. (
        from_other cut (λ k. Unit {0}) n f here
            (trails_all (goes n (inl refl) fresh rest) (seen_earlier cut Inside n m some here a)),
        inl a,
      ))
      (λ q. let here_by = subst (λ k. AreSeenBy cut p f (k ∷ w) Inside) (sym q.0) some in
      let same = same_inside n (seen_by_here cut Inside n here_by here fresh) in
      let r = trails_by rest w q.1 (subst (λ g. AreSeenBy cut (n ∷ p) g w Inside) same (seen_by_on cut Inside n here_by here fresh)) in (
        goes n here fresh (subst (λ g. IsTrail cut (n ∷ p) g v) (sym same) r.0),
        inr (q.0, subst (λ g. IsNoLater cut g v w) (sym same) r.1),
      ))
      late

  all_inside : (passed from : List Pair) → AreSeen cut passed from Inside → AreSeen ways passed from Inside
  all_inside passed from all = λ v e t at. all v e (trails_all t all) at

  some_inside : (passed from w : List Pair) → AreSeenBy cut passed from w Inside → AreSeenBy ways passed from w Inside
  some_inside passed from w some = λ v e t late at. let r = trails_by t w late some in some v e r.0 r.1 at

  pub first_limit : (passed from w : List Pair) (e : Pair) → IsFirstWalk cut (λ n. IsTrue (ends_or_out ends out n)) passed from w → EndsAt w e → out e ≡ false →
      IsFirstWalk ways (λ n. IsTrue (ends n)) passed from w × AreSeenBy ways passed from w Inside
  first_limit passed from w e first at inside =
      let some = first_seen cut ends out passed from w e first at inside in
      let over = first_over cut ways (λ n. IsTrue (ends_or_out ends out n)) (λ n. IsTrue (ends n)) (λ n. n) Inside agree passed from w some first in (
        subst (λ z. IsFirstWalk ways (λ n. IsTrue (ends n)) z from w) (map_same passed)
            (subst (λ z. IsFirstWalk ways (λ n. IsTrue (ends n)) (map (λ n. n) passed) z w) (map_same from)
            (subst (λ z. IsFirstWalk ways (λ n. IsTrue (ends n)) (map (λ n. n) passed) (map (λ n. n) from) z) (map_same w) over)),
        some_inside passed from w some,
      )

  pub none_limit : (passed from : List Pair) → HasNoWalk cut (λ n. IsTrue (ends_or_out ends out n)) passed from →
      HasNoWalk ways (λ n. IsTrue (ends n)) passed from × AreSeen ways passed from Inside
  none_limit passed from none =
      let all = none_seen cut ends out passed from none in
      let over = none_over cut ways (λ n. IsTrue (ends_or_out ends out n)) (λ n. IsTrue (ends n)) (λ n. n) Inside agree passed from all none in (
        subst (λ z. HasNoWalk ways (λ n. IsTrue (ends n)) z from) (map_same passed)
            (subst (λ z. HasNoWalk ways (λ n. IsTrue (ends n)) (map (λ n. n) passed) z) (map_same from) over),
        all_inside passed from all,
      )

pub limit_law : LimitLaw
limit_law = record {
  first = λ ways ends out passed from w e last first at inside. first_limit ways ends out last passed from w e first at inside;
  none = λ ways ends out passed from last none. none_limit ways ends out last passed from none;
}
