-- Needles that belong to patterns, where they occur.
use Rattle.std.proofs.Common.{◌≡◌, ℕ, zero, suc, ◌+◌, ◌<◌, ◌≤◌, List, [], ◌∷◌, length, true, false, Option, Some, None, IfSome, sym, ap, ap₂, subst, ◌∙◌, refl, arith, inl, inr, nat_eq, slice_get, slice_index, option_map, eq-eqb}
use Rattle.std.proofs.lemmas.Bool.{cases_Bool, cases_lt}
use Rattle.std.proofs.lemmas.Bool.Decides.{nat_tests}
use Rattle.rc_text.specs.Found.{Found}
use Rattle.rc_text.specs.Text.{Searched, Keeps, high}
use Rattle.rc_needles.specs.declared.hit.Hit.{Hit}
use Rattle.rc_needles.specs.Needles.{stands_within, first_from, needle_at, find_needle, prefix_needle}
use Rattle.rc_needles.specs.Tables.{AreSome, IsNextWith, numbered}
use Rattle.rc_needles.proofs.FindLemmas.{prefix_is}
use Rattle.rc_needles.proofs.RelationLemmas.{first_to, get_some, some_get, none_to, true_within, within_true}
use Rattle.rc_needles.proofs.StandLemmas.{begins_with, false_if_not}
use Rattle.rc_needles.proofs.StartLemmas.{find_found}
use Rattle.rc_literals.specs.Answers.{Owned, found_for, needles_for, own_needles}

-- a needle that is found is one of them

pub at_below : (needles : List (List ℕ)) (content : List ℕ) (hi i : ℕ) (hit : Hit) → needle_at needles content hi i ≡ Some hit → hit.number < length needles
at_below needles content hi i hit e =
    let r = first_to needles content hi i hit e in (get_some needles hit.number r.needle r.is).0

pub find_below : (needles : List (List ℕ)) (content : List ℕ) (lo hi : ℕ) (hit : Hit) → find_needle needles content lo hi ≡ Some hit → hit.number < length needles
find_below needles content lo hi hit e = at_below needles content hi hit.start hit (find_found needles content lo hi hit e).here

pub prefix_below : (needles : List (List ℕ)) (content : List ℕ) (lo hi : ℕ) (hit : Hit) → prefix_needle needles content lo hi ≡ Some hit → hit.number < length needles
prefix_below needles content lo hi hit e = at_below needles content hi lo hit (prefix_is needles content lo hi ∙ e)

pub if_found : (o : Option Hit) (needles : List (List ℕ)) (content : List ℕ) (lo hi : ℕ) (n : ℕ) → n ≡ length needles →
    o ≡ find_needle needles content lo hi → IfSome o (λ h. h.number < n)
if_found None needles content lo hi n same e = tt
if_found (Some hit) needles content lo hi n same e = subst (λ m. hit.number < m) (sym same) (find_below needles content lo hi hit (sym e))

pub if_prefix : (o : Option Hit) (needles : List (List ℕ)) (content : List ℕ) (lo hi : ℕ) (n : ℕ) → n ≡ length needles →
    o ≡ prefix_needle needles content lo hi → IfSome o (λ h. h.number < n)
if_prefix None needles content lo hi n same e = tt
if_prefix (Some hit) needles content lo hi n same e = subst (λ m. hit.number < m) (sym same) (prefix_below needles content lo hi hit (sym e))

-- The needles of one pattern.

abbrev pub match_of : ℕ → Hit → Found
match_of p h = record { pattern = p; start = h.start; end = h.end }

-- none of them occurs
own_none_from : (p : ℕ) (owners : List ℕ) (needles : List (List ℕ)) (content : List ℕ) (hi i m : ℕ) → length owners ≡ length needles →
    ((k : ℕ) → k < length needles → slice_index owners k ≡ p → stands_within content hi i (numbered needles k) ≡ false) →
    first_from content hi i m (own_needles p owners needles) ≡ None
own_none_from p [] needles content hi i m same none = refl
own_none_from p (q ∷ qs) [] content hi i m same none = refl
own_none_from p (q ∷ qs) (w ∷ ws) content hi i m same none =
    let rest : (j : ℕ) → first_from content hi i j (own_needles p qs ws) ≡ None =
    λ j. own_none_from p qs ws content hi i j (omega (arith, same)) (λ k l own. none (suc k) (omega (arith, l)) own) in
    elim (cases_Bool (nat_eq q p)) [
      | inl own ↦
          let is : q ≡ p = grind (arith, nat_tests) in
          rw (own, none 0 (omega arith) is) (rest (m + 1))
      | inr other ↦ rw other (rest m)
    ]

-- it is the first of them that occurs
own_first_from : (p : ℕ) (owners : List ℕ) (needles : List (List ℕ)) (content : List ℕ) (hi i m k : ℕ) → length owners ≡ length needles →
    k < length needles → slice_index owners k ≡ p → stands_within content hi i (numbered needles k) ≡ true →
    ((j : ℕ) → j < k → slice_index owners j ≡ p → stands_within content hi i (numbered needles j) ≡ false) →
    option_map (match_of p) (first_from content hi i m (own_needles p owners needles))
    ≡ Some (let f : Found = record { pattern = p; start = i; end = i + length (numbered needles k) } in f)
own_first_from p [] needles content hi i m k same below own here none = absurd (omega (arith, same, below))
own_first_from p (q ∷ qs) [] content hi i m k same below own here none = absurd (omega (arith, same))
own_first_from p (q ∷ qs) (w ∷ ws) content hi i m zero same below own here none = rw (eq-eqb q p own, here) refl
own_first_from p (q ∷ qs) (w ∷ ws) content hi i m (suc k) same below own here none =
    let rest = λ (j : ℕ). own_first_from p qs ws content hi i j k (omega (arith, same)) (omega (arith, below)) own here
    (λ n l mine. none (suc n) (omega (arith, l)) mine) in
    elim (cases_Bool (nat_eq q p)) [
      | inl mine ↦
          let is : q ≡ p = grind (arith, nat_tests) in
          rw (mine, none 0 (omega arith) is) (rest (m + 1))
      | inr other ↦ rw other (rest m)
    ]

-- none of them below the number occurs
abbrev pub NoneOwn : Owned → List ℕ → ℕ → ℕ → ℕ → ℕ → Type 0
NoneOwn o content hi i p n =
    (k : ℕ) → k < n → k < length o.needles → slice_index o.owners k ≡ p → stands_within content hi i (numbered o.needles k) ≡ false

module _ (o : Owned) (content : List ℕ) (hi i p : ℕ) (same : length o.owners ≡ length o.needles) where
  abbrev NoneTo : ℕ → Type 0
  NoneTo = NoneOwn o content hi i p

  abbrev pub own_at : Option Found
  own_at = option_map (found_for (Some p) o) (needle_at (needles_for (Some p) o) content hi i)

  pub own_none : (n : ℕ) → length o.needles ≤ n → NoneTo n → None ≡ own_at
  own_none n l none =
      ap (option_map (match_of p)) (sym (own_none_from p o.owners o.needles content hi i 0 same (λ k m own. none k (omega (arith, l, m)) m own)))

  pub own_first : (k : ℕ) → k < length o.needles → slice_index o.owners k ≡ p → stands_within content hi i (numbered o.needles k) ≡ true → NoneTo k →
      Some (let f : Found = record { pattern = p; start = i; end = i + length (numbered o.needles k) } in f) ≡ own_at
  own_first k l own here none =
      sym (own_first_from p o.owners o.needles content hi i 0 k same l own here (λ j m mine. none j m (omega (arith, m, l)) mine))

  -- the first of all needles is theirs
  pub own_hit : (hit : Hit) → needle_at o.needles content hi i ≡ Some hit → slice_index o.owners hit.number ≡ p →
      Some (match_of p hit) ≡ own_at
  own_hit hit e own =
      let r = first_to o.needles content hi i hit e in
      let g = get_some o.needles hit.number r.needle r.is in
      let here : stands_within content hi i (numbered o.needles hit.number) ≡ true =
      ap (stands_within content hi i) g.1 ∙ within_true content r.needle hi i r.stands in
      let none : NoneTo hit.number =
      λ k l m mine. false_if_not (stands_within content hi i (numbered o.needles k))
      (λ t. r.none_earlier k (numbered o.needles k) l (some_get o.needles k m) (true_within content (numbered o.needles k) hi i t)) in
      let end : hit.end ≡ i + length (numbered o.needles hit.number) = r.end ∙ ap (λ w. i + length w) (sym g.1) in
      ap₂ (λ a b. let f : Found = record { pattern = p; start = a; end = b } in Some f) r.start end
      ∙ own_first hit.number g.0 own here none

  -- no needle occurs at all
  pub none_own : needle_at o.needles content hi i ≡ None → None ≡ own_at
  none_own e =
      own_none (length o.needles) (omega arith)
      (λ k l m mine. false_if_not (stands_within content hi i (numbered o.needles k))
      (λ t. none_to o.needles content hi i e k (numbered o.needles k) (some_get o.needles k m) (true_within content (numbered o.needles k) hi i t)))

  -- from one needle to the next that begins with the byte
  pub own_one_more : (n : ℕ) → NoneTo n → (slice_index o.owners n ≡ p → stands_within content hi i (numbered o.needles n) ≡ false) → NoneTo (n + 1)
  own_one_more n below here k l m mine =
      elim (cases_lt k n) [
        | inl h ↦ below k h m mine
        | inr h ↦
            let e : k ≡ n = omega arith in
            subst (λ j. stands_within content hi i (numbered o.needles j) ≡ false) (sym e) (here (ap (slice_index o.owners) (sym e) ∙ mine))
      ]

  pub own_to_next : (b from r : ℕ) → AreSome o.needles → slice_get content i ≡ Some b → NoneTo from → IsNextWith o.needles b from r → NoneTo r
  own_to_next b from r some at below next k l m mine =
      elim (cases_lt k from) [
        | inl h ↦ below k h m mine
        | inr h ↦ false_if_not (stands_within content hi i (numbered o.needles k))
            (λ e. next.none_between k h l (begins_with content hi i b (numbered o.needles k) (some k m) at e))
      ]

  -- where the bounds begin
  pub at_prefix : own_at ≡ option_map (found_for (Some p) o) (prefix_needle (needles_for (Some p) o) content i hi)
  at_prefix = ap (option_map (found_for (Some p) o)) (prefix_is (needles_for (Some p) o) content i hi)

  pub none_prefix : None ≡ prefix_needle o.needles content i hi →
      None ≡ option_map (found_for (Some p) o) (prefix_needle (needles_for (Some p) o) content i hi)
  none_prefix e = none_own (prefix_is o.needles content i hi ∙ sym e) ∙ at_prefix

  pub hit_prefix : (hit : Hit) → Some hit ≡ prefix_needle o.needles content i hi → slice_index o.owners hit.number ≡ p →
      Some (match_of p hit) ≡ option_map (found_for (Some p) o) (prefix_needle (needles_for (Some p) o) content i hi)
  hit_prefix hit e own = own_hit hit (prefix_is o.needles content i hi ∙ sym e) own ∙ at_prefix

pub same_high : (s t : Searched) → Keeps s t → high t ≡ high s
same_high s t k = rw (k.span, k.slice, k.content) refl
