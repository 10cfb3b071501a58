-- The characters that fold with those of a range, by the sorted table of pairs.
use Rattle.std.proofs.Common.{◌≡◌, ℕ, zero, suc, ◌+◌, ◌<◌, ◌≤◌, ◌⊎◌, inl, inr, ⊎_elim, Bool, true, false, ◌&&◌, ◌||◌, ◌==◌, nat_le, nat_lt, List, [], ◌∷◌, length, drop, slice_index_or, refl, sym, ap, subst, ◌∙◌, true≢false, eqb-true, eq-eqb, arith, le_of_suc-le-suc, suc-le-suc, not-suc-le-zero, zero-lt-suc}
use Rattle.std.specs.List.{list_any, list_all}
use Rattle.std.specs.List.Sorted.{IsNonDecreasingBy}
use Rattle.std.proofs.lemmas.Bool.{and_parts, or_cases, ltb-true}
use Rattle.std.proofs.lemmas.List.{drop_more}
use Rattle.unicode.specs.CaseFolding.{fold_pairs}
use Rattle.ucd_case.specs.FoldOtherRows.{fold_other_rows}
use Rattle.unicode.proofs.BoundLemmas.{pairs_rise, pairs_rise-fold_pairs}
use Rattle.rc_pattern.specs.Re.{Range}
use Rattle.rc_tokens.specs.Text.{is_scalar}
use Rattle.rc_tokens.specs.Classes.{AreCodes}
use Rattle.rc_tokens.specs.Members.{In, Has}
use Rattle.rc_tokens.proofs.ClassLemmas.{if_elim, codes_append}
use Rattle.rc_class_sets.specs.Sets.{CodeSet, Denote}
use Rattle.rc_class_sets.specs.Folding.{folded}
use Rattle.rc_class_sets.specs.Others.{others, with_others}
use Rattle.rc_class_sets.proofs.SetLemmas.{or_left, or_right, within, inside, has_left, has_right, has_either}

-- ---- the table's order

first_up : (last pair : ℕ × ℕ) (b : Bool) → (nat_lt last.0 pair.0 || ((last.0 == pair.0) && b)) ≡ true → last.0 ≤ pair.0
first_up last pair b h = ⊎_elim (λ l. let less = ltb-true last.0 pair.0 l in omega (arith, less))
    (λ e. let same = eqb-true last.0 pair.0 (and_parts (last.0 == pair.0) b e).0 in omega (arith, same)) (or_cases (nat_lt last.0 pair.0) ((last.0 == pair.0) && b) h)

rise_least : (last : ℕ × ℕ) (ps : List (ℕ × ℕ)) (j : ℕ) (d : ℕ × ℕ) → pairs_rise last ps ≡ true → j < length ps → last.0 ≤ (slice_index_or ps j d).0
unfolding pairs_rise
rise_least last [] j d h lt = absurd (not-suc-le-zero lt)
rise_least last (p ∷ ps) zero d h lt = let parts = and_parts (nat_lt last.0 p.0 || ((last.0 == p.0) && nat_lt last.1 p.1)) (pairs_rise p ps) h in first_up last p (nat_lt last.1 p.1) parts.0
rise_least last (p ∷ ps) (suc j) d h lt =
    let parts = and_parts (nat_lt last.0 p.0 || ((last.0 == p.0) && nat_lt last.1 p.1)) (pairs_rise p ps) h in
    let first = first_up last p (nat_lt last.1 p.1) parts.0 in
    let rest = rise_least p ps j d parts.1 (le_of_suc-le-suc lt) in
    omega (arith, first, rest)

rise_up : (last : ℕ × ℕ) (ps : List (ℕ × ℕ)) → pairs_rise last ps ≡ true → IsNonDecreasingBy (λ (pair : ℕ × ℕ). pair.0) ps
unfolding pairs_rise
rise_up last [] h i j d le lt = absurd (not-suc-le-zero lt)
rise_up last (p ∷ ps) h zero zero d le lt = omega arith
rise_up last (p ∷ ps) h zero (suc j) d le lt = rise_least p ps j d (and_parts (nat_lt last.0 p.0 || ((last.0 == p.0) && nat_lt last.1 p.1)) (pairs_rise p ps) h).1 (le_of_suc-le-suc lt)
rise_up last (p ∷ ps) h (suc i) zero d le lt = absurd (not-suc-le-zero le)
rise_up last (p ∷ ps) h (suc i) (suc j) d le lt = rise_up p ps (and_parts (nat_lt last.0 p.0 || ((last.0 == p.0) && nat_lt last.1 p.1)) (pairs_rise p ps) h).1 i j d (le_of_suc-le-suc le) (le_of_suc-le-suc lt)

pub fold_pairs_up : IsNonDecreasingBy (λ (pair : ℕ × ℕ). pair.0) fold_pairs
fold_pairs_up = rise_up (0, 0) fold_pairs pairs_rise-fold_pairs

-- ---- the part of the table that a range needs

below_misses : (r : Range) (pair : ℕ × ℕ) (folds : List (ℕ × ℕ)) → pair.0 < r.0 → others r (pair ∷ folds) ≡ others r folds
below_misses r pair folds less = if_elim (λ x. x ≡ others r folds) (nat_le r.0 pair.0 && nat_le pair.0 r.1) ((pair.1, pair.1) ∷ others r folds) (others r folds)
    (λ y. let at = inside r pair.0 y in absurd (omega (arith, less, at.0))) (λ _. refl)

above_misses : (r : Range) (pair : ℕ × ℕ) (folds : List (ℕ × ℕ)) → r.1 < pair.0 → others r (pair ∷ folds) ≡ others r folds
above_misses r pair folds less = if_elim (λ x. x ≡ others r folds) (nat_le r.0 pair.0 && nat_le pair.0 r.1) ((pair.1, pair.1) ∷ others r folds) (others r folds)
    (λ y. let at = inside r pair.0 y in absurd (omega (arith, less, at.1))) (λ _. refl)

others_hit : (r : Range) (pair : ℕ × ℕ) (folds : List (ℕ × ℕ)) → r.0 ≤ pair.0 → pair.0 ≤ r.1 → others r (pair ∷ folds) ≡ (pair.1, pair.1) ∷ others r folds
others_hit r pair folds low high = if_elim (λ x. x ≡ (pair.1, pair.1) ∷ others r folds) (nat_le r.0 pair.0 && nat_le pair.0 r.1) ((pair.1, pair.1) ∷ others r folds) (others r folds)
    (λ _. refl) (λ f. absurd (true≢false (sym (within r pair.0 (low, high)) ∙ f)))

-- pairs before the range bring nothing
others_skip : (r : Range) (folds : List (ℕ × ℕ)) (n : ℕ) → n ≤ length folds → ((k : ℕ) (d : ℕ × ℕ) → k < n → (slice_index_or folds k d).0 < r.0) → others r folds ≡ others r (drop n folds)
others_skip r folds zero le h = refl
others_skip r [] (suc n) le h = absurd (not-suc-le-zero le)
others_skip r (pair ∷ folds) (suc n) le h = below_misses r pair folds (h zero pair (zero-lt-suc n)) ∙ others_skip r folds n (le_of_suc-le-suc le) (λ k d lt. h (suc k) d (suc-le-suc lt))

-- nor do pairs after it
others_past : (r : Range) (folds : List (ℕ × ℕ)) (i : ℕ) → ((k : ℕ) → i ≤ k → k < length folds → r.1 < (slice_index_or folds k (0, 0)).0) → others r (drop i folds) ≡ []
others_past r [] zero h = refl
others_past r [] (suc i) h = refl
others_past r (pair ∷ folds) zero h = above_misses r pair folds (h zero (omega arith) (zero-lt-suc (length folds)))
    ∙ others_past r folds zero (λ k le lt. h (suc k) (omega arith) (suc-le-suc lt))
others_past r (pair ∷ folds) (suc i) h = others_past r folds i (λ k le lt. h (suc k) (suc-le-suc le) (suc-le-suc lt))

-- ---- over the table as the code has it

module _ (r : Range) (folds : List (ℕ × ℕ)) (is : folds ≡ fold_pairs) where
  pub table_up : IsNonDecreasingBy (λ (pair : ℕ × ℕ). pair.0) folds
  table_up = subst (λ fs. IsNonDecreasingBy (λ (pair : ℕ × ℕ). pair.0) fs) (sym is) fold_pairs_up

  pub table_skip : (n : ℕ) → n ≤ length folds → ((k : ℕ) (d : ℕ × ℕ) → 0 ≤ k → k < n → nat_lt (slice_index_or folds k d).0 r.0 ≡ true) → others r fold_pairs ≡ others r (drop n fold_pairs)
  table_skip n le h = subst (λ fs. others r fs ≡ others r (drop n fs)) is (others_skip r folds n le (λ k d lt. ltb-true _ _ (h k d (omega arith) lt)))

  pub table_past : (i : ℕ) → r.1 < (slice_index_or folds i (0, 0)).0 → others r (drop i fold_pairs) ≡ []
  table_past i less = subst (λ fs. others r (drop i fs) ≡ []) is (others_past r folds i (λ k le lt. let up = table_up i k (0, 0) le lt in omega (arith, less, up)))

  pub table_hit : (i : ℕ) → i < length folds → r.0 ≤ (slice_index_or folds i (0, 0)).0 → (slice_index_or folds i (0, 0)).0 ≤ r.1
      → others r (drop i fold_pairs) ≡ ((slice_index_or folds i (0, 0)).1, (slice_index_or folds i (0, 0)).1) ∷ others r (drop (i + 1) fold_pairs)
  table_hit i lt low high = subst (λ fs. others r (drop i fs) ≡ ((slice_index_or folds i (0, 0)).1, (slice_index_or folds i (0, 0)).1) ∷ others r (drop (i + 1) fs)) is
      (ap (others r) (drop_more folds i (0, 0) lt) ∙ others_hit r (slice_index_or folds i (0, 0)) (drop (i + 1) folds) low high)

-- ---- what is brought

-- the pair stands in the list
abbrev Paired : List (ℕ × ℕ) → ℕ → ℕ → Type 0
Paired [] a b = ⊥
Paired (f ∷ folds) a b = ((f.0 ≡ a) × (f.1 ≡ b)) ⊎ Paired folds a b

others_to : (r : Range) (folds : List (ℕ × ℕ)) (c : ℕ) → Has (others r folds) c → (a : ℕ) × Paired folds a c × In r a
others_to r [] c h = absurd h
others_to r (f ∷ folds) c h = if_elim (λ rs. Has rs c → (a : ℕ) × Paired (f ∷ folds) a c × In r a) (nat_le r.0 f.0 && nat_le f.0 r.1) ((f.1, f.1) ∷ others r folds) (others r folds)
    (λ y k. ⊎_elim (λ (a, b). (f.0, inl (refl, omega (arith, a, b)), inside r f.0 y)) (λ t. let w = others_to r folds c t in (w.0, inr w.1, w.2)) k)
    (λ _ t. let w = others_to r folds c t in (w.0, inr w.1, w.2)) h

others_from : (r : Range) (folds : List (ℕ × ℕ)) (c a : ℕ) → Paired folds a c → In r a → Has (others r folds) c
others_from r [] c a h at = absurd h
others_from r (f ∷ folds) c a h at = if_elim (λ rs. Has rs c) (nat_le r.0 f.0 && nat_le f.0 r.1) ((f.1, f.1) ∷ others r folds) (others r folds)
    (λ _. ⊎_elim (λ (same, is). inl (omega (arith, is), omega (arith, is))) (λ t. inr (others_from r folds c a t at)) h)
    (λ n. ⊎_elim (λ (same, is). absurd (true≢false (sym (within r f.0 (subst (In r) (sym same) at)) ∙ n))) (λ t. others_from r folds c a t at) h)

with_to : (folds : List (ℕ × ℕ)) (rs : List Range) (c : ℕ) → Has (with_others folds rs) c → Has rs c ⊎ ((a : ℕ) × Paired folds a c × Has rs a)
with_to folds [] c h = absurd h
with_to folds (r ∷ rs) c h =
    ⊎_elim (λ w. inl (inl w))
    (λ t. ⊎_elim (λ o. let w = others_to r folds c o in inr (w.0, w.1, inl w.2))
    (λ l. ⊎_elim (λ w. inl (inr w)) (λ (a, pair, at). inr (a, pair, inr at)) (with_to folds rs c l)) (has_either (others r folds) (with_others folds rs) c t)) h

with_own : (folds : List (ℕ × ℕ)) (rs : List Range) (c : ℕ) → Has rs c → Has (with_others folds rs) c
with_own folds [] c h = absurd h
with_own folds (r ∷ rs) c h = ⊎_elim (λ w. inl w) (λ t. inr (has_right (others r folds) (with_others folds rs) c (with_own folds rs c t))) h

with_brought : (folds : List (ℕ × ℕ)) (rs : List Range) (c a : ℕ) → Paired folds a c → Has rs a → Has (with_others folds rs) c
with_brought folds [] c a pair h = absurd h
with_brought folds (r ∷ rs) c a pair h =
    ⊎_elim (λ at. inr (has_left (others r folds) (with_others folds rs) c (others_from r folds c a pair at)))
    (λ t. inr (has_right (others r folds) (with_others folds rs) c (with_brought folds rs c a pair t))) h

any_to : (p : CodeSet) (folds : List (ℕ × ℕ)) (c : ℕ) → list_any (λ (pair : ℕ × ℕ). (pair.1 == c) && p pair.0) folds ≡ true → (a : ℕ) × Paired folds a c × (p a ≡ true)
any_to p [] c h = absurd (true≢false (sym h))
any_to p (f ∷ folds) c h =
    ⊎_elim (λ w. let parts = and_parts (f.1 == c) (p f.0) w in (f.0, inl (refl, eqb-true f.1 c parts.0), parts.1))
    (λ t. let w = any_to p folds c t in (w.0, inr w.1, w.2)) (or_cases ((f.1 == c) && p f.0) _ h)

both : (a b : Bool) → a ≡ true → b ≡ true → (a && b) ≡ true
both true b e f = f
both false b e f = absurd (true≢false (sym e))

any_from : (p : CodeSet) (folds : List (ℕ × ℕ)) (c a : ℕ) → Paired folds a c → p a ≡ true → list_any (λ (pair : ℕ × ℕ). (pair.1 == c) && p pair.0) folds ≡ true
any_from p [] c a h e = absurd h
any_from p (f ∷ folds) c a h e =
    ⊎_elim (λ (same, is). or_left _ _ (both (f.1 == c) (p f.0) (eq-eqb f.1 c is) (ap p same ∙ e)))
    (λ t. or_right ((f.1 == c) && p f.0) _ (any_from p folds c a t e)) h

-- ---- each character of the table is one

abbrev are_scalars : ℕ × ℕ → Bool
are_scalars pair = is_scalar pair.0 && is_scalar pair.1

table_scalars : list_all are_scalars fold_pairs ≡ true
unfolding fold_pairs fold_other_rows
table_scalars = refl

paired_scalars : (folds : List (ℕ × ℕ)) (a b : ℕ) → list_all are_scalars folds ≡ true → Paired folds a b → is_scalar a ≡ true
paired_scalars [] a b all h = absurd h
paired_scalars (f ∷ folds) a b all h =
    let parts = and_parts (are_scalars f) (list_all are_scalars folds) all in
    ⊎_elim (λ (same, is). ap is_scalar (sym same) ∙ (and_parts (is_scalar f.0) (is_scalar f.1) parts.0).0) (paired_scalars folds a b parts.1) h

others_codes : (r : Range) (folds : List (ℕ × ℕ)) → list_all are_scalars folds ≡ true → AreCodes true (others r folds)
others_codes r [] all = tt
others_codes r (f ∷ folds) all =
    let parts = and_parts (are_scalars f) (list_all are_scalars folds) all in
    let second = (and_parts (is_scalar f.0) (is_scalar f.1) parts.0).1 in
    if_elim (λ rs. AreCodes true rs) (nat_le r.0 f.0 && nat_le f.0 r.1) ((f.1, f.1) ∷ others r folds) (others r folds)
    (λ _. (second, second, omega arith, others_codes r folds parts.1)) (λ _. others_codes r folds parts.1)

with_codes : (folds : List (ℕ × ℕ)) (rs : List Range) → list_all are_scalars folds ≡ true → AreCodes true rs → AreCodes true (with_others folds rs)
with_codes folds [] all h = tt
with_codes folds (r ∷ rs) all h = (h.0, h.1, h.2, codes_append true (others r folds) (with_others folds rs) (others_codes r folds all) (with_codes folds rs all h.3))

pub with_others_codes : (rs : List Range) → AreCodes true rs → AreCodes true (with_others fold_pairs rs)
with_others_codes rs = with_codes fold_pairs rs table_scalars

-- ranges and what folds with their characters denote the folded set
pub others_denote : (p : CodeSet) (rs : List Range) → Denote true p rs → Denote true (folded true p) (with_others fold_pairs rs)
others_denote p rs v = record {
  codes = with_others_codes rs v.codes;
  members = λ c is. (
    λ h. ⊎_elim (λ w. or_left (p c) _ ((v.members c is).0 w))
        (λ (a, pair, at). or_right (p c) _ (any_from p fold_pairs c a pair ((v.members a (paired_scalars fold_pairs a c table_scalars pair)).0 at)))
        (with_to fold_pairs rs c h),
    λ t. ⊎_elim (λ e. with_own fold_pairs rs c ((v.members c is).1 e))
        (λ e. let w = any_to p fold_pairs c e in with_brought fold_pairs rs c w.0 w.1 ((v.members w.0 (paired_scalars fold_pairs w.0 c table_scalars w.1)).1 w.2))
        (or_cases (p c) _ t),
  );
}
