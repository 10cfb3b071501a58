-- Which sets ranges denote, and which ones a class of them has.
use Rattle.std.proofs.Common.{◌≡◌, ◌↔◌, ◌≤◌, true≢false, ℕ, ◌⊎◌, inl, inr, ⊎_elim, Bool, true, false, not, ◌&&◌, ◌||◌, nat_le, List, [], ◌∷◌, ◌++◌, refl, subst, sym, arith}
use Rattle.std.proofs.lemmas.Bool.{and_parts, or_cases}
use Rattle.unicode.specs.Rows.{in_ranges}
use Rattle.rc_pattern.specs.Re.{Range}
use Rattle.rc_tokens.specs.Classes.{class_of, AreCodes}
use Rattle.rc_tokens.specs.Members.{In, Has}
use Rattle.rc_tokens.proofs.ClassLemmas.{le_true, class_codes, codes_append}
use Rattle.rc_tokens.proofs.ClassMembers.{members_law}
use Rattle.rc_class_sets.specs.Sets.{CodeSet, Denote, AreRangesOf, union, intersection, difference, symmetric_difference, complement}

-- ---- tests

is_not : (b : Bool) → (b ≡ true → ⊥) → not b ≡ true
is_not true h = absurd (h refl)
is_not false h = refl

not_is : (b : Bool) → not b ≡ true → b ≡ true → ⊥
not_is true h e = true≢false (sym h)
not_is false h e = true≢false (sym e)

pub or_left : (a b : Bool) → a ≡ true → (a || b) ≡ true
or_left true b h = refl
or_left false b h = absurd (true≢false (sym h))

pub or_right : (a b : Bool) → b ≡ true → (a || b) ≡ true
or_right true b h = refl
or_right false b h = h

pub le_yes : (a b : ℕ) → a ≤ b → nat_le a b ≡ true
le_yes a b h = grind (arith, h)

pub within : (r : Range) (c : ℕ) → In r c → (nat_le r.0 c && nat_le c r.1) ≡ true
within r c (a, b) = rw (le_yes r.0 c a) (le_yes c r.1 b)

pub inside : (r : Range) (c : ℕ) → (nat_le r.0 c && nat_le c r.1) ≡ true → In r c
inside r c h = let both = and_parts (nat_le r.0 c) (nat_le c r.1) h in (le_true r.0 c both.0, le_true c r.1 both.1)

-- ---- the class of ranges that denote a set

pub ordered_is : (u : Bool) (p : CodeSet) (rs : List Range) → Denote u p rs → AreRangesOf u p (class_of u false false rs)
ordered_is u p rs d = record {
  denote = record {
    codes = class_codes u false false rs d.codes;
    members = λ c is. let m = members_law.members u false false rs c d.codes is in let v = d.members c is in (λ h. v.0 (m.0 h), λ t. m.1 (v.1 t));
  };
  in_order = members_law.in_order u false false rs d.codes;
}

pub complement_is : (u : Bool) (p : CodeSet) (rs : List Range) → Denote u p rs → AreRangesOf u (complement p) (class_of u false true rs)
complement_is u p rs d = record {
  denote = record {
    codes = class_codes u false true rs d.codes;
    members = λ c is. let m = members_law.members u false true rs c d.codes is in let v = d.members c is in (
      λ h. is_not (p c) (λ e. m.0 h (v.1 e)),
      λ t. m.1 (λ g. not_is (p c) t (v.0 g)),
    );
  };
  in_order = members_law.in_order u false true rs d.codes;
}

-- ---- ranges side by side

pub has_left : (xs ys : List Range) (c : ℕ) → Has xs c → Has (xs ++ ys) c
has_left [] ys c h = absurd h
has_left (x ∷ xs) ys c h = ⊎_elim (λ w. inl w) (λ t. inr (has_left xs ys c t)) h

pub has_right : (xs ys : List Range) (c : ℕ) → Has ys c → Has (xs ++ ys) c
has_right [] ys c h = h
has_right (x ∷ xs) ys c h = inr (has_right xs ys c h)

pub has_either : (xs ys : List Range) (c : ℕ) → Has (xs ++ ys) c → Has xs c ⊎ Has ys c
has_either [] ys c h = inr h
has_either (x ∷ xs) ys c h = ⊎_elim (λ w. inl (inl w)) (λ t. ⊎_elim (λ w. inl (inr w)) (λ w. inr w) (has_either xs ys c t)) h

pub union_denoted : (u : Bool) (p q : CodeSet) (rs qs : List Range) → Denote u p rs → Denote u q qs → Denote u (union p q) (rs ++ qs)
union_denoted u p q rs qs v w = record {
  codes = codes_append u rs qs v.codes w.codes;
  members = λ c is. (
    λ h. ⊎_elim (λ g. or_left (p c) (q c) ((v.members c is).0 g)) (λ g. or_right (p c) (q c) ((w.members c is).0 g)) (has_either rs qs c h),
    λ t. ⊎_elim (λ e. has_left rs qs c ((v.members c is).1 e)) (λ e. has_right rs qs c ((w.members c is).1 e)) (or_cases (p c) (q c) t),
  );
}

-- each list of ranges of codes denotes the set of the codes in it
has_in : (rs : List Range) (c : ℕ) → Has rs c → in_ranges rs c ≡ true
unfolding in_ranges
has_in [] c h = absurd h
has_in (r ∷ rs) c h = ⊎_elim (λ w. or_left _ _ (within r c w)) (λ t. or_right (nat_le r.0 c && nat_le c r.1) _ (has_in rs c t)) h

in_has : (rs : List Range) (c : ℕ) → in_ranges rs c ≡ true → Has rs c
unfolding in_ranges
in_has [] c h = absurd (true≢false (sym h))
in_has (r ∷ rs) c h = ⊎_elim (λ w. inl (inside r c w)) (λ t. inr (in_has rs c t)) (or_cases (nat_le r.0 c && nat_le c r.1) (in_ranges rs c) h)

pub ranges_denote : (u : Bool) (rs : List Range) → AreCodes u rs → Denote u (in_ranges rs) rs
ranges_denote u rs h = record { codes = h; members = λ c is. (has_in rs c, in_has rs c) }

-- ---- set operations by complements

pub same_ranges : (u : Bool) (p q : CodeSet) (rs : List Range) → ((c : ℕ) → p c ≡ q c) → AreRangesOf u p rs → AreRangesOf u q rs
same_ranges u p q rs same r = record {
  denote = record {
    codes = r.denote.codes;
    members = λ c is. subst (λ (b : Bool). Has rs c ↔ (b ≡ true)) (same c) (r.denote.members c is);
  };
  in_order = r.in_order;
}

both_same : (a b : Bool) → not (not a || not b) ≡ (a && b)
both_same true true = refl
both_same true false = refl
both_same false b = refl

without_same : (a b : Bool) → not (not a || b) ≡ (a && not b)
without_same true b = refl
without_same false b = refl

one_same : (a b : Bool) → ((a && not b) || (b && not a)) ≡ ((a && not b) || (not a && b))
one_same true true = refl
one_same true false = refl
one_same false true = refl
one_same false false = refl

pub intersection_is : (u : Bool) (p q : CodeSet) (rs : List Range) → AreRangesOf u (complement (union (complement p) (complement q))) rs → AreRangesOf u (intersection p q) rs
intersection_is u p q rs = same_ranges u _ _ rs (λ c. both_same (p c) (q c))

pub difference_is : (u : Bool) (p q : CodeSet) (rs : List Range) → AreRangesOf u (complement (union (complement p) q)) rs → AreRangesOf u (difference p q) rs
difference_is u p q rs = same_ranges u _ _ rs (λ c. without_same (p c) (q c))

pub symmetric_is : (u : Bool) (p q : CodeSet) (rs : List Range) → AreRangesOf u (union (difference p q) (difference q p)) rs → AreRangesOf u (symmetric_difference p q) rs
symmetric_is u p q rs = same_ranges u _ _ rs (λ c. one_same (p c) (q c))
