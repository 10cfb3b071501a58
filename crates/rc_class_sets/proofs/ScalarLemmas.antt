-- What is left of ranges of code points has their scalars.
use Rattle.std.proofs.Common.{◌≡◌, ◌↔◌, ◌≤◌, ◌<◌, ◌+◌, ℕ, inl, ⊎_elim, Bool, true, false, ◌&&◌, nat_le, nat_lt, List, [], ◌∷◌, min, max, refl, sym, subst, ◌∙◌, true≢false, arith}
use Rattle.std.specs.List.{list_all}
use Rattle.std.proofs.lemmas.Bool.{and_parts, or_cases}
use Rattle.unicode.specs.Rows.{in_ranges, is_range, ranges_rise, AreRanges, HasExactly}
use Rattle.rc_pattern.specs.Re.{Range}
use Rattle.rc_tokens.specs.Classes.{is_code, AreCodes}
use Rattle.rc_tokens.specs.Members.{In, Has}
use Rattle.rc_tokens.proofs.ClassLemmas.{le_true, code_is, if_elim, codes_append}
use Rattle.rc_class_sets.specs.Sets.{CodeSet, Denote}
use Rattle.rc_class_sets.specs.Scalars.{below_surrogates, above_surrogates, cut}
use Rattle.rc_class_sets.proofs.SetLemmas.{or_left, or_right, le_yes, within, inside, has_left, has_right, has_either}

pub low_code : (c : ℕ) → c ≤ 0xD7FF → is_code true c ≡ true
low_code c h = or_left (nat_lt c 0xD800) _ (grind (arith, h))

pub high_code : (c : ℕ) → 0xE000 ≤ c → c ≤ 0x10FFFF → is_code true c ≡ true
high_code c h g = or_right (nat_lt c 0xD800) _ (grind (arith, h, g))

and_both : (a b : Bool) → a ≡ true → b ≡ true → (a && b) ≡ true
and_both true b e f = f
and_both false b e f = absurd (true≢false (sym e))

below_codes : (r : Range) → r.0 ≤ r.1 → AreCodes true (below_surrogates r)
below_codes r l = if_elim (λ rs. AreCodes true rs) (nat_le r.0 0xD7FF) ((r.0, min r.1 0xD7FF) ∷ []) []
    (λ h. let a = le_true r.0 0xD7FF h in (low_code r.0 a, low_code (min r.1 0xD7FF) (omega arith), omega (arith, a, l), tt)) (λ _. tt)

above_codes : (r : Range) → r.0 ≤ r.1 → r.1 ≤ 0x10FFFF → AreCodes true (above_surrogates r)
above_codes r l m = if_elim (λ rs. AreCodes true rs) (nat_le 0xE000 r.1) ((max r.0 0xE000, r.1) ∷ []) []
    (λ h. let a = le_true 0xE000 r.1 h in (high_code (max r.0 0xE000) (omega arith) (omega (arith, l, m, a)), high_code r.1 a m, omega (arith, l, a), tt)) (λ _. tt)

below_to : (r : Range) (c : ℕ) → Has (below_surrogates r) c → In r c
below_to r c = if_elim (λ rs. Has rs c → In r c) (nat_le r.0 0xD7FF) ((r.0, min r.1 0xD7FF) ∷ []) []
    (λ _ h. ⊎_elim (λ (a, b). (a, omega (arith, b))) (λ t. absurd t) h) (λ _ h. absurd h)

above_to : (r : Range) (c : ℕ) → Has (above_surrogates r) c → In r c
above_to r c = if_elim (λ rs. Has rs c → In r c) (nat_le 0xE000 r.1) ((max r.0 0xE000, r.1) ∷ []) []
    (λ _ h. ⊎_elim (λ (a, b). (omega (arith, a), b)) (λ t. absurd t) h) (λ _ h. absurd h)

below_from : (r : Range) (c : ℕ) → c < 0xD800 → In r c → Has (below_surrogates r) c
below_from r c s (a, b) = if_elim (λ rs. Has rs c) (nat_le r.0 0xD7FF) ((r.0, min r.1 0xD7FF) ∷ []) []
    (λ _. inl (a, omega (arith, b, s))) (λ f. absurd (true≢false (sym (le_yes r.0 0xD7FF (omega (arith, a, s))) ∙ f)))

above_from : (r : Range) (c : ℕ) → 0xE000 ≤ c → In r c → Has (above_surrogates r) c
above_from r c s (a, b) = if_elim (λ rs. Has rs c) (nat_le 0xE000 r.1) ((max r.0 0xE000, r.1) ∷ []) []
    (λ _. inl (omega (arith, a, s), b)) (λ f. absurd (true≢false (sym (le_yes 0xE000 r.1 (omega (arith, b, s))) ∙ f)))

pub cut_denotes : (rs : List Range) → AreRanges rs → Denote true (in_ranges rs) (cut rs)
unfolding in_ranges
cut_denotes [] all = record { codes = tt; members = λ c is. (λ h. absurd h, λ t. absurd (true≢false (sym t))) }
cut_denotes (r ∷ rs) all =
    let parts = and_parts (is_range r) (list_all is_range rs) all in
    let ends = and_parts (nat_le r.0 r.1) (nat_le r.1 0x10FFFF) parts.0 in
    let l = le_true r.0 r.1 ends.0 in
    let m = le_true r.1 0x10FFFF ends.1 in
    let rest = cut_denotes rs parts.1 in record {
      codes = codes_append true (below_surrogates r) _ (below_codes r l) (codes_append true (above_surrogates r) (cut rs) (above_codes r l m) rest.codes);
      members = λ c is. (
        λ h. ⊎_elim (λ g. or_left _ _ (within r c (below_to r c g)))
            (λ g. ⊎_elim (λ k. or_left _ _ (within r c (above_to r c k))) (λ k. or_right (nat_le r.0 c && nat_le c r.1) _ ((rest.members c is).0 k))
            (has_either (above_surrogates r) (cut rs) c g))
            (has_either (below_surrogates r) _ c h),
        λ t. ⊎_elim
            (λ w. let at = inside r c w in
            ⊎_elim (λ low. has_left (below_surrogates r) _ c (below_from r c low at))
            (λ high. has_right (below_surrogates r) _ c (has_left (above_surrogates r) (cut rs) c (above_from r c high.0 at))) (code_is true c is))
            (λ w. has_right (below_surrogates r) _ c (has_right (above_surrogates r) (cut rs) c ((rest.members c is).1 w)))
            (or_cases (nat_le r.0 c && nat_le c r.1) _ t),
      );
    }

code_most : (c : ℕ) → is_code true c ≡ true → c ≤ 0x10FFFF
code_most c is = ⊎_elim (λ l. omega (arith, l)) (λ (a, b). omega (arith, b)) (code_is true c is)

-- what is left of ranges of exactly the members of a set denotes it
pub members_denote : (p : CodeSet) (rs : List Range) → AreRanges rs → HasExactly rs p → Denote true p (cut rs)
members_denote p rs all exact = let w = cut_denotes rs all in record {
  codes = w.codes;
  members = λ c is. subst (λ (b : Bool). Has (cut rs) c ↔ (b ≡ true)) (exact c (code_most c is)) (w.members c is);
}

-- ranges that rise are ranges
pub rising_ranges : (n : ℕ) (rs : List Range) → ranges_rise n rs ≡ true → AreRanges rs
unfolding ranges_rise
rising_ranges n [] h = refl
rising_ranges n (r ∷ rs) h =
    let parts = and_parts (nat_le n r.0 && is_range r) (ranges_rise (r.1 + 1) rs) h in
    and_both (is_range r) (list_all is_range rs) (and_parts (nat_le n r.0) (is_range r) parts.0).1 (rising_ranges (r.1 + 1) rs parts.1)
