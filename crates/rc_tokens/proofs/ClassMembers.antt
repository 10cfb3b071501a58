-- A class has the codes that are written in it, and no others.
use Rattle.std.proofs.Common.{◌≡◌, ◌↔◌, ℕ, suc, ◌+◌, ◌-◌, ◌<◌, ◌≤◌, ◌⊎◌, inl, inr, ⊎_elim, Bool, true, false, ◌&&◌, ◌==◌, nat_le, nat_lt, List, [], ◌∷◌, ◌++◌, max, min, refl, arith, if◌then◌else◌}
use Rattle.std.proofs.lemmas.Bool.{ltb-true, ltb-false, eqb-true}
use Rattle.rc_pattern.specs.Re.{Range}
use Rattle.rc_tokens.specs.Classes.{shared, lower, upper, folded, next, before, canonical, last_code, gaps, folded_if, class_of, set_ranges, is_code, AreCodes}
use Rattle.rc_tokens.specs.Members.{In, Has, InOrder, IsOtherCase, IsWritten, IsMember, MembersLaw}
use Rattle.rc_tokens.proofs.StepLemmas.{and_parts}
use Rattle.rc_tokens.proofs.ClassLemmas.{le_true, IsCode, IsStart, code_is, if_elim, next_above, lower_floor, canonical_codes, canonical_in_order, next_start, code_most, start_code, before_code, fold_codes, set_codes, zero_start}
use Rattle.rc_tokens.proofs.MergedLemmas.{next_least, canonical_to, canonical_from, first_least}

le_false : (a b : ℕ) → nat_le a b ≡ false → b < a
le_false a b h = grind (arith, h)

has_left : (xs ys : List Range) (c : ℕ) → Has xs c → Has (xs ++ ys) c
has_left [] ys c h = absurd h
has_left (x ∷ xs) ys c h = ⊎_elim (λ w. inl w) (λ t. inr (has_left xs ys c t)) h

has_right : (xs ys : List Range) (c : ℕ) → Has ys c → Has (xs ++ ys) c
has_right [] ys c h = h
has_right (x ∷ xs) ys c h = inr (has_right xs ys c h)

has_either : (xs ys : List Range) (c : ℕ) → Has (xs ++ ys) c → Has xs c ⊎ Has ys c
has_either [] ys c h = inr h
has_either (x ∷ xs) ys c h = ⊎_elim (λ w. inl (inl w)) (λ t. ⊎_elim (λ w. inl (inr w)) (λ w. inr w) (has_either xs ys c t)) h

-- ---- folding

lower_to : (r : Range) (c : ℕ) → Has (lower (shared 65 90 r)) c → (97 ≤ c) × (c ≤ 122) × In r (c - 32)
lower_to r c = if_elim (λ rs. Has (lower rs) c → (97 ≤ c) × (c ≤ 122) × In r (c - 32)) (nat_le (max 65 r.0) (min 90 r.1)) ((max 65 r.0, min 90 r.1) ∷ []) []
    (λ _ h. ⊎_elim (λ (a, b). (omega (arith, a), omega (arith, b), (omega (arith, a), omega (arith, a, b)))) (λ t. absurd t) h) (λ _ h. absurd h)

upper_to : (r : Range) (c : ℕ) → Has (upper (shared 97 122 r)) c → (65 ≤ c) × (c ≤ 90) × In r (c + 32)
upper_to r c = if_elim (λ rs. Has (upper rs) c → (65 ≤ c) × (c ≤ 90) × In r (c + 32)) (nat_le (max 97 r.0) (min 122 r.1)) ((max 97 r.0, min 122 r.1) ∷ []) []
    (λ e h. let l = le_true (max 97 r.0) (min 122 r.1) e in
    ⊎_elim (λ (a, b). (omega (arith, a), omega (arith, b), (omega (arith, a), omega (arith, b, l)))) (λ t. absurd t) h) (λ _ h. absurd h)

lower_from : (r : Range) (c d : ℕ) → 97 ≤ c → c ≤ 122 → d + 32 ≡ c → In r d → Has (lower (shared 65 90 r)) c
lower_from r c d low high e (a, b) = if_elim (λ rs. Has (lower rs) c) (nat_le (max 65 r.0) (min 90 r.1)) ((max 65 r.0, min 90 r.1) ∷ []) []
    (λ _. inl (omega (arith, low, e, a), omega (arith, high, e, b)))
    (λ f. let l = le_false (max 65 r.0) (min 90 r.1) f in absurd (omega (arith, l, low, high, e, a, b)))

upper_from : (r : Range) (c d : ℕ) → 65 ≤ c → c ≤ 90 → d ≡ c + 32 → In r d → Has (upper (shared 97 122 r)) c
upper_from r c d low high e (a, b) = if_elim (λ rs. Has (upper rs) c) (nat_le (max 97 r.0) (min 122 r.1)) ((max 97 r.0, min 122 r.1) ∷ []) []
    (λ f. let l = le_true (max 97 r.0) (min 122 r.1) f in inl (omega (arith, low, e, a), omega (arith, high, e, b, l)))
    (λ f. let l = le_false (max 97 r.0) (min 122 r.1) f in absurd (omega (arith, l, low, high, e, a, b)))

folded_to : (rs : List Range) (c : ℕ) → Has (folded rs) c → IsWritten true rs c
folded_to [] c h = absurd h
folded_to (r ∷ rs) c h =
    ⊎_elim (λ w. inl (inl w))
    (λ t. ⊎_elim
    (λ l. let (low, high, is) = lower_to r c l in inr (c - 32, inr (low, high, omega (arith, low)), inl is))
    (λ m. ⊎_elim
    (λ g. let (low, high, is) = upper_to r c g in inr (c + 32, inl (low, high, refl), inl is))
    (λ x. ⊎_elim (λ y. inl (inr y)) (λ (d, other, y). inr (d, other, inr y)) (folded_to rs c x))
    (has_either (upper (shared 97 122 r)) (folded rs) c m))
    (has_either (lower (shared 65 90 r)) (upper (shared 97 122 r) ++ folded rs) c t)) h

-- the codes of the others stand behind those of the first range
behind : (r : Range) (rs : List Range) (c : ℕ) → Has (folded rs) c → Has (folded (r ∷ rs)) c
behind r rs c h =
    inr (has_right (lower (shared 65 90 r)) (upper (shared 97 122 r) ++ folded rs) c (has_right (upper (shared 97 122 r)) (folded rs) c h))

folded_same : (rs : List Range) (c : ℕ) → Has rs c → Has (folded rs) c
folded_same [] c h = absurd h
folded_same (r ∷ rs) c h = ⊎_elim (λ w. inl w) (λ t. behind r rs c (folded_same rs c t)) h

folded_other : (rs : List Range) (c d : ℕ) → IsOtherCase c d → Has rs d → Has (folded rs) c
folded_other [] c d other h = absurd h
folded_other (r ∷ rs) c d other h =
    ⊎_elim
    (λ is. ⊎_elim
    (λ (low, high, e). inr (has_right (lower (shared 65 90 r)) (upper (shared 97 122 r) ++ folded rs) c
    (has_left (upper (shared 97 122 r)) (folded rs) c (upper_from r c d low high e is))))
    (λ (low, high, e). inr (has_left (lower (shared 65 90 r)) (upper (shared 97 122 r) ++ folded rs) c (lower_from r c d low high e is))) other)
    (λ t. behind r rs c (folded_other rs c d other t)) h

written_to : (fold : Bool) (rs : List Range) (c : ℕ) → Has (folded_if fold rs) c → IsWritten fold rs c
written_to true rs c h = folded_to rs c h
written_to false rs c h = h

written_from : (fold : Bool) (rs : List Range) (c : ℕ) → IsWritten fold rs c → Has (folded_if fold rs) c
written_from true rs c h = ⊎_elim (λ s. folded_same rs c s) (λ (d, other, is). folded_other rs c d other is) h
written_from false rs c h = h

-- ---- gaps

before_less : (u : Bool) (c : ℕ) → 0 < c → before u c < c
before_less u c h = if_elim (λ x. x < c) (u && c == 0xE000) 0xD7FF (c - 1)
    (λ e. let (_, is) = and_parts u (c == 0xE000) e in let k = eqb-true c 0xE000 is in omega (arith, k)) (λ _. omega (arith, h))

-- a code below another is at most the one before that
before_most : (u : Bool) (c a : ℕ) → IsCode u c → c < a → c ≤ before u a
before_most true c a k l = if_elim (λ x. c ≤ x) (a == 0xE000) 0xD7FF (a - 1)
    (λ e. let is = eqb-true a 0xE000 e in ⊎_elim (λ low. omega (arith, low)) (λ (high, _). absurd (omega (arith, high, is, l))) k)
    (λ _. omega (arith, l))
before_most false c a k l = omega (arith, l)

next_before : (u : Bool) (c : ℕ) → IsCode u c → 0 < c → next u (before u c) ≤ c
next_before true c k l = if_elim (λ x. next true x ≤ c) (c == 0xE000) 0xD7FF (c - 1)
    (λ e. let is = eqb-true c 0xE000 e in omega (arith, is))
    (λ _. if_elim (λ x. x ≤ c) (c - 1 == 0xD7FF) 0xE000 (c - 1 + 1)
    (λ f. let is = eqb-true (c - 1) 0xD7FF f in ⊎_elim (λ low. absurd (omega (arith, low, is))) (λ (high, _). omega (arith, high)) k)
    (λ _. omega (arith, l)))
next_before false c k l = omega (arith, l)

gaps_to : (u : Bool) (start : ℕ) (rs : List Range) (c : ℕ) → IsCode u c → InOrder u start rs → Has (gaps u start rs) c → (start ≤ c) × (Has rs c → ⊥)
gaps_to u start [] c k h g =
    if_elim (λ xs. Has xs c → (start ≤ c) × (Has [] c → ⊥)) (nat_le start (last_code u)) ((start, last_code u) ∷ []) []
    (λ _ x. ⊎_elim (λ (a, b). (a, λ y. y)) (λ t. absurd t) x) (λ _ x. absurd x) g
gaps_to u start (r ∷ rs) c k h g =
    ⊎_elim
    (λ x. if_elim (λ xs. Has xs c → (start ≤ c) × (Has (r ∷ rs) c → ⊥)) (nat_lt start r.0) ((start, before u r.0) ∷ []) []
    (λ e y. let l = ltb-true start r.0 e in let less = before_less u r.0 (omega (arith, l)) in
    ⊎_elim (λ (a, b). (a, λ z. let low = first_least u start r rs c h z in absurd (omega (arith, low, b, less)))) (λ t. absurd t) y)
    (λ _ y. absurd y) x)
    (λ x.
    let (low, none) = gaps_to u (next u r.1) rs c k (lower_floor u (next u r.1) (suc (next u r.1)) rs (omega arith) h.2) x in
    let above = next_above u r.1 in
    let first = h.0 in
    let order = h.1 in
    (omega (arith, low, above, first, order), λ z. ⊎_elim (λ (a, b). absurd (omega (arith, b, low, above))) (λ t. none t) z))
    (has_either (if nat_lt start r.0 then (start, before u r.0) ∷ [] else []) (gaps u (next u r.1) rs) c g)

gaps_from : (u : Bool) (start : ℕ) (rs : List Range) (c : ℕ) → IsCode u c → InOrder u start rs → start ≤ c → (Has rs c → ⊥) → Has (gaps u start rs) c
gaps_from u start [] c k h low none =
    if_elim (λ xs. Has xs c) (nat_le start (last_code u)) ((start, last_code u) ∷ []) []
    (λ _. inl (low, code_most u c k))
    (λ e. let l = le_false start (last_code u) e in let m = code_most u c k in absurd (omega (arith, l, m, low)))
gaps_from u start (r ∷ rs) c k h low none =
    go (λ past. gaps_from u (next u r.1) rs c k (lower_floor u (next u r.1) (suc (next u r.1)) rs (omega arith) h.2) past (λ t. none (inr t))) (nat_lt c r.0) refl
  where
    here : c < r.0 → Has (gaps u start (r ∷ rs)) c
    here l = has_left (if nat_lt start r.0 then (start, before u r.0) ∷ [] else []) (gaps u (next u r.1) rs) c
        (if_elim (λ xs. Has xs c) (nat_lt start r.0) ((start, before u r.0) ∷ []) []
        (λ _. inl (low, before_most u c r.0 k l)) (λ e. let n = ltb-false start r.0 e in absurd (omega (arith, n, l, low))))

    later : (next u r.1 ≤ c → Has (gaps u (next u r.1) rs) c) → r.0 ≤ c → (t : Bool) → nat_lt r.1 c ≡ t → Has (gaps u start (r ∷ rs)) c
    later rest l true e =
        has_right (if nat_lt start r.0 then (start, before u r.0) ∷ [] else []) (gaps u (next u r.1) rs) c (rest (next_least u r.1 c k (ltb-true r.1 c e)))
    later rest l false e = absurd (none (inl (l, ltb-false r.1 c e)))

    go : (next u r.1 ≤ c → Has (gaps u (next u r.1) rs) c) → (t : Bool) → nat_lt c r.0 ≡ t → Has (gaps u start (r ∷ rs)) c
    go rest true e = here (ltb-true c r.0 e)
    go rest false e = later rest (ltb-false c r.0 e) (nat_lt r.1 c) refl

gaps_in_order : (u : Bool) (start : ℕ) (rs : List Range) → IsStart u start → InOrder u start rs → AreCodes u rs → InOrder u start (gaps u start rs)
gaps_in_order u start [] s h g =
    if_elim (InOrder u start) (nat_le start (last_code u)) ((start, last_code u) ∷ []) []
    (λ e. (omega arith, le_true start (last_code u) e, tt)) (λ _. tt)
gaps_in_order u start (r ∷ rs) s h g =
    go (gaps_in_order u (next u r.1) rs (next_start u r.1 (code_is u r.1 g.1)) (lower_floor u (next u r.1) (suc (next u r.1)) rs (omega arith) h.2) g.3)
    (nat_lt start r.0) refl
  where
    first : IsCode u r.0
    first = code_is u r.0 g.0

    go : InOrder u (next u r.1) (gaps u (next u r.1) rs) → (b : Bool) → nat_lt start r.0 ≡ b →
        InOrder u start ((if b then (start, before u r.0) ∷ [] else []) ++ gaps u (next u r.1) rs)
    go rest true e =
        let l = ltb-true start r.0 e in
        let begin = start_code u start r.0 s (code_most u r.0 first) (omega (arith, l)) in
        let (_, low, _) = before_code u r.0 start first begin l in
        let touch = next_before u r.0 first (omega (arith, l)) in
        let above = next_above u r.1 in
        let order = h.1 in
        (omega arith, low, lower_floor u (suc (next u (before u r.0))) (next u r.1) (gaps u (next u r.1) rs) (omega (arith, touch, above, order)) rest)
    go rest false e =
        let above = next_above u r.1 in
        let order = h.1 in
        let low = h.0 in lower_floor u start (next u r.1) (gaps u (next u r.1) rs) (omega (arith, above, order, low)) rest

-- ---- classes

members : (u fold negated : Bool) (rs : List Range) (c : ℕ) → AreCodes u rs → is_code u c ≡ true → Has (class_of u fold negated rs) c ↔ IsMember negated fold rs c
members u fold false rs c are is =
    let k = code_is u c is in
    let all = folded_if fold rs in (
      λ h. written_to fold rs c (canonical_to u all c k h),
      λ h. canonical_from u all c k (written_from fold rs c h),
    )
members u fold true rs c are is =
    let k = code_is u c is in
    let all = folded_if fold rs in
    let order = canonical_in_order u all (fold_codes u fold rs are) in (
      λ h w. (gaps_to u 0 (canonical u all) c k order h).1 (canonical_from u all c k (written_from fold rs c w)),
      λ h. gaps_from u 0 (canonical u all) c k order (omega arith) (λ x. h (written_to fold rs c (canonical_to u all c k x))),
    )

in_order : (u fold negated : Bool) (rs : List Range) → AreCodes u rs → InOrder u 0 (class_of u fold negated rs)
in_order u fold false rs are = canonical_in_order u (folded_if fold rs) (fold_codes u fold rs are)
in_order u fold true rs are =
    gaps_in_order u 0 (canonical u (folded_if fold rs)) (zero_start u) (canonical_in_order u (folded_if fold rs) (fold_codes u fold rs are))
    (canonical_codes u (folded_if fold rs) (fold_codes u fold rs are))

pub members_law : MembersLaw
members_law = record {
  members = members;
  perl = λ u p c is. members u false p.negated (set_ranges p.set) c (set_codes u p.set) is;
  in_order = in_order;
}
