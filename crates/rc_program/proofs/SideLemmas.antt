-- Which scalar begins or ends some bytes, by UTF-8; and that four bytes on each side of a position are enough to see it.
use Rattle.std.proofs.Common.{◌≡◌, ℕ, zero, suc, ◌+◌, ◌-◌, ◌*◌, ◌/◌, ◌%◌, ◌<◌, ◌≤◌, ◌⊎◌, List, [], ◌∷◌, ◌++◌, length, take, drop, inl, inr, ⊎_elim, sym, subst, ap, ap₂, ◌∙◌, refl, arith, Bool, true, false, Option, Some, None, nat_le, nat_lt, ◌&&◌, ◌==◌, if◌then◌else◌, append_assoc, slice_index, length-append, length-drop}
use Rattle.std.specs.Option.{option_or, option_map}
use Rattle.std.specs.Char.{IsScalar, encode_utf8}
use Rattle.std.proofs.lemmas.Bool.{cases_lt, and_parts, and_from, lt-ltb, le-ltb, le-leb, ltb-true, leb-true, eqb-true, eq-eqb}
use Rattle.std.proofs.lemmas.List.{append-nil, take-append-drop, take_at, drop_at, drop-drop, drop_all, get_or-drop}
use Rattle.std.proofs.lemmas.Option.{none-some, same_Some}
use lib.Utf8.{scalar as is_scalar, scalar_cases, low_scalar}
use Rattle.rc_program.specs.Scalars.{continues, in_bytes, of_two, of_three, of_four, scalar_at, whole_scalar, scalar_of_last, scalar_before, ScalarLaw}
use Rattle.rc_program.specs.Looks.{stands, side_before, side_after}

-- what it is that c's bytes begin bs, and are n many
abbrev Begins : List ℕ → ℕ → ℕ → Type 0
Begins bs c n = IsScalar c × (n ≡ length (encode_utf8 c)) × ((rest : List ℕ) × (bs ≡ encode_utf8 c ++ rest))

pub encode_one : (c : ℕ) → c < 128 → encode_utf8 c ≡ c ∷ []
unfolding encode_utf8
encode_one c a = rw (lt-ltb c 128 a) refl

pub encode_two : (c : ℕ) → 128 ≤ c → c < 2048 → encode_utf8 c ≡ (192 + c / 64) ∷ (128 + c % 64) ∷ []
unfolding encode_utf8
encode_two c a b = rw (le-ltb c 128 a, lt-ltb c 2048 b) refl

pub encode_three : (c : ℕ) → 2048 ≤ c → c < 65536 → encode_utf8 c ≡ (224 + c / 4096) ∷ (128 + c / 64 % 64) ∷ (128 + c % 64) ∷ []
unfolding encode_utf8
encode_three c a b = rw (le-ltb c 128 (omega arith), le-ltb c 2048 a, lt-ltb c 65536 b) refl

pub encode_four : (c : ℕ) → 65536 ≤ c → encode_utf8 c ≡ (240 + c / 262144) ∷ (128 + c / 4096 % 64) ∷ (128 + c / 64 % 64) ∷ (128 + c % 64) ∷ []
unfolding encode_utf8
encode_four c a = rw (le-ltb c 128 (omega arith), le-ltb c 2048 (omega arith), le-ltb c 65536 a) refl

pub at_one : (a : ℕ) (bs : List ℕ) → a < 128 → scalar_at (a ∷ bs) ≡ Some (a, 1)
at_one a bs h = rw (lt-ltb a 128 h) refl

at_none : (a : ℕ) (bs : List ℕ) → 128 ≤ a → a < 192 → scalar_at (a ∷ bs) ≡ None
at_none a bs h k = rw (le-ltb a 128 h, lt-ltb a 192 k) refl

at_two : (a : ℕ) (bs : List ℕ) → 192 ≤ a → a < 224 → scalar_at (a ∷ bs) ≡ of_two (a - 192) bs
at_two a bs h k = rw (le-ltb a 128 (omega arith), le-ltb a 192 h, lt-ltb a 224 k) refl

at_three : (a : ℕ) (bs : List ℕ) → 224 ≤ a → a < 240 → scalar_at (a ∷ bs) ≡ of_three (a - 224) bs
at_three a bs h k = rw (le-ltb a 128 (omega arith), le-ltb a 192 (omega arith), le-ltb a 224 h, lt-ltb a 240 k) refl

at_four : (a : ℕ) (bs : List ℕ) → 240 ≤ a → a < 248 → scalar_at (a ∷ bs) ≡ of_four (a - 240) bs
at_four a bs h k = rw (le-ltb a 128 (omega arith), le-ltb a 192 (omega arith), le-ltb a 224 (omega arith), le-ltb a 240 h, lt-ltb a 248 k) refl

at_past : (a : ℕ) (bs : List ℕ) → 248 ≤ a → scalar_at (a ∷ bs) ≡ None
at_past a bs h =
    rw (le-ltb a 128 (omega arith), le-ltb a 192 (omega arith), le-ltb a 224 (omega arith), le-ltb a 240 (omega arith), le-ltb a 248 h) refl

-- From the function to the bytes.

if_some : {X : Type 0} (b : Bool) (o : Option X) (y : X) → (if b then o else None) ≡ Some y → (b ≡ true) × (o ≡ Some y)
if_some true o y e = (refl, e)
if_some false o y e = absurd (none-some y e)

in_bytes_some : (count least c : ℕ) (s : ℕ × ℕ) → in_bytes count least c ≡ Some s → (least ≤ c) × IsScalar c × (c ≡ s.0) × (count ≡ s.1)
in_bytes_some count least c s e =
    let p = if_some (nat_le least c && is_scalar c) (Some (c, count)) s e in
    let q = and_parts (nat_le least c) (is_scalar c) p.0 in
    let r = same_Some (c, count) s p.1 in
    (leb-true least c q.0, q.1, ap (λ (z : ℕ × ℕ). z.0) r, ap (λ (z : ℕ × ℕ). z.1) r)

continues_parts : (b : ℕ) → continues b ≡ true → (128 ≤ b) × (b < 192)
continues_parts b h = let p = and_parts (nat_le 128 b) (nat_lt b 192) h in (leb-true 128 b p.0, ltb-true b 192 p.1)

begins_one : (a : ℕ) (bs : List ℕ) (s : ℕ × ℕ) → a < 128 → Some (a, 1) ≡ Some s → Begins (a ∷ bs) s.0 s.1
begins_one a bs s h e =
    let r : (a, 1) ≡ s = same_Some (a, 1) s e in
    subst (λ (z : ℕ × ℕ). Begins (a ∷ bs) z.0 z.1) r
    (low_scalar a (omega arith), ap length (sym (encode_one a h)), (bs, ap (λ xs. xs ++ bs) (sym (encode_one a h))))

-- c's bytes are these
spelled : (c n : ℕ) (xs rest : List ℕ) → IsScalar c → encode_utf8 c ≡ xs → n ≡ length xs → Begins (xs ++ rest) c n
spelled c n xs rest ok e l = (ok, l ∙ ap length (sym e), (rest, ap (λ ys. ys ++ rest) (sym e)))

begins_two : (a : ℕ) (bs : List ℕ) (s : ℕ × ℕ) → 192 ≤ a → a < 224 → of_two (a - 192) bs ≡ Some s → Begins (a ∷ bs) s.0 s.1
begins_two a [] s h k e = absurd (none-some s e)
begins_two a (b ∷ bs) s h k e =
    let c = (a - 192) * 64 + (b - 128) in
    let p = if_some (continues b) (in_bytes 2 0x80 c) s e in
    let q = continues_parts b p.0 in
    let r = in_bytes_some 2 0x80 c s p.1 in
    let first : 192 + c / 64 ≡ a = omega (arith, h, k, q.0, q.1) in
    let second : 128 + c % 64 ≡ b = omega (arith, h, k, q.0, q.1) in
    let bytes : encode_utf8 c ≡ a ∷ b ∷ [] =
    encode_two c r.0 (omega (arith, h, k, q.0, q.1)) ∙ ap₂ (λ x y. x ∷ y ∷ []) first second in
    subst (λ z. Begins (a ∷ b ∷ bs) z s.1) r.2 (spelled c s.1 (a ∷ b ∷ []) bs r.1 bytes (sym r.3))

begins_three : (a : ℕ) (bs : List ℕ) (s : ℕ × ℕ) → 224 ≤ a → a < 240 → of_three (a - 224) bs ≡ Some s → Begins (a ∷ bs) s.0 s.1
begins_three a [] s h k e = absurd (none-some s e)
begins_three a (b ∷ []) s h k e = absurd (none-some s e)
begins_three a (b ∷ d ∷ bs) s h k e =
    let c = ((a - 224) * 64 + (b - 128)) * 64 + (d - 128) in
    let p = if_some (continues b && continues d) (in_bytes 3 0x800 c) s e in
    let both = and_parts (continues b) (continues d) p.0 in
    let q = continues_parts b both.0 in
    let u = continues_parts d both.1 in
    let r = in_bytes_some 3 0x800 c s p.1 in
    let first : 224 + c / 4096 ≡ a = omega (arith, h, k, q.0, q.1, u.0, u.1) in
    let second : 128 + c / 64 % 64 ≡ b = omega (arith, h, k, q.0, q.1, u.0, u.1) in
    let third : 128 + c % 64 ≡ d = omega (arith, h, k, q.0, q.1, u.0, u.1) in
    let bytes : encode_utf8 c ≡ a ∷ b ∷ d ∷ [] =
    encode_three c r.0 (omega (arith, h, k, q.0, q.1, u.0, u.1))
    ∙ ap₂ (λ x y. x ∷ y ∷ (128 + c % 64) ∷ []) first second ∙ ap (λ z. a ∷ b ∷ z ∷ []) third in
    subst (λ z. Begins (a ∷ b ∷ d ∷ bs) z s.1) r.2 (spelled c s.1 (a ∷ b ∷ d ∷ []) bs r.1 bytes (sym r.3))

begins_four : (a : ℕ) (bs : List ℕ) (s : ℕ × ℕ) → 240 ≤ a → a < 248 → of_four (a - 240) bs ≡ Some s → Begins (a ∷ bs) s.0 s.1
begins_four a [] s h k e = absurd (none-some s e)
begins_four a (b ∷ []) s h k e = absurd (none-some s e)
begins_four a (b ∷ d ∷ []) s h k e = absurd (none-some s e)
begins_four a (b ∷ d ∷ f ∷ bs) s h k e =
    let c = (((a - 240) * 64 + (b - 128)) * 64 + (d - 128)) * 64 + (f - 128) in
    let p = if_some (continues b && continues d && continues f) (in_bytes 4 0x1_0000 c) s e in
    let all = and_parts (continues b && continues d) (continues f) p.0 in
    let both = and_parts (continues b) (continues d) all.0 in
    let q = continues_parts b both.0 in
    let u = continues_parts d both.1 in
    let v = continues_parts f all.1 in
    let r = in_bytes_some 4 0x1_0000 c s p.1 in
    let first : 240 + c / 262144 ≡ a = omega (arith, h, k, q.0, q.1, u.0, u.1, v.0, v.1) in
    let second : 128 + c / 4096 % 64 ≡ b = omega (arith, h, k, q.0, q.1, u.0, u.1, v.0, v.1) in
    let third : 128 + c / 64 % 64 ≡ d = omega (arith, h, k, q.0, q.1, u.0, u.1, v.0, v.1) in
    let fourth : 128 + c % 64 ≡ f = omega (arith, h, k, q.0, q.1, u.0, u.1, v.0, v.1) in
    let bytes : encode_utf8 c ≡ a ∷ b ∷ d ∷ f ∷ [] =
    encode_four c r.0
    ∙ ap₂ (λ x y. x ∷ y ∷ (128 + c / 64 % 64) ∷ (128 + c % 64) ∷ []) first second
    ∙ ap₂ (λ x y. a ∷ b ∷ x ∷ y ∷ []) third fourth in
    subst (λ z. Begins (a ∷ b ∷ d ∷ f ∷ bs) z s.1) r.2 (spelled c s.1 (a ∷ b ∷ d ∷ f ∷ []) bs r.1 bytes (sym r.3))

begins_from : (bs : List ℕ) (s : ℕ × ℕ) → scalar_at bs ≡ Some s → Begins bs s.0 s.1
begins_from [] s e = absurd (none-some s e)
begins_from (a ∷ bs) s e =
    ⊎_elim (λ l. begins_one a bs s l (sym (at_one a bs l) ∙ e))
    (λ g1. ⊎_elim (λ l. absurd (none-some s (sym (at_none a bs g1 l) ∙ e)))
    (λ g2. ⊎_elim (λ l. begins_two a bs s g2 l (sym (at_two a bs g2 l) ∙ e))
    (λ g3. ⊎_elim (λ l. begins_three a bs s g3 l (sym (at_three a bs g3 l) ∙ e))
    (λ g4. ⊎_elim (λ l. begins_four a bs s g4 l (sym (at_four a bs g4 l) ∙ e))
    (λ g5. absurd (none-some s (sym (at_past a bs g5) ∙ e))) (cases_lt a 248))
    (cases_lt a 240)) (cases_lt a 224)) (cases_lt a 192)) (cases_lt a 128)

-- From the bytes to the function.

next_continues : (x : ℕ) → continues (128 + x % 64) ≡ true
next_continues x = and_from (nat_le 128 (128 + x % 64)) (nat_lt (128 + x % 64) 192) (le-leb 128 (128 + x % 64) (omega arith)) (lt-ltb (128 + x % 64) 192 (omega arith))

in_bytes_is : (count least c d : ℕ) → d ≡ c → least ≤ c → IsScalar c → in_bytes count least d ≡ Some (c, count)
in_bytes_is count least c d e h ok =
    ap (in_bytes count least) e ∙ (rw (and_from (nat_le least c) (is_scalar c) (le-leb least c h) ok) refl)

two_is : (c : ℕ) (rest : List ℕ) → 128 ≤ c → c < 2048 → IsScalar c → of_two (192 + c / 64 - 192) ((128 + c % 64) ∷ rest) ≡ Some (c, 2)
two_is c rest h k ok =
    rw (next_continues c) (in_bytes_is 2 0x80 c ((192 + c / 64 - 192) * 64 + (128 + c % 64 - 128)) (omega arith) h ok)

three_is : (c : ℕ) (rest : List ℕ) → 2048 ≤ c → c < 65536 → IsScalar c →
    of_three (224 + c / 4096 - 224) ((128 + c / 64 % 64) ∷ (128 + c % 64) ∷ rest) ≡ Some (c, 3)
three_is c rest h k ok =
    rw (next_continues (c / 64), next_continues c)
    (in_bytes_is 3 0x800 c (((224 + c / 4096 - 224) * 64 + (128 + c / 64 % 64 - 128)) * 64 + (128 + c % 64 - 128)) (omega arith) h ok)

four_is : (c : ℕ) (rest : List ℕ) → 65536 ≤ c → IsScalar c →
    of_four (240 + c / 262144 - 240) ((128 + c / 4096 % 64) ∷ (128 + c / 64 % 64) ∷ (128 + c % 64) ∷ rest) ≡ Some (c, 4)
four_is c rest h ok =
    rw (next_continues (c / 4096), next_continues (c / 64), next_continues c)
    (in_bytes_is 4 0x1_0000 c
    ((((240 + c / 262144 - 240) * 64 + (128 + c / 4096 % 64 - 128)) * 64 + (128 + c / 64 % 64 - 128)) * 64 + (128 + c % 64 - 128))
    (omega arith) h ok)

top : (c : ℕ) → IsScalar c → c < 1114112
top c ok = ⊎_elim (λ l. omega arith) (λ p. p.1) (scalar_cases c ok)

-- a scalar's bytes are read as that scalar, whatever follows
pub scalar_at-encode : (c : ℕ) (rest : List ℕ) → IsScalar c → scalar_at (encode_utf8 c ++ rest) ≡ Some (c, length (encode_utf8 c))
scalar_at-encode c rest ok =
    ⊎_elim (λ l. rw (encode_one c l) (at_one c rest l))
    (λ g1. ⊎_elim
    (λ l. rw (encode_two c g1 l) (at_two (192 + c / 64) ((128 + c % 64) ∷ rest) (omega arith) (omega arith) ∙ two_is c rest g1 l ok))
    (λ g2. ⊎_elim
    (λ l. rw (encode_three c g2 l)
    (at_three (224 + c / 4096) ((128 + c / 64 % 64) ∷ (128 + c % 64) ∷ rest) (omega arith) (omega arith) ∙ three_is c rest g2 l ok))
    (λ g3. let t = top c ok in
    rw (encode_four c g3)
    (at_four (240 + c / 262144) ((128 + c / 4096 % 64) ∷ (128 + c / 64 % 64) ∷ (128 + c % 64) ∷ rest) (omega arith) (omega arith) ∙ four_is c rest g3 ok))
    (cases_lt c 65536)) (cases_lt c 2048)) (cases_lt c 128)

begins_to : (bs : List ℕ) (c n : ℕ) → Begins bs c n → scalar_at bs ≡ Some (c, n)
begins_to bs c n h = ap scalar_at h.2.1 ∙ scalar_at-encode c h.2.0 h.0 ∙ ap (λ z. Some (c, z)) (sym h.1)

-- Which scalar ends some bytes.

-- the last count bytes of what ends in so many
drop_end : (front xs : List ℕ) (count : ℕ) → length xs ≡ count → drop (length (front ++ xs) - count) (front ++ xs) ≡ xs
drop_end front xs count e =
    let l = length-append front xs in
    let n : length (front ++ xs) - count ≡ length front = omega (arith, l, e) in
    ap (λ k. drop k (front ++ xs)) n ∙ drop_at front xs (length front) refl

last_is : (front xs : List ℕ) (count : ℕ) → length xs ≡ count → scalar_of_last count (front ++ xs) ≡ whole_scalar xs (scalar_at xs)
last_is front xs count e = ap (λ ys. whole_scalar ys (scalar_at ys)) (drop_end front xs count e)

-- no scalar begins with a byte that goes on with one
last_none : (front : List ℕ) (b : ℕ) (ys : List ℕ) (count : ℕ) → length (b ∷ ys) ≡ count → 128 ≤ b → b < 192 →
    scalar_of_last count (front ++ b ∷ ys) ≡ None
last_none front b ys count e h k = last_is front (b ∷ ys) count e ∙ ap (whole_scalar (b ∷ ys)) (at_none b ys h k)

last_whole : (front : List ℕ) (c count : ℕ) → IsScalar c → length (encode_utf8 c) ≡ count → scalar_of_last count (front ++ encode_utf8 c) ≡ Some c
last_whole front c count ok e =
    let at : scalar_at (encode_utf8 c) ≡ Some (c, length (encode_utf8 c)) =
    ap scalar_at (sym (append-nil (encode_utf8 c))) ∙ scalar_at-encode c [] ok in
    last_is front (encode_utf8 c) count e
    ∙ ap (whole_scalar (encode_utf8 c)) at
    ∙ (rw (eq-eqb (length (encode_utf8 c)) (length (encode_utf8 c)) refl) refl)

whole_some : (xs : List ℕ) (o : Option (ℕ × ℕ)) (c : ℕ) → whole_scalar xs o ≡ Some c → (n : ℕ) × (o ≡ Some (c, n)) × (n ≡ length xs)
whole_some xs None c e = absurd (none-some c e)
whole_some xs (Some s) c e =
    let p = if_some (s.1 == length xs) (Some s.0) c e in
    (s.1, ap (λ z. Some (z, s.1)) (same_Some s.0 c p.1), eqb-true s.1 (length xs) p.0)

-- what it is that c's bytes end bs
abbrev Ends : List ℕ → ℕ → Type 0
Ends bs c = IsScalar c × ((front : List ℕ) × (bs ≡ front ++ encode_utf8 c))

empty_rest : (xs ys rest : List ℕ) → xs ≡ ys ++ rest → length ys ≡ length xs → xs ≡ ys
empty_rest xs ys [] e l = e ∙ append-nil ys
empty_rest xs ys (r ∷ rest) e l =
    let k = length-append ys (r ∷ rest) in let m : length xs ≡ length (ys ++ r ∷ rest) = ap length e in absurd (omega (arith, k, l, m))

last_some : (bs : List ℕ) (count c : ℕ) → scalar_of_last count bs ≡ Some c → Ends bs c
last_some bs count c e =
    let xs = drop (length bs - count) bs in
    let w = whole_some xs (scalar_at xs) c e in
    let b = begins_from xs (c, w.0) w.1 in
    let whole : xs ≡ encode_utf8 c = empty_rest xs (encode_utf8 c) b.2.0 b.2.1 (sym b.1 ∙ w.2) in (
      b.0,
      (
        take (length bs - count) bs,
        sym (take-append-drop (length bs - count) bs) ∙ ap (λ ys. take (length bs - count) bs ++ ys) whole,
      ),
    )

or_some : {X : Type 0} (a b : Option X) (x : X) → option_or a b ≡ Some x → (a ≡ Some x) ⊎ (b ≡ Some x)
or_some None b x e = inr e
or_some (Some y) b x e = inl e

ends_from : (bs : List ℕ) (c : ℕ) → scalar_before bs ≡ Some c → Ends bs c
ends_from bs c e =
    ⊎_elim (λ h. last_some bs 1 c h)
    (λ r. ⊎_elim (λ h. last_some bs 2 c h)
    (λ r. ⊎_elim (λ h. last_some bs 3 c h) (λ h. last_some bs 4 c h)
    (or_some (scalar_of_last 3 bs) (scalar_of_last 4 bs) c r))
    (or_some (scalar_of_last 2 bs) (option_or (scalar_of_last 3 bs) (scalar_of_last 4 bs)) c r))
    (or_some (scalar_of_last 1 bs) (option_or (scalar_of_last 2 bs) (option_or (scalar_of_last 3 bs) (scalar_of_last 4 bs))) c e)

or_first : (a : Option ℕ) (b : Option ℕ) (c : ℕ) → a ≡ Some c → option_or a b ≡ Some c
or_first a b c e = ap (λ o. option_or o b) e

or_later : (a b : Option ℕ) (c : ℕ) → a ≡ None → b ≡ Some c → option_or a b ≡ Some c
or_later a b c n e = ap (λ o. option_or o b) n ∙ e

one_before : (front : List ℕ) (c : ℕ) → IsScalar c → c < 128 → scalar_before (front ++ encode_utf8 c) ≡ Some c
one_before front c ok h =
    or_first (scalar_of_last 1 (front ++ encode_utf8 c)) _ c (last_whole front c 1 ok (ap length (encode_one c h)))

-- the bytes from one on that stand behind others
behind_one : (front : List ℕ) (a : ℕ) (xs : List ℕ) → (front ++ a ∷ []) ++ xs ≡ front ++ a ∷ xs
behind_one front a xs = append_assoc front (a ∷ []) xs

next_in : (x : ℕ) → (128 ≤ 128 + x % 64) × (128 + x % 64 < 192)
next_in x = (omega arith, omega arith)

two_before : (front : List ℕ) (c : ℕ) → IsScalar c → 128 ≤ c → c < 2048 → scalar_before (front ++ encode_utf8 c) ≡ Some c
two_before front c ok h k =
    let e = encode_two c h k in
    let n = next_in c in
    let a = 192 + c / 64 in
    let b = 128 + c % 64 in
    or_later (scalar_of_last 1 (front ++ encode_utf8 c)) _ c
    (ap (λ xs. scalar_of_last 1 (front ++ xs)) e ∙ ap (scalar_of_last 1) (sym (behind_one front a (b ∷ [])))
    ∙ last_none (front ++ a ∷ []) b [] 1 refl n.0 n.1)
    (or_first (scalar_of_last 2 (front ++ encode_utf8 c)) _ c (last_whole front c 2 ok (ap length e)))

three_before : (front : List ℕ) (c : ℕ) → IsScalar c → 2048 ≤ c → c < 65536 → scalar_before (front ++ encode_utf8 c) ≡ Some c
three_before front c ok h k =
    let e = encode_three c h k in
    let n = next_in c in
    let m = next_in (c / 64) in
    let a = 224 + c / 4096 in
    let b = 128 + c / 64 % 64 in
    let d = 128 + c % 64 in
    or_later (scalar_of_last 1 (front ++ encode_utf8 c)) _ c
    (ap (λ xs. scalar_of_last 1 (front ++ xs)) e ∙ ap (scalar_of_last 1) (sym (behind_one front a (b ∷ d ∷ [])))
    ∙ ap (scalar_of_last 1) (sym (behind_one (front ++ a ∷ []) b (d ∷ [])))
    ∙ last_none ((front ++ a ∷ []) ++ b ∷ []) d [] 1 refl n.0 n.1)
    (or_later (scalar_of_last 2 (front ++ encode_utf8 c)) _ c
    (ap (λ xs. scalar_of_last 2 (front ++ xs)) e ∙ ap (scalar_of_last 2) (sym (behind_one front a (b ∷ d ∷ [])))
    ∙ last_none (front ++ a ∷ []) b (d ∷ []) 2 refl m.0 m.1)
    (or_first (scalar_of_last 3 (front ++ encode_utf8 c)) _ c (last_whole front c 3 ok (ap length e))))

four_before : (front : List ℕ) (c : ℕ) → IsScalar c → 65536 ≤ c → scalar_before (front ++ encode_utf8 c) ≡ Some c
four_before front c ok h =
    let e = encode_four c h in
    let n = next_in c in
    let m = next_in (c / 64) in
    let p = next_in (c / 4096) in
    let a = 240 + c / 262144 in
    let b = 128 + c / 4096 % 64 in
    let d = 128 + c / 64 % 64 in
    let f = 128 + c % 64 in
    or_later (scalar_of_last 1 (front ++ encode_utf8 c)) _ c
    (ap (λ xs. scalar_of_last 1 (front ++ xs)) e ∙ ap (scalar_of_last 1) (sym (behind_one front a (b ∷ d ∷ f ∷ [])))
    ∙ ap (scalar_of_last 1) (sym (behind_one (front ++ a ∷ []) b (d ∷ f ∷ [])))
    ∙ ap (scalar_of_last 1) (sym (behind_one ((front ++ a ∷ []) ++ b ∷ []) d (f ∷ [])))
    ∙ last_none (((front ++ a ∷ []) ++ b ∷ []) ++ d ∷ []) f [] 1 refl n.0 n.1)
    (or_later (scalar_of_last 2 (front ++ encode_utf8 c)) _ c
    (ap (λ xs. scalar_of_last 2 (front ++ xs)) e ∙ ap (scalar_of_last 2) (sym (behind_one front a (b ∷ d ∷ f ∷ [])))
    ∙ ap (scalar_of_last 2) (sym (behind_one (front ++ a ∷ []) b (d ∷ f ∷ [])))
    ∙ last_none ((front ++ a ∷ []) ++ b ∷ []) d (f ∷ []) 2 refl m.0 m.1)
    (or_later (scalar_of_last 3 (front ++ encode_utf8 c)) _ c
    (ap (λ xs. scalar_of_last 3 (front ++ xs)) e ∙ ap (scalar_of_last 3) (sym (behind_one front a (b ∷ d ∷ f ∷ [])))
    ∙ last_none (front ++ a ∷ []) b (d ∷ f ∷ []) 3 refl p.0 p.1)
    (last_whole front c 4 ok (ap length e))))

-- a scalar's bytes are read back as that scalar, whatever stands before
pub scalar_before-encode : (front : List ℕ) (c : ℕ) → IsScalar c → scalar_before (front ++ encode_utf8 c) ≡ Some c
scalar_before-encode front c ok =
    ⊎_elim (λ l. one_before front c ok l)
    (λ g1. ⊎_elim (λ l. two_before front c ok g1 l)
    (λ g2. ⊎_elim (λ l. three_before front c ok g2 l) (λ g3. four_before front c ok g3) (cases_lt c 65536)) (cases_lt c 2048)) (cases_lt c 128)

ends_to : (bs : List ℕ) (c : ℕ) → Ends bs c → scalar_before bs ≡ Some c
ends_to bs c h = ap scalar_before h.1.1 ∙ scalar_before-encode h.1.0 c h.0

pub scalar_law : ScalarLaw
scalar_law = record {
  begins = λ bs c n. ((λ e. begins_from bs (c, n) e), (λ h. begins_to bs c n h));
  ends = λ bs c. ((λ e. ends_from bs c e), (λ h. ends_to bs c h));
}

-- Four bytes are enough.

-- the scalar ahead is seen in the first four bytes
pub scalar_at-take : (k : ℕ) (bs : List ℕ) → 4 ≤ k → scalar_at (take k bs) ≡ scalar_at bs
scalar_at-take zero bs h = absurd (omega arith)
scalar_at-take (suc zero) bs h = absurd (omega arith)
scalar_at-take (suc (suc zero)) bs h = absurd (omega arith)
scalar_at-take (suc (suc (suc zero))) bs h = absurd (omega arith)
scalar_at-take (suc (suc (suc (suc k)))) [] h = refl
scalar_at-take (suc (suc (suc (suc k)))) (a ∷ []) h = refl
scalar_at-take (suc (suc (suc (suc k)))) (a ∷ b ∷ []) h = refl
scalar_at-take (suc (suc (suc (suc k)))) (a ∷ b ∷ c ∷ []) h = refl
scalar_at-take (suc (suc (suc (suc k)))) (a ∷ b ∷ c ∷ d ∷ bs) h = refl

-- what stands after is seen in the first four bytes
pub side_after-take : (k : ℕ) (bs : List ℕ) → 4 ≤ k → side_after (take k bs) ≡ side_after bs
side_after-take zero bs h = absurd (omega arith)
side_after-take (suc k) [] h = refl
side_after-take (suc k) (b ∷ bs) h = ap (λ o. stands b (option_map (λ (s : ℕ × ℕ). s.0) o)) (scalar_at-take (suc k) (b ∷ bs) h)

scalar_of_last-drop : (count k : ℕ) (bs : List ℕ) → count ≤ k → scalar_of_last count (drop (length bs - k) bs) ≡ scalar_of_last count bs
scalar_of_last-drop count k bs h =
    let l = length-drop (length bs - k) bs in
    let n : (length bs - k) + (length (drop (length bs - k) bs) - count) ≡ length bs - count = omega (arith, l, h) in
    ap (λ ys. whole_scalar ys (scalar_at ys))
    (drop-drop (length (drop (length bs - k) bs) - count) (length bs - k) bs ∙ ap (λ m. drop m bs) n)

-- the scalar behind is seen in the last four bytes
pub scalar_before-drop : (k : ℕ) (bs : List ℕ) → 4 ≤ k → scalar_before (drop (length bs - k) bs) ≡ scalar_before bs
scalar_before-drop k bs h =
    ap₂ option_or (scalar_of_last-drop 1 k bs (omega arith))
    (ap₂ option_or (scalar_of_last-drop 2 k bs (omega arith))
    (ap₂ option_or (scalar_of_last-drop 3 k bs (omega arith)) (scalar_of_last-drop 4 k bs (omega arith))))

-- what stands before, where bytes do
pub side_before_some : (bs : List ℕ) → 0 < length bs → side_before bs ≡ stands (slice_index bs (length bs - 1)) (scalar_before bs)
side_before_some [] h = absurd (omega arith)
side_before_some (b ∷ bs) h =
    let n : length (b ∷ bs) - 1 ≡ length bs = omega arith in
    ap (λ k. stands (slice_index (b ∷ bs) k) (scalar_before (b ∷ bs))) (sym n)

side_before_more : (k : ℕ) (bs : List ℕ) → 4 ≤ k → 0 < length bs → side_before (drop (length bs - k) bs) ≡ side_before bs
side_before_more k bs h some =
    let l = length-drop (length bs - k) bs in
    let n : (length bs - k) + (length (drop (length bs - k) bs) - 1) ≡ length bs - 1 = omega (arith, l, h) in
    side_before_some (drop (length bs - k) bs) (omega (arith, l))
    ∙ ap₂ stands
    (get_or-drop (length bs - k) bs (length (drop (length bs - k) bs) - 1) 0 ∙ ap (slice_index bs) n)
    (scalar_before-drop k bs h)
    ∙ sym (side_before_some bs some)

-- what stands before is seen in the last four bytes
pub side_before-drop : (k : ℕ) (bs : List ℕ) → 4 ≤ k → side_before (drop (length bs - k) bs) ≡ side_before bs
side_before-drop k [] h = ap side_before (drop_all (0 - k) [] (omega arith))
side_before-drop k (b ∷ bs) h = side_before_more k (b ∷ bs) h (omega arith)

-- what stands after some bytes that go on is what they show, where they are four or more
pub side_after-append : (xs rest : List ℕ) → 4 ≤ length xs → side_after (xs ++ rest) ≡ side_after xs
side_after-append xs rest h =
    sym (side_after-take (length xs) (xs ++ rest) h) ∙ ap side_after (take_at xs rest (length xs) refl)

-- what stands before a position is what the bytes that lead up to it show, where they are four or more
pub side_before-append : (front xs : List ℕ) → 4 ≤ length xs → side_before (front ++ xs) ≡ side_before xs
side_before-append front xs h =
    sym (side_before-drop (length xs) (front ++ xs) h) ∙ ap side_before (drop_end front xs (length xs) refl)
