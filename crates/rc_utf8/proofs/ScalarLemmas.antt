-- The bytes that lie between the sequences of two scalars of one length are those of the scalars between them.
use Rattle.std.proofs.Common.{◌≡◌, ℕ, suc, ◌+◌, ◌-◌, ◌*◌, ◌/◌, ◌%◌, ◌<◌, ◌≤◌, ◌⊎◌, List, [], ◌∷◌, ◌++◌, length, ⊎_elim, sym, ap, ap₂, ◌∙◌, refl, arith, Bool, true, false, true≢false, Some, ◌&&◌, ◌||◌, max, min, nat_le, nat_lt}
use Rattle.std.specs.Char.{IsScalar, encode_utf8}
use Rattle.std.proofs.lemmas.Bool.{cases_lt, and_parts, and_from, lt-ltb, le-ltb, le-leb, lt-leb, or_left, or_right, or_cases}
use lib.Utf8.{scalar as is_scalar, scalar_cases, low_scalar}
use Rattle.rc_program.specs.Scalars.{continues, in_bytes, of_two, of_three, of_four, scalar_at}
use Rattle.rc_program.proofs.SideLemmas.{scalar_law}
use Rattle.std.specs.List.{AllByRecursion}
use Rattle.rc_pattern.specs.Re.{Range}
use Rattle.rc_program.specs.Program.{in_ranges}
use Rattle.rc_program.proofs.PlaceLemmas.{each_append}
use Rattle.rc_utf8.specs.Bytes.{between, pieces, all_pieces}
use Rattle.rc_utf8.proofs.TakeLemmas.{takes_any, takes_within, any_parts, any_from, inside, inside_parts, inside_from, or_none, within_takes, within_takes_is}

pub encode_one : (c : ℕ) → c < 128 → encode_utf8 c ≡ c ∷ []
unfolding encode_utf8
encode_one c a = rw (lt-ltb c 128 a) refl

pub encode_two : (c : ℕ) → 128 ≤ c → c < 2048 → encode_utf8 c ≡ (192 + c / 64) ∷ (128 + c % 64) ∷ []
unfolding encode_utf8
encode_two c a b = rw (le-ltb c 128 a, lt-ltb c 2048 b) refl

pub encode_three : (c : ℕ) → 2048 ≤ c → c < 65536 → encode_utf8 c ≡ (224 + c / 4096) ∷ (128 + c / 64 % 64) ∷ (128 + c % 64) ∷ []
unfolding encode_utf8
encode_three c a b = rw (le-ltb c 128 (omega arith), le-ltb c 2048 a, lt-ltb c 65536 b) refl

pub encode_four : (c : ℕ) → 65536 ≤ c → encode_utf8 c ≡ (240 + c / 262144) ∷ (128 + c / 4096 % 64) ∷ (128 + c / 64 % 64) ∷ (128 + c % 64) ∷ []
unfolding encode_utf8
encode_four c a = rw (le-ltb c 128 (omega arith), le-ltb c 2048 (omega arith), le-ltb c 65536 a) refl

at_one : (a : ℕ) (bs : List ℕ) → a < 128 → scalar_at (a ∷ bs) ≡ Some (a, 1)
at_one a bs h = rw (lt-ltb a 128 h) refl

at_two : (a : ℕ) (bs : List ℕ) → 192 ≤ a → a < 224 → scalar_at (a ∷ bs) ≡ of_two (a - 192) bs
at_two a bs h k = rw (le-ltb a 128 (omega arith), le-ltb a 192 h, lt-ltb a 224 k) refl

at_three : (a : ℕ) (bs : List ℕ) → 224 ≤ a → a < 240 → scalar_at (a ∷ bs) ≡ of_three (a - 224) bs
at_three a bs h k = rw (le-ltb a 128 (omega arith), le-ltb a 192 (omega arith), le-ltb a 224 h, lt-ltb a 240 k) refl

at_four : (a : ℕ) (bs : List ℕ) → 240 ≤ a → a < 248 → scalar_at (a ∷ bs) ≡ of_four (a - 240) bs
at_four a bs h k = rw (le-ltb a 128 (omega arith), le-ltb a 192 (omega arith), le-ltb a 224 (omega arith), le-ltb a 240 h, lt-ltb a 248 k) refl

goes_on : (b : ℕ) → 128 ≤ b → b ≤ 191 → continues b ≡ true
goes_on b h k = and_from (nat_le 128 b) (nat_lt b 192) (le-leb 128 b h) (lt-ltb b 192 (omega arith))

in_bytes_is : (count least c : ℕ) → least ≤ c → IsScalar c → in_bytes count least c ≡ Some (c, count)
in_bytes_is count least c h ok = rw (and_from (nat_le least c) (is_scalar c) (le-leb least c h) ok) refl

-- the bytes of the piece
abbrev pub takes_piece : Range → List ℕ → Bool
takes_piece p bs = takes_within (encode_utf8 p.0) (encode_utf8 p.1) bs

-- the scalar that begins bs lies in the range, and takes n bytes
abbrev pub Begins : Range → ℕ → List ℕ → Type 0
Begins p n bs = (c : ℕ) × (scalar_at bs ≡ Some (c, n)) × (p.0 ≤ c) × (c ≤ p.1)

-- the bytes of the piece are those of its scalars, each n many
pub record IsPiece (p : Range) (n : ℕ) : Type 0 where
  pub first : length (encode_utf8 p.0) ≡ n
  pub last : length (encode_utf8 p.1) ≡ n
  pub some : 0 < n
  pub short : n ≤ 4
  pub from : (bs : List ℕ) → takes_piece p bs ≡ true → Begins p n bs
  pub to : (bs : List ℕ) (c k : ℕ) → scalar_at bs ≡ Some (c, k) → p.0 ≤ c → c ≤ p.1 → takes_piece p bs ≡ true

within_nil : (xs ys : List ℕ) → takes_within xs ys [] ≡ true → ⊥
within_nil [] ys h = true≢false (sym h)
within_nil (x ∷ xs) [] h = true≢false (sym h)
within_nil (x ∷ xs) (y ∷ ys) h = true≢false (sym h)

within_one : (a b d : ℕ) (ds : List ℕ) → takes_within (a ∷ []) (b ∷ []) (d ∷ ds) ≡ true → (a ≤ d) × (d ≤ b)
within_one a b d ds h = inside_parts a b d (and_parts _ _ (or_none _ h)).0

any_cons : (n : ℕ) (ds : List ℕ) → takes_any (suc n) ds ≡ true → (e : ℕ) × (es : List ℕ) × (ds ≡ e ∷ es) × (128 ≤ e) × (e ≤ 191) × (takes_any n es ≡ true)
any_cons n [] h = absurd (true≢false (sym h))
any_cons n (e ∷ es) h = let p = any_parts n e es h in (e, es, refl, p.0, p.1, p.2)

-- the bytes that c begins
spelled : (bs : List ℕ) (c k : ℕ) → scalar_at bs ≡ Some (c, k) → IsScalar c × ((rest : List ℕ) × (bs ≡ encode_utf8 c ++ rest))
spelled bs c k e = let r = (scalar_law.begins bs c k).0 e in (r.0, r.2)

pub piece_one : (l h : ℕ) → h < 128 → l ≤ h → IsPiece (l, h) 1
piece_one l h top le = record { first = ap length (encode_one l (omega arith)); last = ap length (encode_one h top); some = omega arith; short = omega arith; from = from; to = to }
  where
    ends : (bs : List ℕ) → takes_piece (l, h) bs ≡ takes_within (l ∷ []) (h ∷ []) bs
    ends bs = ap₂ (λ x y. takes_within x y bs) (encode_one l (omega arith)) (encode_one h top)

    from : (bs : List ℕ) → takes_piece (l, h) bs ≡ true → Begins (l, h) 1 bs
    from [] e = absurd (within_nil (l ∷ []) (h ∷ []) (sym (ends []) ∙ e))
    from (d ∷ ds) e = let p = within_one l h d ds (sym (ends (d ∷ ds)) ∙ e) in (d, at_one d ds (omega (arith, p.1)), p.0, p.1)

    to : (bs : List ℕ) (c k : ℕ) → scalar_at bs ≡ Some (c, k) → l ≤ c → c ≤ h → takes_piece (l, h) bs ≡ true
    to bs c k e a b =
        let r = spelled bs c k e in
        let f : bs ≡ c ∷ r.1.0 = r.1.1 ∙ ap (λ xs. xs ++ r.1.0) (encode_one c (omega arith)) in
        ends bs ∙ ap (λ xs. takes_within (l ∷ []) (h ∷ []) xs) f
        ∙ within_takes_is 0 0 l [] h [] c r.1.0 refl (omega arith) (omega arith) (omega arith) refl refl refl (omega arith) (omega arith)

pub piece_two : (l h : ℕ) → 128 ≤ l → l ≤ h → h < 2048 → IsPiece (l, h) 2
piece_two l h low le top = record { first = ap length (encode_two l low (omega arith)); last = ap length (encode_two h (omega arith) top); some = omega arith; short = omega arith; from = from; to = to }
  where
    ends : (bs : List ℕ) → takes_piece (l, h) bs
        ≡ takes_within ((192 + l / 64) ∷ (128 + l % 64) ∷ []) ((192 + h / 64) ∷ (128 + h % 64) ∷ []) bs
    ends bs = ap₂ (λ x y. takes_within x y bs) (encode_two l low (omega arith)) (encode_two h (omega arith) top)

    any_of : (c : ℕ) (rest : List ℕ) → takes_any 1 ((128 + c % 64) ∷ rest) ≡ true
    any_of c rest = any_from 0 (128 + c % 64) rest (omega arith) (omega arith) refl

    from : (bs : List ℕ) → takes_piece (l, h) bs ≡ true → Begins (l, h) 2 bs
    from [] e = absurd (within_nil ((192 + l / 64) ∷ (128 + l % 64) ∷ []) ((192 + h / 64) ∷ (128 + h % 64) ∷ []) (sym (ends []) ∙ e))
    from (d ∷ ds) e =
        let r = within_takes 0 192 (192 + l / 64) ((128 + l % 64) ∷ []) (192 + h / 64) ((128 + h % 64) ∷ []) d ds refl (omega arith) (omega arith)
        (any_of l []) (any_of h []) (omega arith) (sym (ends (d ∷ ds)) ∙ e) in
        let above = r.low in let below = r.high in let least = r.least in let most = r.most in
        let a = any_cons 0 ds r.goes_on in
        let least2 : (0 * 64 + (192 + l / 64 - 192)) * 64 + (128 + l % 64 - 128) ≤ (0 * 64 + (d - 192)) * 64 + (a.0 - 128) = rw a.2 at least in
        let most2 : (0 * 64 + (d - 192)) * 64 + (a.0 - 128) ≤ (0 * 64 + (192 + h / 64 - 192)) * 64 + (128 + h % 64 - 128) = rw a.2 at most in
        let c = (d - 192) * 64 + (a.0 - 128) in
        let lc : l ≤ c = omega (arith, least2) in
        let ch : c ≤ h = omega (arith, most2) in (
          c,
          at_two d ds (omega (arith, above)) (omega (arith, below)) ∙ ap (of_two (d - 192)) a.2
              ∙ (rw (goes_on a.0 a.3 a.4) (in_bytes_is 2 0x80 c (omega (arith, lc)) (low_scalar c (omega (arith, ch))))),
          lc,
          ch,
        )

    to : (bs : List ℕ) (c k : ℕ) → scalar_at bs ≡ Some (c, k) → l ≤ c → c ≤ h → takes_piece (l, h) bs ≡ true
    to bs c k e a b =
        let r = spelled bs c k e in
        let f : bs ≡ (192 + c / 64) ∷ (128 + c % 64) ∷ r.1.0 = r.1.1 ∙ ap (λ xs. xs ++ r.1.0) (encode_two c (omega arith) (omega arith)) in
        ends bs ∙ ap (λ xs. takes_within ((192 + l / 64) ∷ (128 + l % 64) ∷ []) ((192 + h / 64) ∷ (128 + h % 64) ∷ []) xs) f
        ∙ within_takes_is 0 192 (192 + l / 64) ((128 + l % 64) ∷ []) (192 + h / 64) ((128 + h % 64) ∷ []) (192 + c / 64) ((128 + c % 64) ∷ r.1.0) refl
        (omega arith) (omega arith) (omega arith) (any_of l []) (any_of h []) (any_of c r.1.0) (omega arith) (omega arith)

three_is : (c : ℕ) → ((0 * 64 + (224 + c / 4096 - 224)) * 64 + (128 + c / 64 % 64 - 128)) * 64 + (128 + c % 64 - 128) ≡ c
three_is c = omega arith

four_is : (c : ℕ) → (((0 * 64 + (240 + c / 262144 - 240)) * 64 + (128 + c / 4096 % 64 - 128)) * 64 + (128 + c / 64 % 64 - 128)) * 64 + (128 + c % 64 - 128) ≡ c
four_is c = omega arith

three_from : (l d a b : ℕ) → ((0 * 64 + (224 + l / 4096 - 224)) * 64 + (128 + l / 64 % 64 - 128)) * 64 + (128 + l % 64 - 128) ≤ ((0 * 64 + (d - 224)) * 64 + (a - 128)) * 64 + (b - 128) → l ≤ ((d - 224) * 64 + (a - 128)) * 64 + (b - 128)
three_from l d a b h = let e = three_is l in omega (arith, e, h)

three_to : (l d a b : ℕ) → ((0 * 64 + (d - 224)) * 64 + (a - 128)) * 64 + (b - 128) ≤ ((0 * 64 + (224 + l / 4096 - 224)) * 64 + (128 + l / 64 % 64 - 128)) * 64 + (128 + l % 64 - 128) → ((d - 224) * 64 + (a - 128)) * 64 + (b - 128) ≤ l
three_to l d a b h = let e = three_is l in omega (arith, e, h)

four_from : (l d a b f : ℕ) → (((0 * 64 + (240 + l / 262144 - 240)) * 64 + (128 + l / 4096 % 64 - 128)) * 64 + (128 + l / 64 % 64 - 128)) * 64 + (128 + l % 64 - 128) ≤ (((0 * 64 + (d - 240)) * 64 + (a - 128)) * 64 + (b - 128)) * 64 + (f - 128) → l ≤ (((d - 240) * 64 + (a - 128)) * 64 + (b - 128)) * 64 + (f - 128)
four_from l d a b f h = let e = four_is l in omega (arith, e, h)

four_to : (l d a b f : ℕ) → (((0 * 64 + (d - 240)) * 64 + (a - 128)) * 64 + (b - 128)) * 64 + (f - 128) ≤ (((0 * 64 + (240 + l / 262144 - 240)) * 64 + (128 + l / 4096 % 64 - 128)) * 64 + (128 + l / 64 % 64 - 128)) * 64 + (128 + l % 64 - 128) → (((d - 240) * 64 + (a - 128)) * 64 + (b - 128)) * 64 + (f - 128) ≤ l
four_to l d a b f h = let e = four_is l in omega (arith, e, h)

three_grows : (l c : ℕ) → l ≤ c → ((0 * 64 + (224 + l / 4096 - 224)) * 64 + (128 + l / 64 % 64 - 128)) * 64 + (128 + l % 64 - 128) ≤ ((0 * 64 + (224 + c / 4096 - 224)) * 64 + (128 + c / 64 % 64 - 128)) * 64 + (128 + c % 64 - 128)
three_grows l c h = let e = three_is l in let f = three_is c in omega (arith, e, f, h)

four_grows : (l c : ℕ) → l ≤ c → (((0 * 64 + (240 + l / 262144 - 240)) * 64 + (128 + l / 4096 % 64 - 128)) * 64 + (128 + l / 64 % 64 - 128)) * 64 + (128 + l % 64 - 128) ≤ (((0 * 64 + (240 + c / 262144 - 240)) * 64 + (128 + c / 4096 % 64 - 128)) * 64 + (128 + c / 64 % 64 - 128)) * 64 + (128 + c % 64 - 128)
four_grows l c h = let e = four_is l in let f = four_is c in omega (arith, e, f, h)

abbrev three : ℕ → List ℕ
three c = (224 + c / 4096) ∷ (128 + c / 64 % 64) ∷ (128 + c % 64) ∷ []

abbrev four : ℕ → List ℕ
four c = (240 + c / 262144) ∷ (128 + c / 4096 % 64) ∷ (128 + c / 64 % 64) ∷ (128 + c % 64) ∷ []

pub piece_three : (l h : ℕ) → 2048 ≤ l → l ≤ h → h < 65536 → ((c : ℕ) → l ≤ c → c ≤ h → IsScalar c) → IsPiece (l, h) 3
piece_three l h low le top ok = record { first = ap length (encode_three l low (omega arith)); last = ap length (encode_three h (omega arith) top); some = omega arith; short = omega arith; from = from; to = to }
  where
    ends : (bs : List ℕ) → takes_piece (l, h) bs ≡ takes_within (three l) (three h) bs
    ends bs = ap₂ (λ x y. takes_within x y bs) (encode_three l low (omega arith)) (encode_three h (omega arith) top)

    any_of : (c : ℕ) (rest : List ℕ) → takes_any 2 ((128 + c / 64 % 64) ∷ (128 + c % 64) ∷ rest) ≡ true
    any_of c rest =
        any_from 1 (128 + c / 64 % 64) ((128 + c % 64) ∷ rest) (omega arith) (omega arith)
        (any_from 0 (128 + c % 64) rest (omega arith) (omega arith) refl)

    from : (bs : List ℕ) → takes_piece (l, h) bs ≡ true → Begins (l, h) 3 bs
    from [] e = absurd (within_nil (three l) (three h) (sym (ends []) ∙ e))
    from (d ∷ ds) e =
        let r = within_takes 0 224 (224 + l / 4096) ((128 + l / 64 % 64) ∷ (128 + l % 64) ∷ []) (224 + h / 4096)
        ((128 + h / 64 % 64) ∷ (128 + h % 64) ∷ []) d ds refl (omega arith) (omega arith)
        (any_of l []) (any_of h []) (three_grows l h le) (sym (ends (d ∷ ds)) ∙ e) in
        let above = r.low in let below = r.high in let least = r.least in let most = r.most in
        let a = any_cons 1 ds r.goes_on in
        let b = any_cons 0 a.1 a.5 in
        let is : ds ≡ a.0 ∷ b.0 ∷ b.1 = a.2 ∙ ap (λ xs. a.0 ∷ xs) b.2 in
        let least2 : ((0 * 64 + (224 + l / 4096 - 224)) * 64 + (128 + l / 64 % 64 - 128)) * 64 + (128 + l % 64 - 128)
        ≤ ((0 * 64 + (d - 224)) * 64 + (a.0 - 128)) * 64 + (b.0 - 128) = rw is at least in
        let most2 : ((0 * 64 + (d - 224)) * 64 + (a.0 - 128)) * 64 + (b.0 - 128)
        ≤ ((0 * 64 + (224 + h / 4096 - 224)) * 64 + (128 + h / 64 % 64 - 128)) * 64 + (128 + h % 64 - 128) = rw is at most in
        let c = ((d - 224) * 64 + (a.0 - 128)) * 64 + (b.0 - 128) in
        let lc : l ≤ c = three_from l d a.0 b.0 least2 in
        let ch : c ≤ h = three_to h d a.0 b.0 most2 in (
          c,
          at_three d ds (omega (arith, above)) (omega (arith, below)) ∙ ap (of_three (d - 224)) is
              ∙ (rw (goes_on a.0 a.3 a.4, goes_on b.0 b.3 b.4) (in_bytes_is 3 0x800 c (omega (arith, lc)) (ok c lc ch))),
          lc,
          ch,
        )

    to : (bs : List ℕ) (c k : ℕ) → scalar_at bs ≡ Some (c, k) → l ≤ c → c ≤ h → takes_piece (l, h) bs ≡ true
    to bs c k e a b =
        let r = spelled bs c k e in
        let f : bs ≡ (224 + c / 4096) ∷ (128 + c / 64 % 64) ∷ (128 + c % 64) ∷ r.1.0 =
        r.1.1 ∙ ap (λ xs. xs ++ r.1.0) (encode_three c (omega arith) (omega arith)) in
        ends bs ∙ ap (λ xs. takes_within (three l) (three h) xs) f
        ∙ within_takes_is 0 224 (224 + l / 4096) ((128 + l / 64 % 64) ∷ (128 + l % 64) ∷ []) (224 + h / 4096)
        ((128 + h / 64 % 64) ∷ (128 + h % 64) ∷ []) (224 + c / 4096) ((128 + c / 64 % 64) ∷ (128 + c % 64) ∷ r.1.0) refl
        (omega arith) (omega arith) (omega arith) (any_of l []) (any_of h []) (any_of c r.1.0) (three_grows l c a) (three_grows c h b)

pub piece_four : (l h : ℕ) → 65536 ≤ l → l ≤ h → h < 1114112 → ((c : ℕ) → l ≤ c → c ≤ h → IsScalar c) → IsPiece (l, h) 4
piece_four l h low le top ok = record { first = ap length (encode_four l low); last = ap length (encode_four h (omega arith)); some = omega arith; short = omega arith; from = from; to = to }
  where
    ends : (bs : List ℕ) → takes_piece (l, h) bs ≡ takes_within (four l) (four h) bs
    ends bs = ap₂ (λ x y. takes_within x y bs) (encode_four l low) (encode_four h (omega arith))

    any_of : (c : ℕ) (rest : List ℕ) → takes_any 3 ((128 + c / 4096 % 64) ∷ (128 + c / 64 % 64) ∷ (128 + c % 64) ∷ rest) ≡ true
    any_of c rest =
        any_from 2 (128 + c / 4096 % 64) ((128 + c / 64 % 64) ∷ (128 + c % 64) ∷ rest) (omega arith) (omega arith)
        (any_from 1 (128 + c / 64 % 64) ((128 + c % 64) ∷ rest) (omega arith) (omega arith)
        (any_from 0 (128 + c % 64) rest (omega arith) (omega arith) refl))

    from : (bs : List ℕ) → takes_piece (l, h) bs ≡ true → Begins (l, h) 4 bs
    from [] e = absurd (within_nil (four l) (four h) (sym (ends []) ∙ e))
    from (d ∷ ds) e =
        let r = within_takes 0 240 (240 + l / 262144) ((128 + l / 4096 % 64) ∷ (128 + l / 64 % 64) ∷ (128 + l % 64) ∷ []) (240 + h / 262144)
        ((128 + h / 4096 % 64) ∷ (128 + h / 64 % 64) ∷ (128 + h % 64) ∷ []) d ds refl (omega arith) (omega arith)
        (any_of l []) (any_of h []) (four_grows l h le) (sym (ends (d ∷ ds)) ∙ e) in
        let above = r.low in let below = r.high in let least = r.least in let most = r.most in
        let a = any_cons 2 ds r.goes_on in
        let b = any_cons 1 a.1 a.5 in
        let f = any_cons 0 b.1 b.5 in
        let is : ds ≡ a.0 ∷ b.0 ∷ f.0 ∷ f.1 = a.2 ∙ ap (λ xs. a.0 ∷ xs) b.2 ∙ ap (λ xs. a.0 ∷ b.0 ∷ xs) f.2 in
        let least2 : (((0 * 64 + (240 + l / 262144 - 240)) * 64 + (128 + l / 4096 % 64 - 128)) * 64 + (128 + l / 64 % 64 - 128)) * 64 + (128 + l % 64 - 128)
        ≤ (((0 * 64 + (d - 240)) * 64 + (a.0 - 128)) * 64 + (b.0 - 128)) * 64 + (f.0 - 128) = rw is at least in
        let most2 : (((0 * 64 + (d - 240)) * 64 + (a.0 - 128)) * 64 + (b.0 - 128)) * 64 + (f.0 - 128)
        ≤ (((0 * 64 + (240 + h / 262144 - 240)) * 64 + (128 + h / 4096 % 64 - 128)) * 64 + (128 + h / 64 % 64 - 128)) * 64 + (128 + h % 64 - 128) =
        rw is at most in
        let c = (((d - 240) * 64 + (a.0 - 128)) * 64 + (b.0 - 128)) * 64 + (f.0 - 128) in
        let lc : l ≤ c = four_from l d a.0 b.0 f.0 least2 in
        let ch : c ≤ h = four_to h d a.0 b.0 f.0 most2 in (
          c,
          at_four d ds (omega (arith, above)) (omega (arith, below)) ∙ ap (of_four (d - 240)) is
              ∙ (rw (goes_on a.0 a.3 a.4, goes_on b.0 b.3 b.4, goes_on f.0 f.3 f.4) (in_bytes_is 4 0x1_0000 c (omega (arith, lc)) (ok c lc ch))),
          lc,
          ch,
        )

    to : (bs : List ℕ) (c k : ℕ) → scalar_at bs ≡ Some (c, k) → l ≤ c → c ≤ h → takes_piece (l, h) bs ≡ true
    to bs c k e a b =
        let r = spelled bs c k e in
        let f : bs ≡ (240 + c / 262144) ∷ (128 + c / 4096 % 64) ∷ (128 + c / 64 % 64) ∷ (128 + c % 64) ∷ r.1.0 =
        r.1.1 ∙ ap (λ xs. xs ++ r.1.0) (encode_four c (omega arith)) in
        ends bs ∙ ap (λ xs. takes_within (four l) (four h) xs) f
        ∙ within_takes_is 0 240 (240 + l / 262144) ((128 + l / 4096 % 64) ∷ (128 + l / 64 % 64) ∷ (128 + l % 64) ∷ []) (240 + h / 262144)
        ((128 + h / 4096 % 64) ∷ (128 + h / 64 % 64) ∷ (128 + h % 64) ∷ []) (240 + c / 262144)
        ((128 + c / 4096 % 64) ∷ (128 + c / 64 % 64) ∷ (128 + c % 64) ∷ r.1.0) refl
        (omega arith) (omega arith) (omega arith) (any_of l []) (any_of h []) (any_of c r.1.0) (four_grows l c a) (four_grows c h b)

high_scalar : (c : ℕ) → 57344 ≤ c → c < 1114112 → IsScalar c
high_scalar c h k = rw (le-ltb c 55296 (omega arith), le-leb 57344 c h, lt-ltb c 1114112 k) refl

-- every piece is one
abbrev pub EachPiece : List Range → Type 0
EachPiece ps = AllByRecursion (λ p. (n : ℕ) × IsPiece p n) ps

piece_if : (a b : ℕ) (r : Range) → (max r.0 a ≤ min r.1 b → (n : ℕ) × IsPiece (max r.0 a, min r.1 b) n) → EachPiece (between a b r)
piece_if a b r h =
    ⊎_elim (λ l. rw (lt-leb (max r.0 a) (min r.1 b) l) tt) (λ l. rw (le-leb (max r.0 a) (min r.1 b) l) (h l, tt))
    (cases_lt (min r.1 b) (max r.0 a))

-- in the range's pieces
pub pieces_each : (r : Range) → EachPiece (pieces r)
pieces_each r =
    each_append _ (between 0 0x7F r) _ (piece_if 0 0x7F r (λ l. (1, piece_one (max r.0 0) (min r.1 0x7F) (omega arith) l)))
    (each_append _ (between 0x80 0x7FF r) _
    (piece_if 0x80 0x7FF r (λ l. (2, piece_two (max r.0 0x80) (min r.1 0x7FF) (omega arith) l (omega arith))))
    (each_append _ (between 0x800 0xD7FF r) _
    (piece_if 0x800 0xD7FF r (λ l. (
      3,
      piece_three (max r.0 0x800) (min r.1 0xD7FF) (omega arith) l (omega arith)
          (λ c a b. low_scalar c (omega (arith, b))),
    )))
    (each_append _ (between 0xE000 0xFFFF r) _
    (piece_if 0xE000 0xFFFF r (λ l. (
      3,
      piece_three (max r.0 0xE000) (min r.1 0xFFFF) (omega arith) l (omega arith)
          (λ c a b. high_scalar c (omega (arith, a)) (omega (arith, b))),
    )))
    (piece_if 0x1_0000 0x10_FFFF r (λ l. (
      4,
      piece_four (max r.0 0x1_0000) (min r.1 0x10_FFFF) (omega arith) l (omega arith)
          (λ c a b. high_scalar c (omega (arith, a)) (omega (arith, b))),
    ))))))

pub all_pieces_each : (rs : List Range) → EachPiece (all_pieces rs)
all_pieces_each [] = tt
all_pieces_each (r ∷ rs) = each_append _ (pieces r) (all_pieces rs) (pieces_each r) (all_pieces_each rs)

-- a number is in the pieces as it is in the ranges
in_append : (xs ys : List Range) (c : ℕ) → in_ranges (xs ++ ys) c ≡ (in_ranges xs c || in_ranges ys c)
in_append [] ys c = refl
in_append (x ∷ xs) ys c = ap (λ b. (nat_le x.0 c && nat_le c x.1) || b) (in_append xs ys c) ∙ or_or (nat_le x.0 c && nat_le c x.1) (in_ranges xs c) (in_ranges ys c)
  where
    or_or : (a b d : Bool) → (a || (b || d)) ≡ ((a || b) || d)
    or_or true b d = refl
    or_or false b d = refl

pub same_test : (x y : Bool) → (x ≡ true → y ≡ true) → (y ≡ true → x ≡ true) → x ≡ y
same_test true y f g = sym (f refl)
same_test false true f g = g refl
same_test false false f g = refl

abbrev Has : Range → ℕ → Type 0
Has r c = (r.0 ≤ c) × (c ≤ r.1)

in_between_to : (a b : ℕ) (r : Range) (c : ℕ) → Has r c → a ≤ c → c ≤ b → in_ranges (between a b r) c ≡ true
in_between_to a b r c h l m =
    rw (le-leb (max r.0 a) (min r.1 b) (omega (arith, h.0, h.1)))
    (or_left _ false (inside_from (max r.0 a) (min r.1 b) c (omega (arith, h.0)) (omega (arith, h.1))))

in_between_from : (a b : ℕ) (r : Range) (c : ℕ) → in_ranges (between a b r) c ≡ true → Has r c
in_between_from a b r c h =
    ⊎_elim
    (λ l. absurd (true≢false (sym (rw (lt-leb (max r.0 a) (min r.1 b) l) at h))))
    (λ l. let k : (inside (max r.0 a) (min r.1 b) c || false) ≡ true = rw (le-leb (max r.0 a) (min r.1 b) l) at h in
    let p = inside_parts (max r.0 a) (min r.1 b) c (or_none _ k) in (omega (arith, p.0), omega (arith, p.1)))
    (cases_lt (min r.1 b) (max r.0 a))

in_left : (xs ys : List Range) (c : ℕ) → in_ranges xs c ≡ true → in_ranges (xs ++ ys) c ≡ true
in_left xs ys c h = in_append xs ys c ∙ or_left _ _ h

in_right : (xs ys : List Range) (c : ℕ) → in_ranges ys c ≡ true → in_ranges (xs ++ ys) c ≡ true
in_right xs ys c h = in_append xs ys c ∙ or_right _ _ h

in_either : (xs ys : List Range) (c : ℕ) → in_ranges (xs ++ ys) c ≡ true → (in_ranges xs c ≡ true) ⊎ (in_ranges ys c ≡ true)
in_either xs ys c h = or_cases _ _ (sym (in_append xs ys c) ∙ h)

in_pieces_to : (r : Range) (c : ℕ) → IsScalar c → Has r c → in_ranges (pieces r) c ≡ true
in_pieces_to r c ok h =
    let b1 = between 0 0x7F r in
    let b2 = between 0x80 0x7FF r in
    let b3 = between 0x800 0xD7FF r in
    let b4 = between 0xE000 0xFFFF r in
    let b5 = between 0x1_0000 0x10_FFFF r in
    ⊎_elim (λ l. in_left b1 (b2 ++ (b3 ++ (b4 ++ b5))) c (in_between_to 0 0x7F r c h (omega arith) (omega (arith, l))))
    (λ g1. in_right b1 (b2 ++ (b3 ++ (b4 ++ b5))) c (⊎_elim (λ l. in_left b2 (b3 ++ (b4 ++ b5)) c (in_between_to 0x80 0x7FF r c h g1 (omega (arith, l))))
    (λ g2. in_right b2 (b3 ++ (b4 ++ b5)) c (⊎_elim
    (λ l. in_left b3 (b4 ++ b5) c (in_between_to 0x800 0xD7FF r c h g2 (omega (arith, l))))
    (λ g3. in_right b3 (b4 ++ b5) c (⊎_elim
    (λ l. in_left b4 b5 c (in_between_to 0xE000 0xFFFF r c h g3.0 (omega (arith, l))))
    (λ g4. in_right b4 b5 c (in_between_to 0x1_0000 0x10_FFFF r c h g4 (omega (arith, g3.1))))
    (cases_lt c 65536)))
    (scalar_cases c ok))) (cases_lt c 2048))) (cases_lt c 128)

in_pieces_from : (r : Range) (c : ℕ) → in_ranges (pieces r) c ≡ true → Has r c
in_pieces_from r c h =
    let b1 = between 0 0x7F r in
    let b2 = between 0x80 0x7FF r in
    let b3 = between 0x800 0xD7FF r in
    let b4 = between 0xE000 0xFFFF r in
    let b5 = between 0x1_0000 0x10_FFFF r in
    ⊎_elim (λ k. in_between_from 0 0x7F r c k)
    (λ k. ⊎_elim (λ k. in_between_from 0x80 0x7FF r c k)
    (λ k. ⊎_elim (λ k. in_between_from 0x800 0xD7FF r c k)
    (λ k. ⊎_elim (λ k. in_between_from 0xE000 0xFFFF r c k) (λ k. in_between_from 0x1_0000 0x10_FFFF r c k)
    (in_either b4 b5 c k)) (in_either b3 (b4 ++ b5) c k)) (in_either b2 (b3 ++ (b4 ++ b5)) c k)) (in_either b1 (b2 ++ (b3 ++ (b4 ++ b5))) c h)

in_one : (r : Range) (c : ℕ) → IsScalar c → in_ranges (pieces r) c ≡ (nat_le r.0 c && nat_le c r.1)
in_one r c ok =
    same_test _ _ (λ h. let p = in_pieces_from r c h in inside_from r.0 r.1 c p.0 p.1)
    (λ h. in_pieces_to r c ok (inside_parts r.0 r.1 c h))

pub in_all_pieces : (rs : List Range) (c : ℕ) → IsScalar c → in_ranges (all_pieces rs) c ≡ in_ranges rs c
in_all_pieces [] c ok = refl
in_all_pieces (r ∷ rs) c ok = in_append (pieces r) (all_pieces rs) c ∙ ap₂ ◌||◌ (in_one r c ok) (in_all_pieces rs c ok)

pub scalar_of : (bs : List ℕ) (c k : ℕ) → scalar_at bs ≡ Some (c, k) → IsScalar c
scalar_of bs c k e = (spelled bs c k e).0
