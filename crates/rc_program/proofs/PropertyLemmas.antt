-- What the properties of a pattern say of what it spells.
use Rattle.std.proofs.Common.{◌≡◌, ℕ, zero, suc, ◌+◌, ◌*◌, ◌≤◌, ◌⊎◌, List, [], ◌∷◌, length, get_or, inl, inr, ⊎_elim, sym, subst, ap, ap₂, ◌∙◌, refl, arith, Bool, true, false, true≢false, IsTrue, ◌&&◌, ◌||◌, Option, Some, None, nat_le, nat_lt, cond, min, max, if◌then◌else◌}
use Rattle.std.specs.Prelude.{option_and_then}
use Rattle.std.specs.Option.{option_map}
use Rattle.std.specs.Char.{len_utf8, encode_utf8}
use Rattle.std.proofs.lemmas.Bool.{and_parts, eqb-true, ltb-false, le-ltb, leb-true}
use Rattle.std.proofs.lemmas.Option.{none-some, same_Some}
use Rattle.std.proofs.lemmas.Str.{length-encode, len_utf8_bounds}
use Rattle.std.proofs.Math.Nat.{mul-le-mul_right}
use Rattle.rc_pattern.specs.Re.{Re, Range, empty, literal, byte_in, char_in, look, repeat, capture, cat, alt, none}
use Rattle.rc_pattern.specs.Properties.{greatest_usize, saturated, capped, both, least, is_zero, least_encoded, greatest_encoded, minimum_len, maximum_len, look_number, same_look, begins_with_look, ends_with_look}
use Rattle.rc_pattern.specs.LookSets.{all_looks}
use Rattle.rc_pattern.specs.declared.hir.Look.{Look}
use Rattle.rc_pattern.specs.declared.hir.Look.TheVariants.{Start, End, StartLF, EndLF, StartCRLF, EndCRLF, WordAscii, WordAsciiNegate, WordUnicode, WordUnicodeNegate, WordStartAscii, WordEndAscii, WordStartUnicode, WordEndUnicode, WordStartHalfAscii, WordEndHalfAscii, WordStartHalfUnicode, WordEndHalfUnicode}
use Rattle.rc_program.specs.Text.{Text, holds}
use Rattle.rc_program.specs.Program.{in_ranges}
use Rattle.rc_program.specs.Spells.{Turns, Stands, Spells}
use Rattle.rc_program.specs.Laws.{PropertyLaw}

-- ---- numbers that are there

least_left : (o p : Option ℕ) (n : ℕ) → o ≡ Some n → (m : ℕ) × (least o p ≡ Some m) × (m ≤ n)
least_left None p n e = absurd (none-some n e)
least_left (Some k) None n e = let f = same_Some k n e in (k, refl, omega (arith, f))
least_left (Some k) (Some l) n e = let f = same_Some k n e in (min k l, refl, omega (arith, f))

least_right : (o p : Option ℕ) (n : ℕ) → p ≡ Some n → (m : ℕ) × (least o p ≡ Some m) × (m ≤ n)
least_right None p n e = (n, e, omega arith)
least_right (Some k) None n e = absurd (none-some n e)
least_right (Some k) (Some l) n e = let f = same_Some l n e in (min k l, refl, omega (arith, f))

both_some : (f : ℕ → ℕ → Option ℕ) (o p : Option ℕ) (n : ℕ) → both f o p ≡ Some n →
    (x : ℕ) × (y : ℕ) × (o ≡ Some x) × (p ≡ Some y) × (f x y ≡ Some n)
both_some f None p n e = absurd (none-some n e)
both_some f (Some x) None n e = absurd (none-some n e)
both_some f (Some x) (Some y) n e = (x, y, refl, refl, e)

then_some : (f : ℕ → Option ℕ) (o : Option ℕ) (n : ℕ) → option_and_then f o ≡ Some n → (k : ℕ) × (o ≡ Some k) × (f k ≡ Some n)
then_some f None n e = absurd (none-some n e)
then_some f (Some k) n e = (k, refl, e)

capped_is : (x n : ℕ) → capped x ≡ Some n → x ≡ n
capped_is x n e = go (nat_le x greatest_usize) e
  where
    go : (b : Bool) → (if b then Some x else None) ≡ Some n → x ≡ n
    go true f = same_Some x n f
    go false f = absurd (none-some n f)

saturated_le : (n : ℕ) → saturated n ≤ n
saturated_le n = min_le n greatest_usize
  where
    min_le : (a b : ℕ) → min a b ≤ a
    min_le a b = omega arith

zero_is : (o : Option ℕ) → is_zero o ≡ true → o ≡ Some 0
zero_is None e = absurd (true≢false (sym e))
zero_is (Some n) e = ap Some (eqb-true n 0 e)

or_true : (a b : Bool) → (a || b) ≡ true → (a ≡ true) ⊎ (b ≡ true)
or_true true b e = inl refl
or_true false b e = inr e

-- ---- scalars

not_below : (a b k : ℕ) → a ≤ b → nat_lt a k ≡ false → nat_lt b k ≡ false
not_below a b k l e = let g = ltb-false a k e in le-ltb b k (omega (arith, l, g))

two_most : (s t : Bool) → 2 ≤ cond s 2 (cond t 3 4)
two_most true t = omega arith
two_most false true = omega arith
two_most false false = omega arith

three_most : (t : Bool) → 3 ≤ cond t 3 4
three_most true = omega arith
three_most false = omega arith

-- a greater scalar takes no fewer bytes
len_rises : (a b : ℕ) → a ≤ b → len_utf8 a ≤ len_utf8 b
len_rises a b l = one (nat_lt a 0x80) refl
  where
    three : (t : Bool) → nat_lt a 0x1_0000 ≡ t → cond (nat_lt a 0x1_0000) 3 4 ≤ cond (nat_lt b 0x1_0000) 3 4
    three true e = rw e (three_most (nat_lt b 0x1_0000))
    three false e = rw (e, not_below a b 0x1_0000 l e) (omega arith)

    two : (t : Bool) → nat_lt a 0x800 ≡ t →
        cond (nat_lt a 0x800) 2 (cond (nat_lt a 0x1_0000) 3 4) ≤ cond (nat_lt b 0x800) 2 (cond (nat_lt b 0x1_0000) 3 4)
    two true e = rw e (two_most (nat_lt b 0x800) (nat_lt b 0x1_0000))
    two false e = rw (e, not_below a b 0x800 l e) (three (nat_lt a 0x1_0000) refl)

    one : (t : Bool) → nat_lt a 0x80 ≡ t → len_utf8 a ≤ len_utf8 b
    one true e = rw e (len_utf8_bounds b).0
    one false e = rw (e, not_below a b 0x80 l e) (two (nat_lt a 0x800) refl)

within : (r : Range) (c : ℕ) → (nat_le r.0 c && nat_le c r.1) ≡ true → (r.0 ≤ c) × (c ≤ r.1)
within r c e = let p = and_parts (nat_le r.0 c) (nat_le c r.1) e in (leb-true r.0 c p.0, leb-true c r.1 p.1)

least_scalar : (rs : List Range) (c : ℕ) → IsTrue (in_ranges rs c) → (n : ℕ) × (least_encoded rs ≡ Some n) × (n ≤ len_utf8 c)
least_scalar [] c h = absurd (true≢false (sym h))
least_scalar (r ∷ rs) c h =
    ⊎_elim
    (λ e.
    let l = len_rises r.0 c (within r c e).0 in
    let q = least_left (Some (len_utf8 r.0)) (least_encoded rs) (len_utf8 r.0) refl in (q.0, q.1, omega (arith, q.2, l)))
    (λ e.
    let p = least_scalar rs c e in
    let q = least_right (Some (len_utf8 r.0)) (least_encoded rs) p.0 p.1 in (q.0, q.1, omega (arith, q.2, p.2)))
    (or_true (nat_le r.0 c && nat_le c r.1) (in_ranges rs c) h)

first_most : (r : Range) (rs : List Range) → len_utf8 r.1 ≤ greatest_encoded r rs
first_most r [] = omega arith
first_most r (q ∷ rs) = omega arith

rest_most : (r q : Range) (rs : List Range) → greatest_encoded q rs ≤ greatest_encoded r (q ∷ rs)
rest_most r q rs = omega arith

greatest_scalar : (r : Range) (rs : List Range) (c : ℕ) → IsTrue (in_ranges (r ∷ rs) c) → len_utf8 c ≤ greatest_encoded r rs
greatest_scalar r [] c h =
    ⊎_elim (λ e. len_rises c r.1 (within r c e).1) (λ e. absurd (true≢false (sym e))) (or_true (nat_le r.0 c && nat_le c r.1) false h)
greatest_scalar r (q ∷ qs) c h =
    ⊎_elim (λ e. let l = len_rises c r.1 (within r c e).1 in let m = first_most r (q ∷ qs) in omega (arith, l, m))
    (λ e. let l = greatest_scalar q qs c e in let m = rest_most r q qs in omega (arith, l, m))
    (or_true (nat_le r.0 c && nat_le c r.1) (in_ranges (q ∷ qs) c) h)

stands_end : (content bs : List ℕ) (i j : ℕ) → Stands content bs i j → j ≡ i + length bs
stands_end content [] i j h = omega (arith, h)
stands_end content (b ∷ bs) i j h = let k = stands_end content bs (i + 1) j h.1 in omega (arith, k)

-- ---- turns

turns_least : (R : ℕ → ℕ → Type 0) (k : ℕ) → ((x y : ℕ) → R x y → x + k ≤ y) → (m i j : ℕ) → Turns R m i j → i + m * k ≤ j
turns_least R k one zero i j h = let e : 0 * k ≡ 0 = omega arith in omega (arith, h, e)
turns_least R k one (suc m) i j h =
    let first = one i h.0 h.1 in
    let rest = turns_least R k one m h.0 j h.2 in
    let e : suc m * k ≡ k + m * k = omega arith in omega (arith, first, rest, e)

turns_most : (R : ℕ → ℕ → Type 0) (k : ℕ) → ((x y : ℕ) → R x y → y ≤ x + k) → (m i j : ℕ) → Turns R m i j → j ≤ i + m * k
turns_most R k one zero i j h = let e : 0 * k ≡ 0 = omega arith in omega (arith, h, e)
turns_most R k one (suc m) i j h =
    let first = one i h.0 h.1 in
    let rest = turns_most R k one m h.0 j h.2 in
    let e : suc m * k ≡ k + m * k = omega arith in omega (arith, first, rest, e)

first_turn : (R : ℕ → ℕ → Type 0) (m i j : ℕ) → 1 ≤ m → Turns R m i j → (x : ℕ) × R i x
first_turn R zero i j some h = absurd (omega (arith, some))
first_turn R (suc m) i j some h = (h.0, h.1)

last_turn : (R : ℕ → ℕ → Type 0) (m i j : ℕ) → 1 ≤ m → Turns R m i j → (x : ℕ) × R x j
last_turn R zero i j some h = absurd (omega (arith, some))
last_turn R (suc zero) i j some h = (i, subst (λ z. R i z) h.2 h.1)
last_turn R (suc (suc m)) i j some h = last_turn R (suc m) h.0 j (omega arith) h.2

-- ---- assertions

look_is : (k : Look) → get_or all_looks (look_number k) Start ≡ k
look_is Start = refl
look_is End = refl
look_is StartLF = refl
look_is EndLF = refl
look_is StartCRLF = refl
look_is EndCRLF = refl
look_is WordAscii = refl
look_is WordAsciiNegate = refl
look_is WordUnicode = refl
look_is WordUnicodeNegate = refl
look_is WordStartAscii = refl
look_is WordEndAscii = refl
look_is WordStartUnicode = refl
look_is WordEndUnicode = refl
look_is WordStartHalfAscii = refl
look_is WordEndHalfAscii = refl
look_is WordStartHalfUnicode = refl
look_is WordEndHalfUnicode = refl

same_looks : (k l : Look) → same_look k l ≡ true → k ≡ l
same_looks k l e =
    sym (look_is k) ∙ ap (λ n. get_or all_looks n Start) (eqb-true (look_number k) (look_number l) e) ∙ look_is l

-- ---- patterns

module _ (t : Text) where
  least_of : (h : Re) (i j : ℕ) → Spells t h i j → (n : ℕ) × (minimum_len h ≡ Some n) × (i + n ≤ j)
  least_of empty i j s = (0, refl, omega (arith, s))
  least_of (literal bs) i j s =
      let e = stands_end t.content bs i j s in let l = saturated_le (length bs) in (saturated (length bs), refl, omega (arith, e, l))
  least_of (byte_in []) i j s = absurd (true≢false (sym s.2))
  least_of (byte_in (r ∷ rs)) i j s = let e = s.3 in (1, refl, omega (arith, e))
  least_of (char_in rs) i j s =
      let q = least_scalar rs s.0 s.2 in
      let e = stands_end t.content (encode_utf8 s.0) i j s.3 in
      let k = length-encode s.0 in (q.0, q.1, omega (arith, q.2, e, k))
  least_of (look l) i j s = let e = s.1 in (0, refl, omega (arith, e))
  least_of (repeat zero max greedy a) i j s =
      let on = turns_least (Spells t a) 0 (λ x y r. let q = least_of a x y r in let l = q.2 in omega (arith, l)) s.0 i j s.3 in
      (0, refl, omega (arith, on))
  least_of (repeat (suc n) max greedy a) i j s =
      let enough = s.1 in
      let turn = first_turn (Spells t a) s.0 i j (omega (arith, enough)) s.3 in
      let q = least_of a i turn.0 turn.1 in
      let all = turns_least (Spells t a) q.0 (λ x y r.
      let p = least_of a x y r in let same = same_Some p.0 q.0 (sym p.1 ∙ q.1) in let l = p.2 in omega (arith, l, same)) s.0 i j s.3 in
      let more : suc n * q.0 ≤ s.0 * q.0 = mul-le-mul_right q.0 enough in
      let l = saturated_le (suc n * q.0) in
      (saturated (suc n * q.0), ap (option_map (λ k. saturated (suc n * k))) q.1, omega (arith, l, more, all))
  least_of (capture n name a) i j s = least_of a i j s
  least_of (cat a rest) i j s =
      let p = least_of a i s.0 s.1 in
      let q = least_of rest s.0 j s.2 in
      let l = saturated_le (p.0 + q.0) in
      (saturated (p.0 + q.0), ap₂ (both (λ m n. Some (saturated (m + n)))) p.1 q.1, omega (arith, l, p.2, q.2))
  least_of (alt a rest) i j s =
      ⊎_elim
      (λ r. let p = least_of a i j r in let q = least_left (minimum_len a) (minimum_len rest) p.0 p.1 in (q.0, q.1, omega (arith, q.2, p.2)))
      (λ r. let p = least_of rest i j r in let q = least_right (minimum_len a) (minimum_len rest) p.0 p.1 in (q.0, q.1, omega (arith, q.2, p.2))) s
  least_of none i j s = absurd s

  -- what is spelled doesn't go back
  goes_on : (h : Re) (i j : ℕ) → Spells t h i j → i ≤ j
  goes_on h i j s = let q = least_of h i j s in let l = q.2 in omega (arith, l)

  greatest_of : (h : Re) (i j n : ℕ) → Spells t h i j → maximum_len h ≡ Some n → j ≤ i + n
  greatest_of empty i j n s e = let f = same_Some 0 n e in omega (arith, s, f)
  greatest_of (literal bs) i j n s e = let f = capped_is (length bs) n e in let w = stands_end t.content bs i j s in omega (arith, f, w)
  greatest_of (byte_in []) i j n s e = absurd (none-some n e)
  greatest_of (byte_in (r ∷ rs)) i j n s e = let f = same_Some 1 n e in let w = s.3 in omega (arith, f, w)
  greatest_of (char_in []) i j n s e = absurd (none-some n e)
  greatest_of (char_in (r ∷ rs)) i j n s e =
      let f = same_Some (greatest_encoded r rs) n e in
      let l = greatest_scalar r rs s.0 s.2 in
      let w = stands_end t.content (encode_utf8 s.0) i j s.3 in
      let k = length-encode s.0 in omega (arith, f, l, w, k)
  greatest_of (look l) i j n s e = let f = same_Some 0 n e in let w = s.1 in omega (arith, f, w)
  greatest_of (repeat min None greedy a) i j n s e = absurd (none-some n e)
  greatest_of (repeat min (Some most) greedy a) i j n s e =
      let q = then_some (λ k. capped (most * k)) (maximum_len a) n e in
      let f = capped_is (most * q.0) n q.2 in
      let all = turns_most (Spells t a) q.0 (λ x y r. greatest_of a x y q.0 r q.1) s.0 i j s.3 in
      let more : s.0 * q.0 ≤ most * q.0 = mul-le-mul_right q.0 s.2 in omega (arith, f, all, more)
  greatest_of (capture m name a) i j n s e = greatest_of a i j n s e
  greatest_of (cat a rest) i j n s e =
      let q = both_some (λ m n. capped (m + n)) (maximum_len a) (maximum_len rest) n e in
      let f = capped_is (q.0 + q.1) n q.4 in
      let l = greatest_of a i s.0 q.0 s.1 q.2 in
      let m = greatest_of rest s.0 j q.1 s.2 q.3 in omega (arith, f, l, m)
  greatest_of (alt a rest) i j n s e =
      let q = both_some (λ m n. Some (max m n)) (maximum_len a) (maximum_len rest) n e in
      let f = same_Some (max q.0 q.1) n q.4 in
      ⊎_elim (λ r. let l = greatest_of a i j q.0 r q.2 in omega (arith, f, l)) (λ r. let l = greatest_of rest i j q.1 r q.3 in omega (arith, f, l)) s
  greatest_of none i j n s e = absurd s

  -- where nothing but the empty text is spelled
  stays_there : (h : Re) (i j : ℕ) → Spells t h i j → is_zero (maximum_len h) ≡ true → i ≡ j
  stays_there h i j s e =
      let l = goes_on h i j s in let m = greatest_of h i j 0 s (zero_is (maximum_len h) e) in omega (arith, l, m)

  begins_of : (h : Re) (i j : ℕ) (l : Look) → Spells t h i j → begins_with_look h l ≡ true → holds t l i ≡ true
  begins_of empty i j l s e = absurd (true≢false (sym e))
  begins_of (literal bs) i j l s e = absurd (true≢false (sym e))
  begins_of (byte_in rs) i j l s e = absurd (true≢false (sym e))
  begins_of (char_in rs) i j l s e = absurd (true≢false (sym e))
  begins_of (look k) i j l s e = subst (λ z. holds t z i ≡ true) (same_looks k l e) s.0
  begins_of (repeat zero max greedy a) i j l s e = absurd (true≢false (sym e))
  begins_of (repeat (suc n) max greedy a) i j l s e =
      let enough = s.1 in
      let turn = first_turn (Spells t a) s.0 i j (omega (arith, enough)) s.3 in begins_of a i turn.0 l turn.1 e
  begins_of (capture n name a) i j l s e = begins_of a i j l s e
  begins_of (cat a rest) i j l s e =
      ⊎_elim (λ f. begins_of a i s.0 l s.1 f)
      (λ f.
      let p = and_parts (is_zero (maximum_len a)) (begins_with_look rest l) f in
      subst (λ x. holds t l x ≡ true) (sym (stays_there a i s.0 s.1 p.0)) (begins_of rest s.0 j l s.2 p.1))
      (or_true (begins_with_look a l) (is_zero (maximum_len a) && begins_with_look rest l) e)
  begins_of (alt a rest) i j l s e =
      let p = and_parts (begins_with_look a l) (begins_with_look rest l) e in
      ⊎_elim (λ r. begins_of a i j l r p.0) (λ r. begins_of rest i j l r p.1) s
  begins_of none i j l s e = absurd s

  ends_of : (h : Re) (i j : ℕ) (l : Look) → Spells t h i j → ends_with_look h l ≡ true → holds t l j ≡ true
  ends_of empty i j l s e = absurd (true≢false (sym e))
  ends_of (literal bs) i j l s e = absurd (true≢false (sym e))
  ends_of (byte_in rs) i j l s e = absurd (true≢false (sym e))
  ends_of (char_in rs) i j l s e = absurd (true≢false (sym e))
  ends_of (look k) i j l s e = subst (λ x. holds t l x ≡ true) s.1 (subst (λ z. holds t z i ≡ true) (same_looks k l e) s.0)
  ends_of (repeat zero max greedy a) i j l s e = absurd (true≢false (sym e))
  ends_of (repeat (suc n) max greedy a) i j l s e =
      let enough = s.1 in
      let turn = last_turn (Spells t a) s.0 i j (omega (arith, enough)) s.3 in ends_of a turn.0 j l turn.1 e
  ends_of (capture n name a) i j l s e = ends_of a i j l s e
  ends_of (cat a rest) i j l s e =
      ⊎_elim (λ f. ends_of rest s.0 j l s.2 f)
      (λ f.
      let p = and_parts (is_zero (maximum_len rest)) (ends_with_look a l) f in
      subst (λ x. holds t l x ≡ true) (stays_there rest s.0 j s.2 p.0) (ends_of a i s.0 l s.1 p.1))
      (or_true (ends_with_look rest l) (is_zero (maximum_len rest) && ends_with_look a l) e)
  ends_of (alt a rest) i j l s e =
      let p = and_parts (ends_with_look a l) (ends_with_look rest l) e in
      ⊎_elim (λ r. ends_of a i j l r p.0) (λ r. ends_of rest i j l r p.1) s
  ends_of none i j l s e = absurd s

pub property_law : PropertyLaw
property_law = record {
  least = least_of;
  greatest = greatest_of;
  begins = begins_of;
  ends = ends_of;
}
