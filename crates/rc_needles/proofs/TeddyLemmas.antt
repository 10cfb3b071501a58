-- Places that Teddy passes over.
use Rattle.std.proofs.Common.{◌≡◌, ℕ, ◌+◌, ◌*◌, ◌/◌, ◌%◌, ◌^◌, ◌<◌, ◌≤◌, ◌-◌, ◌++◌, List, map, take, drop, length, eqb, not, true, false, get_or, replicate, cond, slice_index, bit_and, bit_or, subst, inl, inr, ap, sym, refl, ◌∙◌, arith, w8}
use Rattle.std.specs.Int.{bit_at, trailing_zeros}
use Rattle.std.specs.Int.Bits.{or_add_and}
use Rattle.std.specs.List.{range_with_len}
use Rattle.std.specs.Simd.Lanes.{chunk, mask_l, pick_l, top, zip2}
use Rattle.std.proofs.lemmas.Bool.{cases_lt}
use Rattle.std.proofs.lemmas.Bool.Decides.{nat_tests}
use Rattle.std.proofs.lemmas.List.{get_or-append_right, get_or-map, get_or-take, get_or-drop, get_or_append_left, length-map}
use Rattle.std.proofs.lemmas.List.FromFn.{get_or-range_with_len, length-range_with_len}
use Rattle.std.proofs.lemmas.Nat.{and_mask, le_or_l, le_or_r}
use Rattle.std.proofs.lemmas.Nat.Bits.{bit_at_and, bit_at_or, bit_at-zero, bit_at-trailing_zeros, bit_at_cat_high}
use Rattle.std.proofs.lemmas.Simd.{bitmask_splat, bit_mask_l, mask_l-lt, length-chunk, get_or-chunk, length-zip2, get_or-zip2, get_or-replicate, length-swz_l, get_or-swz_l_below, swz_l, SwzOk, SwzOk-from_below, Each1-from_get_or}
use Rattle.rc_needles.specs.declared.teddy.Sift.{Sift}
use Rattle.rc_needles.specs.declared.teddy.Teddy.{Teddy}
use Rattle.rc_needles.specs.Teddies.{AreLanes, AreMarked, AreTaken, IsSifted, MayStand, buckets, sifted}
use Rattle.rc_needles.specs.Tables.{Agrees, IsRuledOut, numbered}
use Rattle.rc_needles.proofs.PairLemmas.{zero_bits}
use Rattle.rc_needles.proofs.ScanLemmas.{agrees_behind}

-- two vectors, place by place
pub lanes_and : (u v : List ℕ) (f g : ℕ → ℕ) → AreLanes u f → AreLanes v g → AreLanes (zip2 bit_and u v) (λ k. bit_and (f k) (g k))
lanes_and u v f g p q = record {
  long = length-zip2 bit_and u v (p.long ∙ sym q.long) ∙ p.long;
  each = λ k l. get_or-zip2 bit_and u v k 0 0 0 (omega (arith, l, p.long)) (omega (arith, l, q.long)) ∙ ap (λ x. bit_and x (get_or v k 0)) (p.each k l)
      ∙ ap (bit_and (f k)) (q.each k l);
}

-- a vector and one number
lanes_with : (op : ℕ → ℕ → ℕ) (u : List ℕ) (f : ℕ → ℕ) (x : ℕ) → AreLanes u f → AreLanes (zip2 op u (replicate 16 x)) (λ k. op (f k) x)
lanes_with op u f x p = record {
  long = length-zip2 op u (replicate 16 x) p.long ∙ p.long;
  each = λ k l. get_or-zip2 op u (replicate 16 x) k 0 0 0 (omega (arith, l, p.long)) l ∙ ap (λ y. op y (get_or (replicate 16 x) k 0)) (p.each k l)
      ∙ ap (op (f k)) (get_or-replicate 16 k x 0 l);
}

loaded : (piece : List ℕ) (at : ℕ) → at + 16 ≤ length piece → AreLanes (chunk at 16 piece) (λ k. slice_index piece (at + k))
loaded piece at fits = record { long = length-chunk at 16 piece fits; each = λ k l. get_or-chunk at 16 piece k 0 l }

-- the low four bits of each of 16 bytes
pub low_halves : (piece : List ℕ) (at : ℕ) → at + 16 ≤ length piece →
    AreLanes (zip2 bit_and (chunk at 16 piece) (replicate 16 15)) (λ k. slice_index piece (at + k) % 16)
low_halves piece at fits =
    let h = lanes_with bit_and (chunk at 16 piece) (λ k. slice_index piece (at + k)) 15 (loaded piece at fits) in
    record { long = h.long; each = λ k l. h.each k l ∙ and_mask (slice_index piece (at + k)) 4 }

-- and the high four
pub high_halves : (piece : List ℕ) (at : ℕ) → at + 16 ≤ length piece →
    AreLanes (zip2 (λ a b. a / 2 ^ b) (chunk at 16 piece) (replicate 16 4)) (λ k. slice_index piece (at + k) / 16)
high_halves piece at fits = lanes_with (λ a b. a / 2 ^ b) (chunk at 16 piece) (λ k. slice_index piece (at + k)) 4 (loaded piece at fits)

pub halves_in : (js : List ℕ) (f : ℕ → ℕ) → AreLanes js f → ((k : ℕ) → k < 16 → f k < 16) → SwzOk w8 16 16 0 js
halves_in js f p small =
    let long = p.long in
    SwzOk-from_below w8 16 1 16 0 js refl (omega (arith, long))
    (Each1-from_get_or (λ j. j < 16) js 0 (λ i l. let e = p.each i (omega (arith, l, long)) in let s = small i (omega (arith, l, long)) in omega (arith, e, s)))

-- what a table has for them
pub halves_looked_up : (table js : List ℕ) (f : ℕ → ℕ) → AreLanes js f → ((k : ℕ) → k < 16 → f k < 16) →
    AreLanes (swz_l w8 16 (take 16 table) 0 js) (λ k. slice_index table (f k))
halves_looked_up table js f p small =
    let long = p.long in
    record {
      long = length-swz_l w8 16 (take 16 table) 0 js ∙ long;
      each = λ k l.
          let e = p.each k l in
          let s = small k l in
          let here : 16 * ((0 + k) / 16) + get_or js k 0 ≡ f k = omega (arith, e, l) in
          get_or-swz_l_below w8 16 (take 16 table) 0 js k (omega (arith, l, long)) (omega (arith, e, s)) ∙ ap (λ j. get_or (take 16 table) j 0) here
          ∙ get_or-take 16 table (f k) 0 (omega (arith, s));
    }

pub small_halves : (piece : List ℕ) (at k : ℕ) → slice_index piece (at + k) < 256 → slice_index piece (at + k) / 16 < 16
small_halves piece at k small = omega (arith, small)

-- the bits of the places that aren't 0 fit
pub nonzero_fit : (v : List ℕ) → length v ≡ 16 →
    mask_l (map (top 7) (zip2 (λ a b. cond (not (eqb a b)) 255 0) v (replicate 16 0))) % 2 ^ 64 < 2 ^ 16
nonzero_fit v long =
    let all : length (map (λ x. not (eqb x 0)) v) ≡ 16 = length-map v (λ x. not (eqb x 0)) ∙ long in
    let lt = mask_l-lt (map (λ x. not (eqb x 0)) v) in
    rw (bitmask_splat w8 (λ a b. not (eqb a b)) v 16 0 long (omega arith)) (rw all at lt)

-- and each of them is set
pub nonzero_set : (v : List ℕ) (k : ℕ) → length v ≡ 16 → k < 16 → 0 < slice_index v k →
    bit_at (mask_l (map (top 7) (zip2 (λ a b. cond (not (eqb a b)) 255 0) v (replicate 16 0))) % 2 ^ 64) k ≡ 1
nonzero_set v k long small some =
    let passes : not (eqb (get_or v k 0) 0) ≡ true = grind (arith, nat_tests) in
    ap (λ m. bit_at m k) (bitmask_splat w8 (λ a b. not (eqb a b)) v 16 0 long (omega arith))
    ∙ bit_mask_l (map (λ x. not (eqb x 0)) v) k
    ∙ ap (λ b. cond b 1 0) (get_or-map (λ x. not (eqb x 0)) v k 0 false (omega (arith, small, long)) ∙ passes)

bit_at_below : (a k : ℕ) → bit_at a k < 2
bit_at_below a k = omega arith

-- a bit of two numbers
pub both_bits : (a b k : ℕ) → bit_at (bit_and a b) k ≡ 1 → (bit_at a k ≡ 1) × (bit_at b k ≡ 1)
both_bits a b k e =
    let both = bit_at_and a b k in
    let x = bit_at_below a k in
    let y = bit_at_below b k in
    (omega (arith, e, both, x, y), omega (arith, e, both, x, y))

pub bit_of_both : (a b k : ℕ) → bit_at a k ≡ 1 → bit_at b k ≡ 1 → bit_at (bit_and a b) k ≡ 1
bit_of_both a b k x y = let both = bit_at_and a b k in omega (arith, both, x, y)

pub some_bit : (a k : ℕ) → bit_at a k ≡ 1 → 0 < a
some_bit a k e =
    elim (cases_lt 0 a) [
      | inl l ↦ l
      | inr g ↦ let zero : a ≡ 0 = omega (arith, g) in let no = ap (λ n. bit_at n k) zero ∙ bit_at-zero k in omega (arith, e, no)
    ]

-- each bit of the number stands for a bucket that takes what may stand at the place
abbrev pub TakenAt : Sift → List ℕ → ℕ → ℕ → Type 0
TakenAt t needle at bits = (k : ℕ) → bit_at bits k ≡ 1 → (byte : ℕ) → byte < 256 → MayStand needle at byte → bit_at (buckets t byte) k ≡ 1

pub sifted_by_bit : (s : Teddy) (needle : List ℕ) (x y z k : ℕ) → TakenAt s.first needle 0 x → TakenAt s.second needle 1 y → TakenAt s.third needle 2 z →
    bit_at (bit_and x (bit_and y z)) k ≡ 1 → IsSifted s needle
sifted_by_bit s needle x y z k one two three e a b c la lb lc ma mb mc =
    let p = both_bits x (bit_and y z) k e in
    let q = both_bits y z k p.1 in
    some_bit (sifted s a b c) k
    (bit_of_both (buckets s.first a) (bit_and (buckets s.second b) (buckets s.third c)) k (one k p.0 a la ma)
    (bit_of_both (buckets s.second b) (buckets s.third c) k (two k q.0 b lb mb) (three k q.1 c lc mc)))

-- the bits of two halves, side by side
pub halves_fit : (low high : ℕ) → low < 2 ^ 16 → high < 2 ^ 16 → bit_or low (high * 2 ^ 16 % 2 ^ 64) < 2 ^ 32
halves_fit low high a b =
    let both = or_add_and low (high * 2 ^ 16 % 2 ^ 64) in
    omega (arith, both, a, b)

pub low_set : (low high k : ℕ) → 0 < bit_at low k → 0 < bit_at (bit_or low (high * 2 ^ 16 % 2 ^ 64)) k
low_set low high k some = let either = bit_at_or low (high * 2 ^ 16 % 2 ^ 64) k in omega (arith, either, some)

pub high_set : (low high k : ℕ) → high < 2 ^ 16 → 0 < bit_at high k → 0 < bit_at (bit_or low (high * 2 ^ 16 % 2 ^ 64)) (16 + k)
high_set low high k small some =
    let above : ℕ = high * 2 ^ 16 % 2 ^ 64 in
    let either = bit_at_or low above (16 + k) in
    let same : above ≡ high * 2 ^ 16 + 0 = omega (arith, small) in
    let inside : 16 + k - 16 ≡ k = omega arith in
    let bit : bit_at above (16 + k) ≡ bit_at high k =
    ap (λ n. bit_at n (16 + k)) same ∙ bit_at_cat_high high 16 0 (16 + k) (omega arith) (omega arith) ∙ ap (bit_at high) inside in
    omega (arith, either, bit, some)

-- a number that isn't 0 in one of two vectors
pub some_low : (u v : List ℕ) (k : ℕ) → length u ≡ 16 → length v ≡ 16 → k < 16 → 0 < slice_index u k → 0 < slice_index (zip2 bit_or u v) k
some_low u v k p q l some =
    let e = get_or-zip2 bit_or u v k 0 0 0 (omega (arith, l, p)) (omega (arith, l, q)) in
    let le = le_or_l (slice_index u k) (slice_index v k) in
    omega (arith, e, le, some)

pub some_high : (u v : List ℕ) (k : ℕ) → length u ≡ 16 → length v ≡ 16 → k < 16 → 0 < slice_index v k → 0 < slice_index (zip2 bit_or u v) k
some_high u v k p q l some =
    let e = get_or-zip2 bit_or u v k 0 0 0 (omega (arith, l, p)) (omega (arith, l, q)) in
    let le = le_or_r (slice_index u k) (slice_index v k) in
    omega (arith, e, le, some)

-- what two vectors mark side by side
pub both_marked : (s : Teddy) (piece u v : List ℕ) (back at bits : ℕ) → ((k : ℕ) → k < 16 → 0 < slice_index u k → 0 < bit_at bits k) →
    ((k : ℕ) → k < 16 → 0 < slice_index v k → 0 < bit_at bits (16 + k)) → AreMarked s piece back 16 at (slice_index u) →
    AreMarked s piece back 16 (at + 16) (slice_index v) → AreMarked s piece back 32 at (bit_at bits)
both_marked s piece u v back at bits low high ones twos k place l there some =
    elim (cases_lt k 16) [
      | inl h ↦ low k h (ones k place h there some)
      | inr g ↦
          let same : 16 + (k - 16) ≡ k = omega (arith, g) in
          subst (λ i. 0 < bit_at bits i) same
          (high (k - 16) (omega (arith, l, g)) (twos (k - 16) place (omega (arith, l, g)) (omega (arith, g, there)) some))
    ]

-- what a vector marks from a place on
pub lanes_marked : (s : Teddy) (piece v : List ℕ) (f : ℕ → ℕ) (at : ℕ) → AreLanes v f →
    ((k : ℕ) → 0 < sifted s (slice_index piece (at + k)) (slice_index piece (at + 1 + k)) (slice_index piece (at + 2 + k)) → 0 < f k) →
    AreMarked s piece 0 16 at (slice_index v)
lanes_marked s piece v f at lanes some k place l there taken =
    let first : place ≡ at + k = omega (arith, there) in
    let second : place + 1 ≡ at + 1 + k = omega (arith, there) in
    let third : place + 2 ≡ at + 2 + k = omega (arith, there) in
    let more = some k (rw (← first, ← second, ← third) taken) in
    let e = lanes.each k l in
    omega (arith, e, more)

-- 16 of the numbers in a list, one after another
pub picked : (xs : List ℕ) (n : ℕ) → AreLanes (pick_l 0 xs (range_with_len n 16)) (λ k. slice_index xs (n + k))
picked xs n = record {
  long = length-map (range_with_len n 16) (λ k. get_or xs k 0) ∙ length-range_with_len n 16;
  each = λ k l. get_or-map (λ i. get_or xs i 0) (range_with_len n 16) k 0 0 (omega (arith, l, length-range_with_len n 16))
      ∙ ap (λ i. get_or xs i 0) (get_or-range_with_len n 16 k 0 l);
}

-- two vectors of what bytes are taken as, side by side, from some places before the second
pub taken_back : (t : Sift) (piece u v : List ℕ) (at n k place : ℕ) → n ≤ 16 → AreTaken t piece at u → AreTaken t piece (at + 16) v → k < 16 → place + n ≡ at + k →
    slice_index (u ++ v) (16 - n + k) ≡ buckets t (slice_index piece place)
taken_back t piece u v at n k place some before now l there =
    elim (cases_lt k n) [
      | inl h ↦
          get_or_append_left u v 0 (16 - n + k) (omega (arith, h, some, before.long))
          ∙ before.each (16 - n + k) place (omega (arith, h, some)) (omega (arith, some, there))
      | inr g ↦
          get_or-append_right u v 16 (16 - n + k) 0 before.long (omega (arith, g, some))
          ∙ now.each (16 - n + k - 16) place (omega (arith, g, some, l)) (omega (arith, g, some, there))
    ]

-- no needle that is sifted agrees where no bit is set
pub no_sifted_from : (s : Teddy) (piece needle : List ℕ) (back n at bits to place : ℕ) → ((i : ℕ) → slice_index piece i < 256) → IsSifted s needle →
    AreMarked s piece back n at (bit_at bits) → ((i : ℕ) → i < to → bit_at bits i ≡ 0) → to ≤ n → at + n + 2 ≤ length piece + back → at ≤ place + back →
    place + back < at + to → ¬ Agrees piece needle place
no_sifted_from s piece needle back n at bits to place small is set zeros fits room low high agrees =
    let i : ℕ = place + back - at in
    let z : place + 0 ≡ place = omega arith in
    let here : 0 < sifted s (slice_index piece place) (slice_index piece (place + 1)) (slice_index piece (place + 2)) =
    is (slice_index piece place) (slice_index piece (place + 1)) (slice_index piece (place + 2)) (small place) (small (place + 1)) (small (place + 2))
    (λ l. ap (slice_index piece) (sym z) ∙ agrees 0 l (omega (arith, fits, high, room)))
    (λ l. agrees 1 l (omega (arith, fits, high, room)))
    (λ l. agrees 2 l (omega (arith, fits, high, room))) in
    let one = set i place (omega (arith, low, high, fits)) (omega (arith, low)) here in
    let zero = zeros i (omega (arith, low, high)) in
    omega (arith, one, zero)

-- nor below, where none agrees before
abbrev pub NoneSifted : Teddy → List ℕ → ℕ → ℕ → Type 0
NoneSifted s piece from to = (needle : List ℕ) → IsSifted s needle → (k : ℕ) → from ≤ k → k < to → ¬ Agrees piece needle k

pub no_sifted_there : (s : Teddy) (piece : List ℕ) (from seen end back n at bits to : ℕ) → ((i : ℕ) → slice_index piece i < 256) → NoneSifted s piece from seen →
    at ≤ seen + back → AreMarked s piece back n at (bit_at bits) → ((i : ℕ) → i < to → bit_at bits i ≡ 0) → to ≤ n → at + n + 2 ≤ length piece + back →
    end + back ≤ at + to → NoneSifted s piece from end
no_sifted_there s piece from seen end back n at bits to small before near set zeros fits room last needle is k low high =
    elim (cases_lt k seen) [
      | inl l ↦ before needle is k low l
      | inr g ↦ no_sifted_from s piece needle back n at bits to k small is set zeros fits room (omega (arith, near, g)) (omega (arith, high, last))
    ]

-- where no bit of a half is set
pub half_marked : (s : Teddy) (piece v : List ℕ) (at bits : ℕ) → ((k : ℕ) → k < 16 → 0 < slice_index v k → 0 < bit_at bits k) →
    AreMarked s piece 0 16 at (slice_index v) → AreMarked s piece 0 16 at (bit_at bits)
half_marked s piece v at bits set marked k place l there some = set k l (marked k place l there some)

pub none_in_half : (s : Teddy) (piece : List ℕ) (from to bits : ℕ) → ((i : ℕ) → slice_index piece i < 256) → AreMarked s piece 0 16 from (bit_at bits) → bits ≡ 0 →
    from + 18 ≤ length piece → to ≤ from + 16 → NoneSifted s piece from to
none_in_half s piece from to bits small set zero room near needle is k low high =
    no_sifted_from s piece needle 0 16 from bits 16 k small is set (λ i _. zero_bits bits i zero) (omega arith) (omega (arith, room)) (omega (arith, low))
    (omega (arith, high, near))

-- a bit that is set, where some is
pub set_bit : (bits : ℕ) → 0 < bits → bits < 256 → (k : ℕ) × (bit_at bits k ≡ 1)
set_bit bits some small =
    let t = bit_at-trailing_zeros w8 bits some small in
    (trailing_zeros w8 bits, t.1)

-- a place behind one in a piece's rest is the place in the rest
pub ruled_out_in_tail : (needles : List (List ℕ)) (piece : List ℕ) (from k : ℕ) → from ≤ k →
    IsRuledOut needles 0 (take (length piece - from) (drop from piece)) (k - from) → IsRuledOut needles 0 piece k
ruled_out_in_tail needles piece from k low out n l agrees =
    out n l (agrees_behind piece (numbered needles n) from k low agrees)

pub tail_small : (piece : List ℕ) (from k : ℕ) → ((i : ℕ) → slice_index piece i < 256) → k < length piece - from →
    slice_index (take (length piece - from) (drop from piece)) k < 256
tail_small piece from k small within =
    let e : slice_index (take (length piece - from) (drop from piece)) k ≡ slice_index piece (from + k) =
    get_or-take (length piece - from) (drop from piece) k 0 within ∙ get_or-drop from piece k 0 in
    rw e (small (from + k))
