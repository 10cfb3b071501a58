-- By what is laid out a class of characters weighs no more than by the stated grammar.
use Rattle.std.proofs.Common.{◌≡◌, ℕ, zero, suc, ◌+◌, ◌-◌, ◌*◌, ◌<◌, ◌≤◌, List, [], ◌∷◌, ◌++◌, length, length-append, ⊎_elim, ap, arith, Bool, true, false, ◌&&◌, max, min, nat_le, nat_lt, nat_eq}
use Rattle.std.specs.Char.{encode_utf8}
use Rattle.std.proofs.Math.Nat.{mul-le-mul_left}
use Rattle.std.proofs.lemmas.Bool.{cases_Bool, cases_eq, eq-eqb, ne_eqb}
use Rattle.rc_pattern.specs.Re.{Re, Range, empty, literal, byte_in, char_in, look, repeat, capture, cat, alt, none}
use Rattle.rc_pattern.specs.Weight.{copies_of, weight, sum_of_weights, list_weight}
use Rattle.rc_utf8.specs.Bytes as trees
use Rattle.rc_utf8.specs.Bytes.{Sequence, if_some, behind, all_are, from_bytes, to_bytes, over_one, over_both, within_bytes, piece_sequences, sequences, Tree, ends, goes, put, tree_of, class_tree, depth, between, pieces, all_pieces}
use Rattle.rc_utf8.proofs.ScalarLemmas.{all_pieces_each, encode_one, encode_two, encode_three, encode_four}
use Rattle.rc_utf8.proofs.SizeLemmas.{class_size}
use Rattle.rc_weigh.specs.Weight.{class_weight, laid_weight, sum_of_laid, laid_list_weight}
use Rattle.rc_weigh.proofs.LaidLemmas.{roots, inner, weight_taken}

-- how many places and ways the sequences take where they share none
abbrev alone : List Sequence → ℕ
alone [] = 0
alone (s ∷ ss) = (2 * length s.0 - 1) + alone ss

put_taken : (rs : List Range) (n : ℕ) (tree : Tree) → roots (put rs n tree) + inner (put rs n tree) ≤ (2 * length rs - 1) + (roots tree + inner tree)
put_taken [] n tree = omega arith
put_taken (r ∷ []) n tree = omega arith
put_taken (r ∷ q ∷ qs) n trees.none = let h = put_taken (q ∷ qs) n trees.none in omega (arith, h)
put_taken (r ∷ q ∷ qs) n (ends a b m others) = let h = put_taken (q ∷ qs) n trees.none in omega (arith, h)
put_taken (r ∷ q ∷ qs) n (goes a b below others) =
    let h = put_taken (q ∷ qs) n below in let k = put_taken (q ∷ qs) n trees.none in
    ⊎_elim (λ t. rw t (omega (arith, h))) (λ f. rw f (omega (arith, k))) (cases_Bool (nat_eq r.0 a && nat_eq r.1 b))

tree_taken : (ss : List Sequence) → roots (tree_of ss) + inner (tree_of ss) ≤ alone ss
tree_taken [] = omega arith
tree_taken (s ∷ ss) = let h = put_taken s.0 s.1 (tree_of ss) in let k = tree_taken ss in omega (arith, h, k)

alone_append : (xs ys : List Sequence) → alone (xs ++ ys) ≡ alone xs + alone ys
alone_append [] ys = omega arith
alone_append (s ∷ xs) ys = let h = alone_append xs ys in omega (arith, h)

-- n times n
abbrev square : ℕ → ℕ
square zero = 0
square (suc n) = square n + 2 * n + 1

-- the sequences are so many, and take so much
abbrev AtMost : ℕ → ℕ → List Sequence → Type 0
AtMost count taken ss = (length ss ≤ count) × (alone ss ≤ taken)

both_most : (m n p q : ℕ) (xs ys : List Sequence) → AtMost m p xs → AtMost n q ys → AtMost (m + n) (p + q) (xs ++ ys)
both_most m n p q xs ys a b =
    let l = length-append xs ys in let k = alone_append xs ys in
    (omega (arith, l, a.0, b.0), omega (arith, k, a.1, b.1))

behind_most : (a count taken : ℕ) (ss : List Sequence) → AtMost count taken ss → AtMost count (taken + 2 * count) (behind a ss)
behind_most a count taken ss h = let k = exact a ss in (omega (arith, h.0, k.0), omega (arith, h.0, h.1, k.1))
  where
    exact : (a : ℕ) (ss : List Sequence) → AtMost (length ss) (alone ss + 2 * length ss) (behind a ss)
    exact a [] = (omega arith, omega arith)
    exact a (s ∷ ss) = let h = exact a ss in (omega (arith, h.0), omega (arith, h.1))

if_most : (a b n : ℕ) → AtMost 1 1 (if_some a b n)
if_most a b n = ⊎_elim (λ t. rw t (omega arith, omega arith)) (λ f. rw f (omega arith, omega arith)) (cases_Bool (nat_le a b))

from_most : (xs : List ℕ) (last : ℕ) → AtMost (length xs) (square (length xs)) (from_bytes xs last)
from_most [] last = (omega arith, omega arith)
from_most (a ∷ xs) last =
    ⊎_elim (λ t. rw t (omega arith, omega arith))
    (λ f. let n = length xs in let k = behind_most a n (square n) (from_bytes xs 191) (from_most xs 191) in
    let m = both_most n 1 (square n + 2 * n) 1 (behind a (from_bytes xs 191)) (if_some (a + 1) last n) k (if_most (a + 1) last n) in
    rw f (omega (arith, m.0), omega (arith, m.1)))
    (cases_Bool (all_are 128 xs && nat_le a last))

to_most : (bs : List ℕ) → AtMost (length bs) (square (length bs)) (to_bytes bs)
to_most [] = (omega arith, omega arith)
to_most (b ∷ bs) =
    ⊎_elim (λ t. rw t (omega arith, omega arith))
    (λ f. let n = length bs in let k = behind_most b n (square n) (to_bytes bs) (to_most bs) in
    let m = both_most 1 n 1 (square n + 2 * n) (if_some 128 (b - 1) n) (behind b (to_bytes bs)) (if_most 128 (b - 1) n) k in
    rw f (omega (arith, m.0), omega (arith, m.1)))
    (cases_Bool (all_are 191 bs))

over_one_most : (v : Bool) (a n m p : ℕ) (below : List Sequence) → AtMost m p below → AtMost (m + 1) (p + 2 * m + 1) (over_one v a n below)
over_one_most true a n m p below h = (omega arith, omega arith)
over_one_most false a n m p below h = let k = behind_most a m p below h in (omega (arith, k.0), omega (arith, k.1))

over_both_most : (v : Bool) (xs : List ℕ) (b : ℕ) (bs : List ℕ) →
    AtMost (length xs + length bs) (square (length xs) + (square (length bs) + 2 * length bs)) (over_both v xs b bs)
over_both_most true xs b bs = let h = from_most xs b in (omega (arith, h.0), omega (arith, h.1))
over_both_most false xs b bs =
    let n = length bs in
    let m = both_most (length xs) n (square (length xs)) (square n + 2 * n) (from_bytes xs (b - 1)) (behind b (to_bytes bs))
    (from_most xs (b - 1)) (behind_most b n (square n) (to_bytes bs) (to_most bs)) in
    (omega (arith, m.0), omega (arith, m.1))

-- the sequences from as many bytes to as many others
within_most : (xs ys : List ℕ) → AtMost (length xs + length ys - 1) (square (length xs) + square (length ys) - 1) (within_bytes xs ys)
within_most [] ys = (omega arith, omega arith)
within_most (a ∷ []) [] = (omega arith, omega arith)
within_most (a ∷ []) (b ∷ ys) = (omega arith, omega arith)
within_most (a ∷ c ∷ xs) [] = (omega arith, omega arith)
within_most (a ∷ c ∷ xs) (b ∷ ys) =
    ⊎_elim
    (λ e. let m = length (c ∷ xs) + length ys - 1 in let p = square (length (c ∷ xs)) + square (length ys) - 1 in
    let k = over_one_most (all_are 128 (c ∷ xs) && all_are 191 ys) a (length (c ∷ xs)) m p (within_bytes (c ∷ xs) ys) (within_most (c ∷ xs) ys) in
    rw (eq-eqb a b e) (omega (arith, k.0), omega (arith, k.1)))
    (λ e. let k = over_both_most (all_are 191 ys && nat_lt a b) (a ∷ c ∷ xs) b ys in rw (ne_eqb a b e) (omega (arith, k.0), omega (arith, k.1)))
    (cases_eq a b)

-- the scalars of a range that take one byte, two, three and four
piece_alone : (p : Range) (n : ℕ) → length (encode_utf8 p.0) ≡ n → length (encode_utf8 p.1) ≡ n → alone (piece_sequences p) ≤ square n + square n - 1
piece_alone p n first last =
    let h = within_most (encode_utf8 p.0) (encode_utf8 p.1) in
    let a = ap square first in let b = ap square last in omega (arith, h.1, a, b)

one_long : (c : ℕ) → c < 128 → length (encode_utf8 c) ≡ 1
one_long c l = ap length (encode_one c l)

two_long : (c : ℕ) → 128 ≤ c → c < 2048 → length (encode_utf8 c) ≡ 2
two_long c g l = ap length (encode_two c g l)

three_long : (c : ℕ) → 2048 ≤ c → c < 65536 → length (encode_utf8 c) ≡ 3
three_long c g l = ap length (encode_three c g l)

four_long : (c : ℕ) → 65536 ≤ c → length (encode_utf8 c) ≡ 4
four_long c g = ap length (encode_four c g)

-- those between two bounds, if all between them take as many bytes
between_alone : (a b : ℕ) (r : Range) (n : ℕ) → ((c : ℕ) → a ≤ c → c ≤ b → length (encode_utf8 c) ≡ n) →
    alone (sequences (between a b r)) ≤ square n + square n - 1
between_alone a b r n long =
    ⊎_elim
    (λ t. let lo = max r.0 a in let hi = min r.1 b in
    let le : lo ≤ hi = nat_le_true lo hi t in
    let h = piece_alone (lo, hi) n (long lo (omega arith) (omega (arith, le))) (long hi (omega (arith, le)) (omega arith)) in
    let e = alone_append (piece_sequences (lo, hi)) [] in
    rw t (omega (arith, h, e)))
    (λ f. rw f (omega arith))
    (cases_Bool (nat_le (max r.0 a) (min r.1 b)))
  where
    nat_le_true : (x y : ℕ) → nat_le x y ≡ true → x ≤ y
    nat_le_true x y e = grind (arith, e)

sequences_append : (xs ys : List Range) → alone (sequences (xs ++ ys)) ≡ alone (sequences xs) + alone (sequences ys)
sequences_append [] ys = omega arith
sequences_append (p ∷ xs) ys =
    let h = sequences_append xs ys in
    let a = alone_append (piece_sequences p) (sequences (xs ++ ys)) in
    let b = alone_append (piece_sequences p) (sequences xs) in omega (arith, h, a, b)

range_alone : (r : Range) → alone (sequences (pieces r)) ≤ 73
range_alone r =
    let b1 = between 0 0x7F r in
    let b2 = between 0x80 0x7FF r in
    let b3 = between 0x800 0xD7FF r in
    let b4 = between 0xE000 0xFFFF r in
    let b5 = between 0x1_0000 0x10_FFFF r in
    let l1 = sequences_append b1 (b2 ++ (b3 ++ (b4 ++ b5))) in
    let l2 = sequences_append b2 (b3 ++ (b4 ++ b5)) in
    let l3 = sequences_append b3 (b4 ++ b5) in
    let l4 = sequences_append b4 b5 in
    let s1 = between_alone 0 0x7F r 1 (λ c g l. one_long c (omega (arith, l))) in
    let s2 = between_alone 0x80 0x7FF r 2 (λ c g l. two_long c g (omega (arith, l))) in
    let s3 = between_alone 0x800 0xD7FF r 3 (λ c g l. three_long c g (omega (arith, l))) in
    let s4 = between_alone 0xE000 0xFFFF r 3 (λ c g l. three_long c (omega (arith, g)) (omega (arith, l))) in
    let s5 = between_alone 0x1_0000 0x10_FFFF r 4 (λ c g l. four_long c g) in
    total _ _ _ _ _ _ _ _ _ l1 l2 l3 l4 s1 s2 s3 s4 s5
  where
    total : (a b c d e f g h i : ℕ) → a ≡ b + c → c ≡ d + e → e ≡ f + g → g ≡ h + i → b ≤ 1 → d ≤ 7 → f ≤ 17 → h ≤ 17 → i ≤ 31 → a ≤ 73
    total a b c d e f g h i l1 l2 l3 l4 s1 s2 s3 s4 s5 = omega (arith, l1, l2, l3, l4)

ranges_alone : (rs : List Range) → alone (sequences (all_pieces rs)) ≤ 73 * length rs
ranges_alone [] = omega arith
ranges_alone (r ∷ rs) =
    let e = sequences_append (pieces r) (all_pieces rs) in
    let h = range_alone r in let k = ranges_alone rs in omega (arith, e, h, k)

class_lighter : (rs : List Range) → class_weight rs ≤ 1 + 84 * length rs
class_lighter [] = omega arith
class_lighter (r ∷ rs) =
    let e = weight_taken (r ∷ rs) in
    let t = tree_taken (sequences (all_pieces (r ∷ rs))) in
    let a = ranges_alone (r ∷ rs) in
    let d = class_size (all_pieces (r ∷ rs)) (all_pieces_each (r ∷ rs)) in
    omega (arith, e, t, a, d.1)

pattern_lighter : (h : Re) → laid_weight h ≤ weight h
pattern_lighter empty = omega arith
pattern_lighter (literal bs) = omega arith
pattern_lighter (byte_in rs) = omega arith
pattern_lighter (char_in rs) = class_lighter rs
pattern_lighter (look l) = omega arith
pattern_lighter (repeat min max greedy a) =
    let h = pattern_lighter a in
    let k : copies_of min max * (laid_weight a + 2) ≤ copies_of min max * (weight a + 2) = mul-le-mul_left (copies_of min max) (omega (arith, h)) in
    omega (arith, k)
pattern_lighter (capture n name a) = let h = pattern_lighter a in omega (arith, h)
pattern_lighter (cat a rest) = let h = pattern_lighter a in let k = pattern_lighter rest in omega (arith, h, k)
pattern_lighter (alt a rest) = let h = pattern_lighter a in let k = pattern_lighter rest in omega (arith, h, k)
pattern_lighter none = omega arith

sum_lighter : (hs : List Re) → sum_of_laid hs ≤ sum_of_weights hs
sum_lighter [] = omega arith
sum_lighter (h ∷ hs) = let a = pattern_lighter h in let b = sum_lighter hs in omega (arith, a, b)

pub list_lighter : (hs : List Re) → laid_list_weight hs ≤ list_weight hs
list_lighter hs = let a = sum_lighter hs in omega (arith, a)
