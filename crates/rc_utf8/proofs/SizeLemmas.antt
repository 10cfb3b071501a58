-- How many places a byte program has, and that each edge of it reads one byte.
use Rattle.std.proofs.Common.{◌≡◌, ℕ, zero, suc, ◌+◌, ◌-◌, ◌*◌, ◌<◌, ◌≤◌, List, [], ◌∷◌, ◌++◌, length, map, ⊎_elim, sym, subst, ap, ◌∙◌, refl, arith, Bool, true, false, ◌&&◌, length-append, max, min, nat_le, nat_lt, nat_eq, if◌then◌else◌}
use Rattle.std.specs.Prelude.{All}
use Rattle.std.specs.List.{AllByRecursion}
use Rattle.std.specs.Char.{encode_utf8}
use Rattle.std.proofs.lemmas.Bool.{cases_Bool, cases_lt, cases_eq, eq-eqb, ne_eqb}
use Rattle.std.proofs.lemmas.List.Elements.{All-from_recursion, recursion_from_All}
use Rattle.rc_pattern.specs.Re.{Range}
use Rattle.rc_pattern.specs.declared.hir.Look.{Look}
use Rattle.rc_program.specs.Program.{Place, choice, byte, branch, scalar, guard, slot, accept, Way, stays, reads, in_ranges, branch_ways, ways_out, place_at}
use Rattle.rc_program.specs.Laws.{targets, IsClosed, place_weight, heaviness}
use Rattle.rc_program.specs.Sought.{IsRunnable}
use Rattle.rc_program.proofs.PlaceLemmas.{each_append, each_weaker}
use Rattle.rc_utf8.specs.Bytes.{Sequence, if_some, behind, all_are, from_bytes, to_bytes, over_one, over_both, within_bytes, piece_sequences, sequences, Tree, none, ends, goes, put, tree_of, class_tree, depth, size, Ways, between, pieces, all_pieces, rest_of, tails, tree_ways, tree_block, class_ways, byte_place, block, byte_places, blocks, bytes_of}
use Rattle.rc_utf8.specs.Places.{longest}
use Rattle.rc_utf8.specs.Laws.{IsOfOneByte, IsBytePlace}
use Rattle.rc_utf8.proofs.ScalarLemmas.{EachPiece, all_pieces_each, encode_one, encode_two, encode_three, encode_four}
use Rattle.rc_utf8.proofs.TreeLemmas.{IsLed, IsLong}
use Rattle.rc_utf8.proofs.BlockLemmas.{length-tails, length-tree_block, piece_long, class_led}
use Rattle.rc_utf8.proofs.LayoutLemmas.{length-byte_places, stands_at}

-- The sizes.

encode_short : (c : ℕ) → length (encode_utf8 c) ≤ 4
encode_short c =
    ⊎_elim (λ l. rw (encode_one c l) (omega arith))
    (λ g1. ⊎_elim (λ l. rw (encode_two c g1 l) (omega arith))
    (λ g2. ⊎_elim (λ l. rw (encode_three c g2 l) (omega arith)) (λ g3. rw (encode_four c g3) (omega arith)) (cases_lt c 65536))
    (cases_lt c 2048)) (cases_lt c 128)

-- how many places the sequences take where they share none
abbrev pub nodes : List Sequence → ℕ
nodes [] = 0
nodes (s ∷ ss) = (length s.0 - 1) + nodes ss

-- 0 + 1 + .. + (n - 1)
abbrev pub below_sum : ℕ → ℕ
below_sum zero = 0
below_sum (suc n) = below_sum n + n

nodes_append : (xs ys : List Sequence) → nodes (xs ++ ys) ≡ nodes xs + nodes ys
nodes_append [] ys = omega arith
nodes_append (s ∷ xs) ys = let h = nodes_append xs ys in omega (arith, h)

-- the sequences are so many, and take so many places
abbrev AtMost : ℕ → ℕ → List Sequence → Type 0
AtMost count places ss = (length ss ≤ count) × (nodes ss ≤ places)

both_most : (m n p q : ℕ) (xs ys : List Sequence) → AtMost m p xs → AtMost n q ys → AtMost (m + n) (p + q) (xs ++ ys)
both_most m n p q xs ys a b =
    let l = length-append xs ys in let k = nodes_append xs ys in
    (omega (arith, l, a.0, b.0), omega (arith, k, a.1, b.1))

behind_most : (a : ℕ) (ss : List Sequence) → AtMost (length ss) (nodes ss + length ss) (behind a ss)
behind_most a [] = (omega arith, omega arith)
behind_most a (s ∷ ss) = let h = behind_most a ss in (omega (arith, h.0), omega (arith, h.1))

if_most : (a b n : ℕ) → AtMost 1 0 (if_some a b n)
if_most a b n = ⊎_elim (λ t. rw t (omega arith, omega arith)) (λ f. rw f (omega arith, omega arith)) (cases_Bool (nat_le a b))

from_most : (xs : List ℕ) (last : ℕ) → AtMost (length xs) (below_sum (length xs)) (from_bytes xs last)
from_most [] last = (omega arith, omega arith)
from_most (a ∷ xs) last =
    ⊎_elim (λ t. rw t (omega arith, omega arith))
    (λ f. let h = from_most xs 191 in let k = behind_most a (from_bytes xs 191) in let i = if_most (a + 1) last (length xs) in
    let m = both_most (length (from_bytes xs 191)) 1 (nodes (from_bytes xs 191) + length (from_bytes xs 191)) 0
    (behind a (from_bytes xs 191)) (if_some (a + 1) last (length xs)) k i in
    rw f (omega (arith, h.0, m.0), omega (arith, h.0, h.1, m.1)))
    (cases_Bool (all_are 128 xs && nat_le a last))

to_most : (bs : List ℕ) → AtMost (length bs) (below_sum (length bs)) (to_bytes bs)
to_most [] = (omega arith, omega arith)
to_most (b ∷ bs) =
    ⊎_elim (λ t. rw t (omega arith, omega arith))
    (λ f. let h = to_most bs in let k = behind_most b (to_bytes bs) in let i = if_most 128 (b - 1) (length bs) in
    let m = both_most 1 (length (to_bytes bs)) 0 (nodes (to_bytes bs) + length (to_bytes bs)) (if_some 128 (b - 1) (length bs)) (behind b (to_bytes bs)) i k in
    rw f (omega (arith, h.0, m.0), omega (arith, h.0, h.1, m.1)))
    (cases_Bool (all_are 191 bs))

over_one_most : (v : Bool) (a n m p : ℕ) (below : List Sequence) → 0 < m → AtMost m p below → AtMost m (p + m) (over_one v a n below)
over_one_most true a n m p below some h = (omega (arith, some), omega arith)
over_one_most false a n m p below some h = let k = behind_most a below in (omega (arith, h.0, k.0), omega (arith, h.0, h.1, k.1))

over_both_most : (v : Bool) (xs : List ℕ) (b : ℕ) (bs : List ℕ) →
    AtMost (length xs + suc (length bs)) (below_sum (length xs) + below_sum (suc (length bs))) (over_both v xs b bs)
over_both_most true xs b bs = let h = from_most xs b in (omega (arith, h.0), omega (arith, h.1))
over_both_most false xs b bs =
    let h = from_most xs (b - 1) in let g = to_most bs in let k = behind_most b (to_bytes bs) in
    let m = both_most (length xs) (length (to_bytes bs)) (below_sum (length xs)) (nodes (to_bytes bs) + length (to_bytes bs))
    (from_bytes xs (b - 1)) (behind b (to_bytes bs)) h k in
    (omega (arith, g.0, m.0), omega (arith, g.0, g.1, m.1))

within_most : (xs ys : List ℕ) → AtMost (length xs + length ys) (below_sum (length xs) + below_sum (length ys)) (within_bytes xs ys)
within_most [] ys = (omega arith, omega arith)
within_most (a ∷ []) [] = (omega arith, omega arith)
within_most (a ∷ []) (b ∷ ys) = (omega arith, omega arith)
within_most (a ∷ c ∷ xs) [] = (omega arith, omega arith)
within_most (a ∷ c ∷ xs) (b ∷ ys) =
    ⊎_elim
    (λ e. let h = within_most (c ∷ xs) ys in
    let k = over_one_most (all_are 128 (c ∷ xs) && all_are 191 ys) a (length (c ∷ xs)) (length (c ∷ xs) + length ys)
    (below_sum (length (c ∷ xs)) + below_sum (length ys)) (within_bytes (c ∷ xs) ys) (omega arith) h in
    rw (eq-eqb a b e) (omega (arith, k.0), omega (arith, k.1)))
    (λ e. let k = over_both_most (all_are 191 ys && nat_lt a b) (a ∷ c ∷ xs) b ys in rw (ne_eqb a b e) (omega (arith, k.0), omega (arith, k.1)))
    (cases_eq a b)

sum_small : (n : ℕ) → n ≤ 4 → below_sum n ≤ 6
sum_small zero h = omega arith
sum_small (suc zero) h = omega arith
sum_small (suc (suc zero)) h = omega arith
sum_small (suc (suc (suc zero))) h = omega arith
sum_small (suc (suc (suc (suc zero)))) h = omega arith
sum_small (suc (suc (suc (suc (suc n))))) h = absurd (omega (arith, h))

piece_nodes : (p : Range) → nodes (piece_sequences p) ≤ 12
piece_nodes p =
    let h = within_most (encode_utf8 p.0) (encode_utf8 p.1) in
    let a = sum_small (length (encode_utf8 p.0)) (encode_short p.0) in
    let b = sum_small (length (encode_utf8 p.1)) (encode_short p.1) in omega (arith, h.1, a, b)

class_nodes : (ps : List Range) → nodes (sequences ps) ≤ 12 * length ps
class_nodes [] = omega arith
class_nodes (p ∷ ps) =
    let e = nodes_append (piece_sequences p) (sequences ps) in let h = piece_nodes p in let k = class_nodes ps in omega (arith, e, h, k)

-- a tree with one more sequence
put_size : (rs : List Range) (n : ℕ) (tree : Tree) → size (put rs n tree) ≤ (length rs - 1) + size tree
put_size [] n tree = omega arith
put_size (r ∷ []) n tree = omega arith
put_size (r ∷ q ∷ qs) n none = let h = put_size (q ∷ qs) n none in omega (arith, h)
put_size (r ∷ q ∷ qs) n (ends a b m others) = let h = put_size (q ∷ qs) n none in omega (arith, h)
put_size (r ∷ q ∷ qs) n (goes a b below others) =
    let h = put_size (q ∷ qs) n below in let k = put_size (q ∷ qs) n none in
    ⊎_elim (λ t. rw t (omega (arith, h))) (λ f. rw f (omega (arith, k))) (cases_Bool (nat_eq r.0 a && nat_eq r.1 b))

tree_size : (ss : List Sequence) → size (tree_of ss) ≤ nodes ss
tree_size [] = omega arith
tree_size (s ∷ ss) = let h = put_size s.0 s.1 (tree_of ss) in let k = tree_size ss in omega (arith, h, k)

put_depth : (r : Range) (rs : List Range) (n : ℕ) (tree : Tree) → depth (put (r ∷ rs) n tree) ≡ max n (depth tree)
put_depth r [] n tree = refl
put_depth r (q ∷ qs) n none = let h = put_depth q qs n none in omega (arith, h)
put_depth r (q ∷ qs) n (ends a b m others) = let h = put_depth q qs n none in omega (arith, h)
put_depth r (q ∷ qs) n (goes a b below others) =
    let h = put_depth q qs n below in let k = put_depth q qs n none in
    ⊎_elim (λ t. rw t (omega (arith, h))) (λ f. rw f (omega (arith, k))) (cases_Bool (nat_eq r.0 a && nat_eq r.1 b))

pub tree_depth : (ss : List Sequence) → AllByRecursion IsLed ss → depth (tree_of ss) ≡ longest ss
tree_depth [] each = refl
tree_depth (([], n) ∷ ss) each = absurd each.0
tree_depth (((r ∷ rs), n) ∷ ss) each = put_depth r rs n (tree_of ss) ∙ ap (λ k. max n k) (tree_depth ss each.1)

pub longest_append : (xs ys : List Sequence) → longest (xs ++ ys) ≡ max (longest xs) (longest ys)
longest_append [] ys = omega arith
longest_append (s ∷ xs) ys = let h = longest_append xs ys in omega (arith, h)

longest_short : (n : ℕ) (ss : List Sequence) → AllByRecursion (IsLong n) ss → longest ss ≤ n
longest_short n [] each = omega arith
longest_short n (s ∷ ss) each = let h = longest_short n ss each.1 in let e = each.0.1 in omega (arith, h, e)

class_short : (ps : List Range) → EachPiece ps → longest (sequences ps) ≤ 4
class_short [] each = omega arith
class_short (p ∷ ps) each =
    let e = longest_append (piece_sequences p) (sequences ps) in
    let h = longest_short each.0.0 (piece_sequences p) (piece_long p each.0.0 each.0.1) in
    let k = class_short ps each.1 in let l = each.0.1.short in omega (arith, e, h, k, l)

-- the tree of some pieces
pub class_size : (ps : List Range) → EachPiece ps → (size (tree_of (sequences ps)) ≤ 12 * length ps) × (depth (tree_of (sequences ps)) ≤ 4)
class_size ps each =
    let h = tree_size (sequences ps) in let k = class_nodes ps in
    let e = tree_depth (sequences ps) (class_led ps each) in let l = class_short ps each in
    (omega (arith, h, k), omega (arith, e, l))

between_size : (a b : ℕ) (r : Range) → length (between a b r) ≤ 1
between_size a b r = ⊎_elim (λ e. rw e (omega arith)) (λ e. rw e (omega arith)) (cases_Bool (nat_le (max r.0 a) (min r.1 b)))

pieces_size : (r : Range) → length (pieces r) ≤ 5
pieces_size r =
    let b1 = between 0 0x7F r in
    let b2 = between 0x80 0x7FF r in
    let b3 = between 0x800 0xD7FF r in
    let b4 = between 0xE000 0xFFFF r in
    let b5 = between 0x1_0000 0x10_FFFF r in
    let l1 = length-append b1 (b2 ++ (b3 ++ (b4 ++ b5))) in
    let l2 = length-append b2 (b3 ++ (b4 ++ b5)) in
    let l3 = length-append b3 (b4 ++ b5) in
    let l4 = length-append b4 b5 in
    let s1 = between_size 0 0x7F r in
    let s2 = between_size 0x80 0x7FF r in
    let s3 = between_size 0x800 0xD7FF r in
    let s4 = between_size 0xE000 0xFFFF r in
    let s5 = between_size 0x1_0000 0x10_FFFF r in
    sizes _ _ _ _ _ _ _ _ _ l1 l2 l3 l4 s1 s2 s3 s4 s5
  where
    sizes : (a b c d e f g h i : ℕ) → a ≡ b + c → c ≡ d + e → e ≡ f + g → g ≡ h + i → b ≤ 1 → d ≤ 1 → f ≤ 1 → h ≤ 1 → i ≤ 1 → a ≤ 5
    sizes a b c d e f g h i l1 l2 l3 l4 s1 s2 s3 s4 s5 = omega (arith, l1, l2, l3, l4)

pub all_pieces_size : (rs : List Range) → length (all_pieces rs) ≤ 5 * length rs
all_pieces_size [] = omega arith
all_pieces_size (r ∷ rs) =
    let l = length-append (pieces r) (all_pieces rs) in
    let h = pieces_size r in let k = all_pieces_size rs in omega (arith, l, h, k)

pub block_size : (start : ℕ) (q : Place) → 1 + length (block start q) ≤ place_weight q
block_size start (choice ns) = omega arith
block_size start (byte rs n) = omega arith
block_size start (branch ts) = omega arith
block_size start (scalar [] n) = omega arith
block_size start (scalar (r ∷ rs) n) =
    let t = class_tree (r ∷ rs) in
    let l = length-append (tails (depth t) start n) (tree_block (depth t) start n t (start + depth t)) in
    let i = length-tails (depth t) start n in
    let j = length-tree_block (depth t) start n t (start + depth t) in
    let h = class_size (all_pieces (r ∷ rs)) (all_pieces_each (r ∷ rs)) in
    let k = all_pieces_size (r ∷ rs) in omega (arith, l, i, j, h.0, h.1, k)
block_size start (guard l n) = omega arith
block_size start (slot k n) = omega arith
block_size start (accept p) = omega arith

blocks_size : (start : ℕ) (qs : List Place) → length qs + length (blocks start qs) ≤ heaviness qs
blocks_size start [] = omega arith
blocks_size start (q ∷ qs) =
    let behind = start + length (block start q) in
    let l = length-append (block start q) (blocks behind qs) in
    let h = block_size start q in let k = blocks_size behind qs in omega (arith, l, h, k)

pub length-bytes_of : (places : List Place) → length (bytes_of places) ≡ length places + length (blocks (length places) places)
length-bytes_of places =
    length-append (byte_places (length places) places) (blocks (length places) places)
    ∙ ap (λ n. n + length (blocks (length places) places)) (length-byte_places (length places) places)

pub bytes_light : (places : List Place) → length (bytes_of places) ≤ heaviness places
bytes_light places = let e = length-bytes_of places in let h = blocks_size (length places) places in omega (arith, e, h)

pub bytes_longer : (places : List Place) → length places ≤ length (bytes_of places)
bytes_longer places = let e = length-bytes_of places in omega (arith, e)

-- Each edge reads one byte.

abbrev ReadsOne : Place → Type 0
ReadsOne q = (test : Look → Bool) (bytes : List ℕ) → AllByRecursion IsOfOneByte (ways_out test bytes q)

stays_one : (ns : List ℕ) → AllByRecursion IsOfOneByte (map stays ns)
stays_one [] = tt
stays_one (n ∷ ns) = (tt, stays_one ns)

one_if : (b : Bool) (w : Way) → IsOfOneByte w → AllByRecursion IsOfOneByte (if b then w ∷ [] else [])
one_if true w h = (h, tt)
one_if false w h = tt

branch_one : (d : ℕ) (ts : Ways) → AllByRecursion IsOfOneByte (branch_ways d ts)
branch_one d [] = tt
branch_one d (t ∷ ts) =
    ⊎_elim (λ e. rw e (refl, branch_one d ts)) (λ e. rw e (branch_one d ts)) (cases_Bool (nat_le t.0.0 d && nat_le d t.0.1))

branch_reads : (ts : Ways) → ReadsOne (branch ts)
branch_reads ts test [] = tt
branch_reads ts test (d ∷ ds) = branch_one d ts

place_reads : (start : ℕ) (q : Place) → ReadsOne (byte_place start q)
place_reads start (choice ns) test bytes = stays_one ns
place_reads start (byte rs n) test [] = tt
place_reads start (byte rs n) test (d ∷ ds) = one_if (in_ranges rs d) (reads 1 n) refl
place_reads start (branch ts) test bytes = branch_reads ts test bytes
place_reads start (scalar rs n) test bytes = branch_reads (class_ways start n rs) test bytes
place_reads start (guard l n) test bytes = one_if (test l) (stays n) tt
place_reads start (slot k n) test bytes = (tt, tt)
place_reads start (accept p) test bytes = tt

tails_read : (count tail next : ℕ) → AllByRecursion ReadsOne (tails count tail next)
tails_read zero tail next = tt
tails_read (suc count) tail next = (branch_reads (((128, 191), rest_of count (tail + 1) next count) ∷ []), tails_read count (tail + 1) next)

tree_reads : (count tail next : ℕ) (tree : Tree) (start : ℕ) → AllByRecursion ReadsOne (tree_block count tail next tree start)
tree_reads count tail next none start = tt
tree_reads count tail next (ends a b n others) start = tree_reads count tail next others start
tree_reads count tail next (goes a b below others) start =
    each_append ReadsOne (tree_block count tail next below start) (branch (tree_ways count tail next below start) ∷ tree_block count tail next others (start + size below + 1))
    (tree_reads count tail next below start) (branch_reads (tree_ways count tail next below start), tree_reads count tail next others (start + size below + 1))

block_reads : (start : ℕ) (q : Place) → AllByRecursion ReadsOne (block start q)
block_reads start (choice ns) = tt
block_reads start (byte rs n) = tt
block_reads start (branch ts) = tt
block_reads start (scalar rs n) =
    let t = class_tree rs in
    each_append ReadsOne (tails (depth t) start n) (tree_block (depth t) start n t (start + depth t))
    (tails_read (depth t) start n) (tree_reads (depth t) start n t (start + depth t))
block_reads start (guard l n) = tt
block_reads start (slot k n) = tt
block_reads start (accept p) = tt

places_read : (start : ℕ) (qs : List Place) → AllByRecursion ReadsOne (byte_places start qs)
places_read start [] = tt
places_read start (q ∷ qs) = (place_reads start q, places_read (start + length (block start q)) qs)

blocks_read : (start : ℕ) (qs : List Place) → AllByRecursion ReadsOne (blocks start qs)
blocks_read start [] = tt
blocks_read start (q ∷ qs) =
    let behind = start + length (block start q) in
    each_append ReadsOne (block start q) (blocks behind qs) (block_reads start q) (blocks_read behind qs)

pub bytes_by_one : (places : List Place) (test : Look → Bool) (bytes : List ℕ) → All (λ q. All IsOfOneByte (ways_out test bytes q)) (bytes_of places)
bytes_by_one places test bytes =
    let n = length places in
    All-from_recursion (λ q. All IsOfOneByte (ways_out test bytes q)) (bytes_of places)
    (each_weaker ReadsOne (λ q. All IsOfOneByte (ways_out test bytes q)) (λ q h. All-from_recursion IsOfOneByte (ways_out test bytes q) (h test bytes))
    (bytes_of places) (each_append ReadsOne (byte_places n places) (blocks n places) (places_read n places) (blocks_read n places)))

-- No place reads scalars.

place_bytes : (start : ℕ) (q : Place) → IsBytePlace (byte_place start q)
place_bytes start (choice ns) = tt
place_bytes start (byte rs n) = tt
place_bytes start (branch ts) = tt
place_bytes start (scalar rs n) = tt
place_bytes start (guard l n) = tt
place_bytes start (slot k n) = tt
place_bytes start (accept p) = tt

places_bytes : (start : ℕ) (qs : List Place) → AllByRecursion IsBytePlace (byte_places start qs)
places_bytes start [] = tt
places_bytes start (q ∷ qs) = (place_bytes start q, places_bytes (start + length (block start q)) qs)

-- The edges stay inside.

abbrev Within : ℕ → Ways → Type 0
Within m ts = AllByRecursion (λ n. n < m) (map (λ (t : Range × ℕ). t.1) ts)

abbrev Inside : ℕ → Place → Type 0
Inside m q = AllByRecursion (λ n. n < m) (targets q)

module _ (m count tail next : ℕ) (tails_end : tail + count ≤ m) (next_in : next < m) where
  rest_in : (n : ℕ) → n ≤ count → rest_of count tail next n < m
  rest_in zero h = next_in
  rest_in (suc n) h = omega (arith, tails_end, h)

  ways_in : (tree : Tree) (start : ℕ) → depth tree ≤ count → start + size tree ≤ m → Within m (tree_ways count tail next tree start)
  ways_in none start d h = tt
  ways_in (ends a b n others) start d h = (rest_in n (omega (arith, d)), ways_in others start (omega (arith, d)) h)
  ways_in (goes a b below others) start d h = (omega (arith, h), ways_in others (start + size below + 1) (omega (arith, d)) (omega (arith, h)))

  tree_in : (tree : Tree) (start : ℕ) → depth tree ≤ count → start + size tree ≤ m → AllByRecursion (Inside m) (tree_block count tail next tree start)
  tree_in none start d h = tt
  tree_in (ends a b n others) start d h = tree_in others start (omega (arith, d)) h
  tree_in (goes a b below others) start d h =
      each_append (Inside m) (tree_block count tail next below start) (branch (tree_ways count tail next below start) ∷ tree_block count tail next others (start + size below + 1))
      (tree_in below start (omega (arith, d)) (omega (arith, h)))
      (ways_in below start (omega (arith, d)) (omega (arith, h)), tree_in others (start + size below + 1) (omega (arith, d)) (omega (arith, h)))

tails_in : (m next : ℕ) → next < m → (count tail : ℕ) → tail + count ≤ m → AllByRecursion (Inside m) (tails count tail next)
tails_in m next h zero tail k = tt
tails_in m next h (suc count) tail k =
    ((rest_in m count (tail + 1) next (omega (arith, k)) h count (omega arith), tt), tails_in m next h count (tail + 1) (omega (arith, k)))

place_in : (n m start : ℕ) (q : Place) → n ≤ m → start + length (block start q) ≤ m → Inside n q → Inside m (byte_place start q)
place_in n m start (choice ns) le h i = each_weaker (λ k. k < n) (λ k. k < m) (λ k l. omega arith) ns i
place_in n m start (byte rs k) le h i = (let a = i.0 in omega (arith, a), tt)
place_in n m start (branch ts) le h i = each_weaker (λ k. k < n) (λ k. k < m) (λ k l. omega arith) (map (λ (t : Range × ℕ). t.1) ts) i
place_in n m start (scalar rs k) le h i =
    let t = class_tree rs in
    let l = length-append (tails (depth t) start k) (tree_block (depth t) start k t (start + depth t)) in
    let c = length-tails (depth t) start k in
    let e = length-tree_block (depth t) start k t (start + depth t) in
    let a = i.0 in
    ways_in m (depth t) start k (omega (arith, l, c, e, h)) (omega (arith, a)) t (start + depth t) (omega arith) (omega (arith, l, c, e, h))
place_in n m start (guard l k) le h i = (let a = i.0 in omega (arith, a), tt)
place_in n m start (slot j k) le h i = (let a = i.0 in omega (arith, a), tt)
place_in n m start (accept p) le h i = tt

block_in : (n m start : ℕ) (q : Place) → n ≤ m → start + length (block start q) ≤ m → Inside n q → AllByRecursion (Inside m) (block start q)
block_in n m start (choice ns) le h i = tt
block_in n m start (byte rs k) le h i = tt
block_in n m start (branch ts) le h i = tt
block_in n m start (scalar rs k) le h i =
    let t = class_tree rs in
    let l = length-append (tails (depth t) start k) (tree_block (depth t) start k t (start + depth t)) in
    let c = length-tails (depth t) start k in
    let e = length-tree_block (depth t) start k t (start + depth t) in
    let a = i.0 in
    each_append (Inside m) (tails (depth t) start k) (tree_block (depth t) start k t (start + depth t))
    (tails_in m k (omega (arith, a)) (depth t) start (omega (arith, l, c, e, h)))
    (tree_in m (depth t) start k (omega (arith, l, c, e, h)) (omega (arith, a)) t (start + depth t) (omega arith) (omega (arith, l, c, e, h)))
block_in n m start (guard l k) le h i = tt
block_in n m start (slot j k) le h i = tt
block_in n m start (accept p) le h i = tt

places_in : (n m start : ℕ) (qs : List Place) → n ≤ m → start + length (blocks start qs) ≤ m → AllByRecursion (Inside n) qs →
    AllByRecursion (Inside m) (byte_places start qs)
places_in n m start [] le h each = tt
places_in n m start (q ∷ qs) le h each =
    let behind = start + length (block start q) in
    let l = length-append (block start q) (blocks behind qs) in
    (place_in n m start q le (omega (arith, l, h)) each.0, places_in n m behind qs le (omega (arith, l, h)) each.1)

blocks_in : (n m start : ℕ) (qs : List Place) → n ≤ m → start + length (blocks start qs) ≤ m → AllByRecursion (Inside n) qs →
    AllByRecursion (Inside m) (blocks start qs)
blocks_in n m start [] le h each = tt
blocks_in n m start (q ∷ qs) le h each =
    let behind = start + length (block start q) in
    let l = length-append (block start q) (blocks behind qs) in
    each_append (Inside m) (block start q) (blocks behind qs) (block_in n m start q le (omega (arith, l, h)) each.0)
    (blocks_in n m behind qs le (omega (arith, l, h)) each.1)

pub bytes_closed : (places : List Place) → IsClosed places → IsClosed (bytes_of places)
bytes_closed places closed =
    let n = length places in
    let m = length (bytes_of places) in
    let e = length-bytes_of places in
    let each : AllByRecursion (Inside n) places =
    recursion_from_All (Inside n) places
    (All-from_recursion (Inside n) places
    (each_weaker (λ q. All (λ k. k < n) (targets q)) (Inside n) (λ q h. recursion_from_All (λ k. k < n) (targets q) h) places
    (recursion_from_All (λ q. All (λ k. k < n) (targets q)) places closed))) in
    All-from_recursion (λ q. All (λ k. k < m) (targets q)) (bytes_of places)
    (each_weaker (Inside m) (λ q. All (λ k. k < m) (targets q)) (λ q h. All-from_recursion (λ k. k < m) (targets q) h) (bytes_of places)
    (each_append (Inside m) (byte_places n places) (blocks n places)
    (places_in n m n places (omega (arith, e)) (omega (arith, e)) each) (blocks_in n m n places (omega (arith, e)) (omega (arith, e)) each)))

-- The patterns' numbers.

abbrev Numbered : Place → Type 0
Numbered q = (p : ℕ) → q ≡ accept p → p ≤ 2147483646

abbrev pub IsBranching : Place → Type 0
IsBranching q = (ts : Ways) × (q ≡ branch ts)

branch_apart : (ts : Ways) (p : ℕ) → branch ts ≡ accept p → ⊥
branch_apart ts p e = cc

byte_numbered : (start : ℕ) (q : Place) → Numbered q → Numbered (byte_place start q)
byte_numbered start (choice ns) h = h
byte_numbered start (byte rs n) h = h
byte_numbered start (branch ts) h = h
byte_numbered start (scalar rs n) h = λ p e. absurd (branch_apart (class_ways start n rs) p e)
byte_numbered start (guard l n) h = h
byte_numbered start (slot k n) h = h
byte_numbered start (accept p) h = h

tails_branching : (count tail next : ℕ) → AllByRecursion IsBranching (tails count tail next)
tails_branching zero tail next = tt
tails_branching (suc count) tail next = ((((128, 191), rest_of count (tail + 1) next count) ∷ [], refl), tails_branching count (tail + 1) next)

tree_branching : (count tail next : ℕ) (tree : Tree) (start : ℕ) → AllByRecursion IsBranching (tree_block count tail next tree start)
tree_branching count tail next none start = tt
tree_branching count tail next (ends a b n others) start = tree_branching count tail next others start
tree_branching count tail next (goes a b below others) start =
    each_append IsBranching (tree_block count tail next below start) (branch (tree_ways count tail next below start) ∷ tree_block count tail next others (start + size below + 1))
    (tree_branching count tail next below start) ((tree_ways count tail next below start, refl), tree_branching count tail next others (start + size below + 1))

block_branching : (start : ℕ) (q : Place) → AllByRecursion IsBranching (block start q)
block_branching start (choice ns) = tt
block_branching start (byte rs n) = tt
block_branching start (branch ts) = tt
block_branching start (scalar rs n) =
    let t = class_tree rs in
    each_append IsBranching (tails (depth t) start n) (tree_block (depth t) start n t (start + depth t))
    (tails_branching (depth t) start n) (tree_branching (depth t) start n t (start + depth t))
block_branching start (guard l n) = tt
block_branching start (slot k n) = tt
block_branching start (accept p) = tt

pub blocks_branching : (start : ℕ) (qs : List Place) → AllByRecursion IsBranching (blocks start qs)
blocks_branching start [] = tt
blocks_branching start (q ∷ qs) =
    let behind = start + length (block start q) in
    each_append IsBranching (block start q) (blocks behind qs) (block_branching start q) (blocks_branching behind qs)

pub at_right : (xs ys : List Place) (n : ℕ) → length xs ≤ n → place_at (xs ++ ys) n ≡ place_at ys (n - length xs)
at_right [] ys n h = let e : n ≡ n - 0 = omega arith in ap (place_at ys) e
at_right (x ∷ xs) ys zero h = absurd (omega arith)
at_right (x ∷ xs) ys (suc n) h =
    let e : n - length xs ≡ suc n - suc (length xs) = omega arith in at_right xs ys n (omega arith) ∙ ap (place_at ys) e

-- none of them is a match place
pub branching_none : (qs : List Place) → AllByRecursion IsBranching qs → (n p : ℕ) → place_at qs n ≡ accept p → ⊥
branching_none [] each zero p e = cc
branching_none [] each (suc n) p e = cc
branching_none (q ∷ qs) each zero p e = branch_apart each.0.0 p (sym each.0.1 ∙ e)
branching_none (q ∷ qs) each (suc n) p e = branching_none qs each.1 n p e

branching_at : (qs : List Place) → AllByRecursion IsBranching qs → (n : ℕ) → Numbered (place_at qs n)
branching_at qs each n p e = absurd (branching_none qs each n p e)

pub bytes_runnable : (places : List Place) → IsRunnable places → IsRunnable (bytes_of places)
bytes_runnable places h = record {
  rooted = let a = bytes_longer places in let b = h.rooted in omega (arith, a, b);
  closed = bytes_closed places h.closed;
  numbered = λ n. numbered n;
}
  where
    numbered : (n : ℕ) → Numbered (place_at (bytes_of places) n)
    numbered n =
        ⊎_elim
        (λ l. let r = stands_at places n l in
        subst Numbered (sym r.1) (byte_numbered r.0 (place_at places n) (h.numbered n)))
        (λ ge. let k = length places in
        subst Numbered (sym (at_right (byte_places k places) (blocks k places) n (let e = length-byte_places k places in omega (arith, e, ge))))
        (branching_at (blocks k places) (blocks_branching k places) (n - length (byte_places k places))))
        (cases_lt n (length places))

pub bytes_no_scalars : (places : List Place) → All IsBytePlace (bytes_of places)
bytes_no_scalars places =
    let n = length places in
    All-from_recursion IsBytePlace (bytes_of places)
    (each_append IsBytePlace (byte_places n places) (blocks n places) (places_bytes n places)
    (each_weaker IsBranching IsBytePlace (λ q h. subst IsBytePlace (sym h.1) tt) (blocks n places) (blocks_branching n places)))
