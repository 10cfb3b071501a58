-- What the block of a class takes is the same wherever it begins.
use Rattle.std.proofs.Common.{◌≡◌, ℕ, zero, suc, ◌+◌, ◌*◌, ◌≤◌, List, [], ◌∷◌, ◌++◌, length, arith, refl}
use Rattle.rc_pattern.specs.Re.{Range}
use Rattle.rc_program.specs.Program.{Place, choice, byte, branch, scalar, guard, slot, accept}
use Rattle.rc_utf8.specs.Bytes as trees
use Rattle.rc_utf8.specs.Bytes.{Tree, ends, goes, class_tree, depth, size, tails, tree_ways, tree_block, class_ways, class_block, byte_place, block, byte_places, blocks, bytes_of}
use Rattle.rc_weigh.specs.Weight.{way_count, laid_out, class_weight}
use Rattle.rc_weigh.specs.Laws.{range_count}

pub laid_out-append : (xs ys : List Place) → laid_out (xs ++ ys) ≡ laid_out xs + laid_out ys
laid_out-append [] ys = omega arith
laid_out-append (x ∷ xs) ys = let h = laid_out-append xs ys in omega (arith, h)

pub length-le-laid_out : (xs : List Place) → length xs ≤ laid_out xs
length-le-laid_out [] = omega arith
length-le-laid_out (x ∷ xs) = let h = length-le-laid_out xs in omega (arith, h)

-- the ways at the root of a tree
abbrev pub roots : Tree → ℕ
roots trees.none = 0
roots (ends a b n others) = 1 + roots others
roots (goes a b below others) = 1 + roots others

-- the places and the ways below it
abbrev pub inner : Tree → ℕ
inner trees.none = 0
inner (ends a b n others) = inner others
inner (goes a b below others) = inner below + (1 + roots below + inner others)

pub root_ways : (count tail next : ℕ) (tree : Tree) (start : ℕ) → length (tree_ways count tail next tree start) ≡ roots tree
root_ways count tail next trees.none start = refl
root_ways count tail next (ends a b n others) start = let h = root_ways count tail next others start in omega (arith, h)
root_ways count tail next (goes a b below others) start = let h = root_ways count tail next others (start + size below + 1) in omega (arith, h)

laid_tails : (count tail next : ℕ) → laid_out (tails count tail next) ≡ 2 * count
laid_tails zero tail next = refl
laid_tails (suc count) tail next = let h = laid_tails count (tail + 1) next in omega (arith, h)

laid_tree : (count tail next : ℕ) (tree : Tree) (start : ℕ) → laid_out (tree_block count tail next tree start) ≡ inner tree
laid_tree count tail next trees.none start = refl
laid_tree count tail next (ends a b n others) start = laid_tree count tail next others start
laid_tree count tail next (goes a b below others) start =
    let deep = tree_block count tail next below start in
    let rest = tree_block count tail next others (start + size below + 1) in
    let l = laid_out-append deep (branch (tree_ways count tail next below start) ∷ rest) in
    let h = laid_tree count tail next below start in
    let k = laid_tree count tail next others (start + size below + 1) in
    let w = root_ways count tail next below start in
    omega (arith, l, h, k, w)

-- what a class takes
abbrev pub taken : List Range → ℕ
taken rs = 1 + roots (class_tree rs) + (2 * depth (class_tree rs) + inner (class_tree rs))

laid_block : (start next : ℕ) (rs : List Range) → laid_out (class_block start next rs) ≡ 2 * depth (class_tree rs) + inner (class_tree rs)
laid_block start next rs =
    let t = class_tree rs in
    let l = laid_out-append (tails (depth t) start next) (tree_block (depth t) start next t (start + depth t)) in
    let h = laid_tails (depth t) start next in
    let k = laid_tree (depth t) start next t (start + depth t) in omega (arith, l, h, k)

pub weight_taken : (rs : List Range) → class_weight rs ≡ taken rs + length rs
weight_taken rs =
    let t = class_tree rs in
    let w = root_ways (depth t) 1 0 t (1 + depth t) in
    let l = laid_out-append (class_block 1 0 rs) [] in
    let b = laid_block 1 0 rs in omega (arith, w, l, b)

-- what a place weighs
abbrev pub place_laid : Place → ℕ
place_laid (scalar rs n) = class_weight rs
place_laid q = 1 + way_count q

abbrev pub all_laid : List Place → ℕ
all_laid [] = 0
all_laid (q ∷ qs) = place_laid q + all_laid qs

-- a place with its block takes so much
place_taken : (start : ℕ) (q : Place) → laid_out (byte_place start q ∷ []) + laid_out (block start q) + range_count (q ∷ []) ≡ place_laid q
place_taken start (choice ns) = omega arith
place_taken start (byte rs n) = omega arith
place_taken start (branch ts) = omega arith
place_taken start (scalar rs n) =
    let t = class_tree rs in
    let w = root_ways (depth t) start n t (start + depth t) in
    let b = laid_block start n rs in let e = weight_taken rs in omega (arith, w, b, e)
place_taken start (guard l n) = omega arith
place_taken start (slot k n) = omega arith
place_taken start (accept p) = omega arith

ranges_more : (q : Place) (qs : List Place) → range_count (q ∷ qs) ≡ range_count (q ∷ []) + range_count qs
ranges_more (choice ns) qs = omega arith
ranges_more (byte rs n) qs = omega arith
ranges_more (branch ts) qs = omega arith
ranges_more (scalar rs n) qs = omega arith
ranges_more (guard l n) qs = omega arith
ranges_more (slot k n) qs = omega arith
ranges_more (accept p) qs = omega arith

places_taken : (start : ℕ) (qs : List Place) → laid_out (byte_places start qs) + laid_out (blocks start qs) + range_count qs ≡ all_laid qs
places_taken start [] = refl
places_taken start (q ∷ qs) =
    let behind = start + length (block start q) in
    let l = laid_out-append (block start q) (blocks behind qs) in
    let h = place_taken start q in
    let r = ranges_more q qs in
    let k = places_taken behind qs in omega (arith, l, h, r, k)

-- and so does the byte program of all
pub program_taken : (places : List Place) → laid_out (bytes_of places) + range_count places ≡ all_laid places
program_taken places =
    let l = laid_out-append (byte_places (length places) places) (blocks (length places) places) in
    let h = places_taken (length places) places in omega (arith, l, h)
