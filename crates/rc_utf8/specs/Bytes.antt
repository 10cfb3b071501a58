-- UTF-8 automata: the byte program of a program. Each place of scalars becomes a branch over bytes,
-- with a block of places of its own after the program's.
use Rattle.std.specs.Prelude.{ℕ, zero, suc, ◌+◌, ◌-◌, Bool, true, false, ◌&&◌, List, [], ◌∷◌, ◌++◌, length, map, max, min, nat_le, nat_lt, nat_eq, if◌then◌else◌, encode_utf8}
use Rattle.rc_pattern.specs.Re.{Range}
use Rattle.rc_program.specs.Program.{Place, branch, scalar}

-- The scalars of the range that are between a and b.
abbrev pub between : ℕ → ℕ → Range → List Range
between a b r = if nat_le (max r.0 a) (min r.1 b) then (max r.0 a, min r.1 b) ∷ [] else []

-- The range in pieces: the scalars of one byte, of two, of three below the surrogates and above, of
-- four.
abbrev pub pieces : Range → List Range
pieces r =
    between 0 0x7F r ++ (between 0x80 0x7FF r ++ (between 0x800 0xD7FF r ++ (between 0xE000 0xFFFF r ++ between 0x1_0000 0x10_FFFF r)))

abbrev pub all_pieces : List Range → List Range
all_pieces [] = []
all_pieces (r ∷ rs) = pieces r ++ all_pieces rs

-- A sequence of ranges of bytes: one byte of each range in turn, and then any so many continuation
-- bytes.
abbrev pub Sequence : Type 0
Sequence = List Range × ℕ

-- The sequence of one range, and n continuation bytes.
abbrev pub only_range : ℕ → ℕ → ℕ → List Sequence
only_range a b n = ((a, b) ∷ [], n) ∷ []

-- The sequence of one range, and n continuation bytes, if the range has a byte.
abbrev pub if_some : ℕ → ℕ → ℕ → List Sequence
if_some a b n = if nat_le a b then only_range a b n else []

-- The ranges in front of each.
abbrev pub after : List Range → List Sequence → List Sequence
after rs = map (λ (s : Sequence). (rs ++ s.0, s.1))

-- The byte a in front of each.
abbrev pub behind : ℕ → List Sequence → List Sequence
behind a = after ((a, a) ∷ [])

abbrev pub all_are : ℕ → List ℕ → Bool
all_are x [] = true
all_are x (a ∷ xs) = nat_eq a x && all_are x xs

-- Bytes that are at least these, the first of them at most `last`.
abbrev pub from_bytes : List ℕ → ℕ → List Sequence
from_bytes [] last = []
from_bytes (a ∷ xs) last =
    if all_are 128 xs && nat_le a last then only_range a last (length xs)
    else behind a (from_bytes xs 191) ++ if_some (a + 1) last (length xs)

-- Continuation bytes that are at most these.
abbrev pub to_bytes : List ℕ → List Sequence
to_bytes [] = []
to_bytes (b ∷ bs) =
    if all_are 191 bs then only_range 128 b (length bs)
    else if_some 128 (b - 1) (length bs) ++ behind b (to_bytes bs)

-- Behind the only first byte: any n continuation bytes if `all`, else these.
abbrev pub over_one : Bool → ℕ → ℕ → List Sequence → List Sequence
over_one true a n below = only_range a a n
over_one false a n below = behind a below

-- From a lesser first byte to a greater; `all` says that each sequence by the greater is reached.
abbrev pub over_both : Bool → List ℕ → ℕ → List ℕ → List Sequence
over_both true xs b bs = from_bytes xs b
over_both false xs b bs = from_bytes xs (b - 1) ++ behind b (to_bytes bs)

-- As many bytes, from the first to the second.
abbrev pub within_bytes : List ℕ → List ℕ → List Sequence
within_bytes (a ∷ []) (b ∷ bs) = only_range a b 0
within_bytes (a ∷ c ∷ xs) (b ∷ bs) =
    if nat_eq a b then over_one (all_are 128 (c ∷ xs) && all_are 191 bs) a (length (c ∷ xs)) (within_bytes (c ∷ xs) bs)
    else over_both (all_are 191 bs && nat_lt a b) (a ∷ c ∷ xs) b bs
within_bytes xs bs = []

-- The bytes of the scalars of a piece.
abbrev pub piece_sequences : Range → List Sequence
piece_sequences p = within_bytes (encode_utf8 p.0) (encode_utf8 p.1)

abbrev pub sequences : List Range → List Sequence
sequences [] = []
sequences (p ∷ ps) = piece_sequences p ++ sequences ps

-- A tree of sequences: the ways over the first byte, in order.
pub data Tree : Type 0 where
  none : Tree
  -- A byte of the range, then any `rest` continuation bytes.
  ends : (first last rest : ℕ) (others : Tree) → Tree
  -- A byte of the range, then what the tree below it has.
  goes : (first last : ℕ) (below others : Tree) → Tree

-- The tree with one more sequence in front. Both share the places along the ranges that they have
-- in common.
abbrev pub put : List Range → ℕ → Tree → Tree
put [] n tree = tree
put (r ∷ []) n tree = ends r.0 r.1 n tree
put (r ∷ q ∷ qs) n (goes a b below others) =
    if nat_eq r.0 a && nat_eq r.1 b then goes a b (put (q ∷ qs) n below) others
    else goes r.0 r.1 (put (q ∷ qs) n none) (goes a b below others)
put (r ∷ q ∷ qs) n tree = goes r.0 r.1 (put (q ∷ qs) n none) tree

abbrev pub tree_of : List Sequence → Tree
tree_of [] = none
tree_of (s ∷ ss) = put s.0 s.1 (tree_of ss)

abbrev pub class_tree : List Range → Tree
class_tree rs = tree_of (sequences (all_pieces rs))

-- How many continuation bytes a way ends with at most.
abbrev pub depth : Tree → ℕ
depth none = 0
depth (ends a b n others) = max n (depth others)
depth (goes a b below others) = max (depth below) (depth others)

-- The ways of a branch: for each range of bytes, the place to which it leads.
abbrev pub Ways : Type 0
Ways = List (Range × ℕ)

-- Among `count` places that read continuation bytes of any value, the one that reads n of them. The
-- first is at `tail` and reads the most, and all lead to `next`.
abbrev pub rest_of : ℕ → ℕ → ℕ → ℕ → ℕ
rest_of count tail next zero = next
rest_of count tail next (suc n) = tail + (count - suc n)

-- These places.
abbrev pub tails : ℕ → ℕ → ℕ → List Place
tails zero tail next = []
tails (suc count) tail next = branch (((128, 191), rest_of count (tail + 1) next count) ∷ []) ∷ tails count (tail + 1) next

-- How many places the trees below take.
abbrev pub size : Tree → ℕ
size none = 0
size (ends a b n others) = size others
size (goes a b below others) = 1 + (size below + size others)

-- The ways of a tree, if the places of the trees below begin at `start`, each after those below it.
abbrev pub tree_ways : ℕ → ℕ → ℕ → Tree → ℕ → Ways
tree_ways count tail next none start = []
tree_ways count tail next (ends a b n others) start = ((a, b), rest_of count tail next n) ∷ tree_ways count tail next others start
tree_ways count tail next (goes a b below others) start =
    ((a, b), start + size below) ∷ tree_ways count tail next others (start + size below + 1)

-- These places.
abbrev pub tree_block : ℕ → ℕ → ℕ → Tree → ℕ → List Place
tree_block count tail next none start = []
tree_block count tail next (ends a b n others) start = tree_block count tail next others start
tree_block count tail next (goes a b below others) start =
    tree_block count tail next below start
    ++ branch (tree_ways count tail next below start) ∷ tree_block count tail next others (start + size below + 1)

-- The ways over the scalars of the ranges, if their places begin at `start` and lead to `next`.
abbrev pub class_ways : ℕ → ℕ → List Range → Ways
class_ways start next rs = tree_ways (depth (class_tree rs)) start next (class_tree rs) (start + depth (class_tree rs))

abbrev pub class_block : ℕ → ℕ → List Range → List Place
class_block start next rs =
    tails (depth (class_tree rs)) start next ++ tree_block (depth (class_tree rs)) start next (class_tree rs) (start + depth (class_tree rs))

-- A place of the byte program, if its block begins at `start`.
abbrev pub byte_place : ℕ → Place → Place
byte_place start (scalar rs n) = branch (class_ways start n rs)
byte_place start q = q

-- Its block.
abbrev pub block : ℕ → Place → List Place
block start (scalar rs n) = class_block start n rs
block start q = []

-- The places, whose blocks come one after another.
abbrev pub byte_places : ℕ → List Place → List Place
byte_places start [] = []
byte_places start (q ∷ qs) = byte_place start q ∷ byte_places (start + length (block start q)) qs

abbrev pub blocks : ℕ → List Place → List Place
blocks start [] = []
blocks start (q ∷ qs) = block start q ++ blocks (start + length (block start q)) qs

-- The byte program: each place keeps its number, and the blocks come after.
abbrev pub bytes_of : List Place → List Place
bytes_of places = byte_places (length places) places ++ blocks (length places) places
