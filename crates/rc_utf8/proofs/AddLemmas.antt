-- What the code adds for places.
use Rattle.std.proofs.Common.{◌≡◌, ℕ, zero, suc, ◌+◌, ◌*◌, ◌<◌, ◌≤◌, List, [], ◌∷◌, ◌++◌, length, map, drop, sym, subst, ap, ap₂, ◌∙◌, refl, arith, drop-cons, length-append, get_or, append_assoc, Vec, Global, vec_len}
use Rattle.std.specs.List.{AllByRecursion}
use Rattle.std.proofs.lemmas.List.{append-nil, length-map}
use Rattle.rc_pattern.specs.Re.{Range}
use Rattle.rc_pattern.specs.Meaning.{char_range}
use Rattle.rc_pattern.specs.declared.hir.ClassUnicodeRange.{ClassUnicodeRange}
use Rattle.rc_program.specs.Program.{Place, branch, scalar}
use Rattle.rc_program.specs.Laws.{heaviness, place_weight}
use Rattle.rc_program.specs.declared.place.Place as source
use Rattle.rc_program.specs.Places.{place_of as source_of, places_of as sources_of}
use Rattle.rc_utf8.specs.Bytes.{Sequence, all_pieces, piece_sequences, sequences, none, tree_of, class_tree, depth, size, tails, tree_ways, tree_block, byte_place, block, byte_places, blocks}
use Rattle.rc_utf8.specs.Places.{longest, IsDeep, Lays, all_left_at, place_of, places_of, sequences_of, ways_of}
use Rattle.rc_utf8.specs.declared.place.ByteWay.{ByteWay}
use Rattle.rc_utf8.specs.declared.place.BytePlace as code
use Rattle.rc_utf8.specs.declared.program.sequence.Sequence as code_sequence
use Rattle.rc_utf8.proofs.ScalarLemmas.{EachPiece, all_pieces_each}
use Rattle.rc_utf8.proofs.TreeLemmas.{IsLong}
use Rattle.rc_utf8.proofs.BlockLemmas.{piece_long, class_led}
use Rattle.rc_utf8.proofs.SizeLemmas.{all_pieces_size, block_size, class_size, longest_append, tree_depth}

-- one turn of such a loop
pub turn : (old now new left left_now : List Place) (q : Place) → new ≡ now ++ q ∷ [] → left_now ≡ q ∷ left → now ++ left_now ≡ old → new ++ left ≡ old
turn old now new left left_now q e f g = ap (λ qs. qs ++ left) e ∙ append_assoc now (q ∷ []) left ∙ ap (λ qs. now ++ qs) (sym f) ∙ g

-- the length after what was added
longer : (first : ℕ) (v0 v1 : Vec code.BytePlace Global) (qs : List Place) → places_of v1.items ≡ places_of v0.items ++ qs →
    first + vec_len v0 + length qs ≡ first + vec_len v1
longer first v0 v1 qs e =
    let l : length (places_of v1.items) ≡ length (places_of v0.items ++ qs) = ap length e in
    let a = length-append (places_of v0.items) qs in
    let m0 : length (places_of v0.items) ≡ length v0.items = length-map v0.items place_of in
    let m1 : length (places_of v1.items) ≡ length v1.items = length-map v1.items place_of in
    omega (arith, l, a, m0, m1, v0.ok.0, v1.ok.0)

-- one more place
pub record Turns (n i : ℕ) (program : List source.Place) (q : source.Place) (places new_places : List code.BytePlace) (v0 v1 : Vec code.BytePlace Global) : Type 0 where
  pub places_turn : places_of new_places ++ byte_places (n + vec_len v1) (sources_of (drop (i + 1) program))
      ≡ places_of places ++ byte_places (n + vec_len v0) (sources_of (drop i program))
  pub blocks_turn : places_of v1.items ++ blocks (n + vec_len v1) (sources_of (drop (i + 1) program))
      ≡ places_of v0.items ++ blocks (n + vec_len v0) (sources_of (drop i program))

from_place : (program : List source.Place) (i : ℕ) (q : source.Place) → i < length program → q ≡ get_or program i q →
    sources_of (drop i program) ≡ source_of q ∷ sources_of (drop (i + 1) program)
from_place program i q h e =
    let k : suc i ≡ i + 1 = omega arith in
    ap sources_of (drop-cons program i q h) ∙ ap₂ (λ p j. source_of p ∷ sources_of (drop j program)) (sym e) k

-- what the places left weigh
pub weighs : (program : List source.Place) (i : ℕ) (q : source.Place) → i < length program → q ≡ get_or program i q →
    heaviness (sources_of (drop i program)) ≡ place_weight (source_of q) + heaviness (sources_of (drop (i + 1) program))
weighs program i q h e = ap heaviness (from_place program i q h e)

lighter : (qs : List source.Place) (i : ℕ) → heaviness (sources_of (drop i qs)) ≤ heaviness (sources_of qs)
lighter [] zero = omega arith
lighter [] (suc i) = omega arith
lighter (q ∷ qs) zero = omega arith
lighter (q ∷ qs) (suc i) = let h = lighter qs i in omega (arith, h)

pub turns : (n i : ℕ) (program : List source.Place) (q : source.Place) (places new_places : List code.BytePlace) (v0 v1 : Vec code.BytePlace Global) →
    i < length program → q ≡ get_or program i q →
    places_of new_places ≡ places_of places ++ byte_place (n + vec_len v0) (source_of q) ∷ [] →
    places_of v1.items ≡ places_of v0.items ++ block (n + vec_len v0) (source_of q) → Turns n i program q places new_places v0 v1
turns n i program q places new_places v0 v1 h e f g =
    let start = n + vec_len v0 in
    let here = block start (source_of q) in
    let rest = sources_of (drop (i + 1) program) in
    let at : start + length here ≡ n + vec_len v1 = longer n v0 v1 here g in
    let left = from_place program i q h e in
    record {
      places_turn = turn (places_of places ++ byte_places start (sources_of (drop i program))) (places_of places) (places_of new_places)
          (byte_places (n + vec_len v1) rest) (byte_places start (sources_of (drop i program))) (byte_place start (source_of q)) f
          (ap (byte_places start) left ∙ ap (λ k. byte_place start (source_of q) ∷ byte_places k rest) at) refl;
      blocks_turn = ap (λ qs. qs ++ blocks (n + vec_len v1) rest) g ∙ append_assoc (places_of v0.items) here (blocks (n + vec_len v1) rest)
          ∙ ap (λ k. places_of v0.items ++ (here ++ blocks k rest)) (sym at) ∙ ap (λ qs. places_of v0.items ++ blocks start qs) (sym left);
    }

-- THE WHOLE OF A CLASS

deep_long : (n count : ℕ) (ss : List Sequence) → n ≤ 4 → AllByRecursion (IsLong n) ss → longest ss ≤ count → AllByRecursion (IsDeep 0 count) ss
deep_long n count [] few each h = tt
deep_long n count (([], m) ∷ ss) few each h = absurd each.0.0
deep_long n count (((r ∷ rs), m) ∷ ss) few each h = (
  record { ranges = omega arith; few = let e = each.0.1 in omega (arith, e, few); rest = omega (arith, h) },
  deep_long n count ss few each.1 (omega (arith, h)),
)

deep_append : (count : ℕ) (xs ys : List Sequence) → AllByRecursion (IsDeep 0 count) xs → AllByRecursion (IsDeep 0 count) ys → AllByRecursion (IsDeep 0 count) (xs ++ ys)
deep_append count [] ys a b = b
deep_append count (s ∷ xs) ys a b = (a.0, deep_append count xs ys a.1 b)

-- the sequences of the pieces have 1 to 4 ranges each
deep_class : (ps : List Range) → EachPiece ps → (count : ℕ) → longest (sequences ps) ≤ count → AllByRecursion (IsDeep 0 count) (sequences ps)
deep_class [] each count h = tt
deep_class (p ∷ ps) each count h =
    let l = longest_append (piece_sequences p) (sequences ps) in
    deep_append count (piece_sequences p) (sequences ps)
    (deep_long each.0.0 count (piece_sequences p) each.0.1.short (piece_long p each.0.0 each.0.1) (omega (arith, l, h)))
    (deep_class ps each.1 count (omega (arith, l, h)))

pub class_deep : (rs : List ClassUnicodeRange) (xs : List code_sequence.Sequence) (count : ℕ) → sequences_of xs ≡ sequences (all_pieces (map char_range rs)) →
    count ≡ longest (sequences_of xs) → AllByRecursion (IsDeep 0 count) (sequences_of xs)
class_deep rs xs count e h =
    let ps = all_pieces (map char_range rs) in
    let l : longest (sequences ps) ≡ count = sym (h ∙ ap longest e) in
    subst (AllByRecursion (IsDeep 0 count)) (sym e) (deep_class ps (all_pieces_each (map char_range rs)) count (omega (arith, l)))

none_passed : (ss : List Sequence) → all_left_at 0 ss ≡ ss
none_passed [] = refl
none_passed (s ∷ ss) = ap (λ ts. s ∷ ts) (none_passed ss)

class_is : (rs : List ClassUnicodeRange) (xs : List code_sequence.Sequence) → sequences_of xs ≡ sequences (all_pieces (map char_range rs)) →
    tree_of (all_left_at 0 (sequences_of xs)) ≡ class_tree (map char_range rs)
class_is rs xs e = ap tree_of (none_passed (sequences_of xs) ∙ e)

count_is : (rs : List ClassUnicodeRange) (xs : List code_sequence.Sequence) (count : ℕ) → sequences_of xs ≡ sequences (all_pieces (map char_range rs)) →
    count ≡ longest (sequences_of xs) → count ≡ depth (class_tree (map char_range rs))
count_is rs xs count e h =
    let ps = all_pieces (map char_range rs) in
    h ∙ ap longest e ∙ sym (tree_depth (sequences ps) (class_led ps (all_pieces_each (map char_range rs))))

-- how many places the tails and the tree take
pub class_fits : (rs : List ClassUnicodeRange) (xs : List code_sequence.Sequence) (count : ℕ) → sequences_of xs ≡ sequences (all_pieces (map char_range rs)) →
    count ≡ longest (sequences_of xs) → (count ≤ 4) × (size (tree_of (all_left_at 0 (sequences_of xs))) ≤ 60 * length rs)
class_fits rs xs count e h =
    let us = map char_range rs in
    let most = class_size (all_pieces us) (all_pieces_each us) in
    let c = count_is rs xs count e h in
    let t = ap size (class_is rs xs e) in
    let p = all_pieces_size us in
    let l = length-map rs char_range in
    (omega (arith, most.1, c), omega (arith, most.0, t, p, l))

-- the whole of a class
pub record Whole (start next : ℕ) (rs : List ClassUnicodeRange) (w : List ByteWay) (v0 v2 : Vec code.BytePlace Global) : Type 0 where
  pub place : branch (ways_of w) ≡ byte_place start (scalar (map char_range rs) next)
  pub behind : places_of v2.items ≡ places_of v0.items ++ block start (scalar (map char_range rs) next)
  pub long : vec_len v2 + 1 ≤ vec_len v0 + (1 + 84 * length rs)

pub whole_class : (first next tail count : ℕ) (rs : List ClassUnicodeRange) (xs : List code_sequence.Sequence) (w : List ByteWay)
    (v0 v1 v2 : Vec code.BytePlace Global) → sequences_of xs ≡ sequences (all_pieces (map char_range rs)) → count ≡ longest (sequences_of xs) →
    tail ≡ first + vec_len v0 → vec_len v1 ≡ vec_len v0 + count → places_of v1.items ≡ places_of v0.items ++ tails count tail next →
    Lays count tail next (tree_of (all_left_at 0 (sequences_of xs))) none (first + vec_len v1) (first + vec_len v2) [] w v1.items v2.items →
    Whole (first + vec_len v0) next rs w v0 v2
whole_class first next tail count rs xs w v0 v1 v2 e h at long more laid =
    let start = first + vec_len v0 in
    let t = class_tree (map char_range rs) in
    let is = class_is rs xs e in
    let c = count_is rs xs count e h in
    let on : first + vec_len v1 ≡ start + depth t = omega (arith, long, c) in
    let here : places_of v2.items ≡ places_of v0.items ++ block start (scalar (map char_range rs) next) =
    sym (append-nil (places_of v2.items)) ∙ laid.blocks_laid ∙ ap (λ qs. qs ++ tree_block count tail next (tree_of (all_left_at 0 (sequences_of xs))) (first + vec_len v1)) more
    ∙ append_assoc (places_of v0.items) (tails count tail next) (tree_block count tail next (tree_of (all_left_at 0 (sequences_of xs))) (first + vec_len v1))
    ∙ ap₂ (λ n k. places_of v0.items ++ (tails n k next ++ tree_block n k next (tree_of (all_left_at 0 (sequences_of xs))) (first + vec_len v1))) c at
    ∙ ap₂ (λ u k. places_of v0.items ++ (tails (depth t) start next ++ tree_block (depth t) start next u k)) is on in
    record {
      place = ap branch (sym (append-nil (ways_of w)) ∙ laid.ways_laid
          ∙ ap₂ (λ n k. tree_ways n k next (tree_of (all_left_at 0 (sequences_of xs))) (first + vec_len v1)) c at
          ∙ ap₂ (λ u k. tree_ways (depth t) start next u k) is on);
      behind = here;
      long = let l = longer first v0 v2 (block start (scalar (map char_range rs) next)) here in
          let b = block_size start (scalar (map char_range rs) next) in
          let m = length-map rs char_range in omega (arith, l, b, m);
    }
