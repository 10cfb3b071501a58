-- Positions in either direction, and the byte that is read next.
use Rattle.std.proofs.Common.{◌≡◌, ℕ, ◌+◌, ◌-◌, ◌<◌, ◌≤◌, Bool, true, false, not, List, length, Option, Some, None, IfSome, slice_get, slice_range, slice_index_or, ⊎_elim, refl, sym, subst, ◌∙◌, arith}
use Rattle.std.proofs.lemmas.Bool.{cases_lt}
use Rattle.std.proofs.lemmas.Option.{none-some}
use Rattle.rc_text.specs.Text.{Keeps, Searched, slice_end}
use Rattle.rc_program.specs.Sought.{text_of}
use Rattle.rc_determinize.proofs.TextLemmas.{byte_ahead, byte_behind, none_ahead, none_behind}
use Rattle.rc_dfa.proofs.SideLemmas.{ahead_kept, behind_kept, byte_of_piece}
use Rattle.rc_dfa.specs.Runs.{ahead_at, behind_at}
use Rattle.rc_table_search.specs.Walks.{byte_at, first_of, left_of, next_of, start_of}
use Rattle.rc_table_search.specs.Ways.{IsBounded, IsInSlice, IsNext, IsOn, LiesWithin, beside_at, span}

pub on_here : (backwards : Bool) (i : ℕ) → IsOn backwards i i
on_here false i = omega arith
on_here true i = omega arith

pub span_here : (backwards : Bool) (i : ℕ) → span backwards i i ≡ 0
span_here false i = omega arith
span_here true i = omega arith

pub on_both : (backwards : Bool) (i k n : ℕ) → IsOn backwards i k → IsOn backwards k n → IsOn backwards i n
on_both false i k n a b = omega (arith, a, b)
on_both true i k n a b = omega (arith, a, b)

pub left_on : (backwards : Bool) (i bound : ℕ) → 0 < span backwards i bound → IsOn backwards i bound
left_on false i bound left = omega (arith, left)
left_on true i bound left = omega (arith, left)

-- no further on, no more bytes between
pub span_within : (backwards : Bool) (i k n : ℕ) → IsOn backwards i k → IsOn backwards k n → span backwards i k ≤ span backwards i n
span_within false i k n a b = omega (arith, a, b)
span_within true i k n a b = omega (arith, a, b)

-- and fewer are left
pub span_left : (backwards : Bool) (i k n : ℕ) → IsOn backwards i k → IsOn backwards k n → span backwards i n ≡ span backwards i k + span backwards k n
span_left false i k n a b = omega (arith, a, b)
span_left true i k n a b = omega (arith, a, b)

-- where a search begins and ends within the slice
pub bounded_here : (backwards : Bool) (seen : Searched) (i : ℕ) → seen.slice.start ≤ i → i ≤ slice_end seen → IsBounded backwards seen i
bounded_here false seen i low high = high
bounded_here true seen i low high = low

-- one byte further
pub span_next : (backwards : Bool) (from i bound : ℕ) → IsOn backwards from i → 0 < span backwards i bound →
    IsOn backwards from (next_of backwards i) × IsOn backwards (next_of backwards i) bound × (span backwards from (next_of backwards i) ≡ span backwards from i + 1)
span_next false from i bound on left = (omega (arith, on), omega (arith, left), omega (arith, on))
span_next true from i bound on left = (omega (arith, on), omega (arith, left), omega (arith, on, left))

-- where the bound is not passed and no byte is left
pub there : (backwards : Bool) (i bound : ℕ) → IsOn backwards i bound → span backwards i bound ≤ 0 → i ≡ bound
there false i bound on none = omega (arith, on, none)
there true i bound on none = omega (arith, on, none)

-- A PIECE

-- the byte that is read next of a piece
pub next_here : (backwards : Bool) (seen : Searched) (bound start place : ℕ) (piece : List ℕ) → IsBounded backwards seen bound →
    piece ≡ slice_range seen.content start (start + length piece) → LiesWithin backwards start (length piece) bound → place ≤ length piece →
    0 < left_of backwards (length piece) place → IsNext backwards seen bound (start + place) (byte_at backwards piece place)
next_here false seen bound start place piece inside is within le some =
    let lt : place < length piece = omega (arith, some) in
    let here = byte_of_piece seen.content piece start place is lt in record {
      beside = λ terminator. byte_ahead (text_of terminator seen) (start + place) (slice_index_or piece place 0) (omega (arith, lt, within, inside)) here;
      there = here;
      left = omega (arith, lt, within);
    }
next_here true seen bound start place piece inside is within le some =
    let lt : place - 1 < length piece = omega (arith, le, some) in
    let here = byte_of_piece seen.content piece start (place - 1) is lt in
    let next : start + (place - 1) + 1 ≡ start + place = omega (arith, some) in
    let offset : start + (place - 1) ≡ start + place - 1 = omega (arith, some) in record {
      beside = λ terminator. subst (λ i. behind_at (text_of terminator seen) i ≡ Some (slice_index_or piece (place - 1) 0)) next
          (byte_behind (text_of terminator seen) (start + (place - 1)) (slice_index_or piece (place - 1) 0) (omega (arith, within, inside)) here);
      there = (omega (arith, some), subst (λ i. slice_get seen.content i ≡ Some (slice_index_or piece (place - 1) 0)) offset here);
      left = omega (arith, some, within);
    }

pub place_next : (backwards : Bool) (len start place : ℕ) → 0 < left_of backwards len place → next_of backwards (start + place) ≡ start + next_of backwards place
place_next false len start place some = omega arith
place_next true len start place some = omega (arith, some)

-- where a piece is read first
pub first_here : (backwards : Bool) (len at bound : ℕ) → 0 < span backwards at bound → len ≤ span backwards at bound →
    (start_of backwards len at + first_of backwards len ≡ at) × LiesWithin backwards (start_of backwards len at) len bound × (first_of backwards len ≤ len)
    × (left_of backwards len (first_of backwards len) ≡ len)
first_here false len at bound left short = (omega arith, omega (arith, left, short), omega arith, omega arith)
first_here true len at bound left short = (omega (arith, left, short), omega (arith, left, short), omega arith, omega arith)

-- the slice has the byte that is read next of a piece
pub inside_here : (backwards : Bool) (seen : Searched) (from bound start place len : ℕ) → IsBounded backwards seen bound → IsBounded (not backwards) seen from →
    IsOn backwards from (start + first_of backwards len) → LiesWithin backwards start len bound → place ≤ len → 0 < left_of backwards len place →
    IsInSlice backwards seen (start + place)
inside_here false seen from bound start place len inside began further within le some =
    (omega (arith, began, further), omega (arith, inside, within, le, some))
inside_here true seen from bound start place len inside began further within le some =
    (omega (arith, inside, within, some), omega (arith, began, further, le))

-- the slice has a byte that stands beside a position of it
pub in_slice : (backwards : Bool) (seen : Searched) (i : ℕ) (o : Option ℕ) → seen.slice.start ≤ i → i ≤ slice_end seen →
    o ≡ beside_at backwards (text_of 0 seen) i → IfSome o (λ _. IsInSlice backwards seen i)
in_slice backwards seen i None low high e = tt
in_slice false seen i (Some b) low high e =
    ⊎_elim (λ lt. (low, lt))
    (λ ge.
    let same : slice_end seen ≡ i = omega (arith, high, ge) in
    absurd (none-some b (sym (subst (λ k. ahead_at (text_of 0 seen) k ≡ None) same (none_ahead (text_of 0 seen))) ∙ sym e)))
    (cases_lt i (slice_end seen))
in_slice true seen i (Some b) low high e =
    ⊎_elim (λ lt. (lt, high))
    (λ ge.
    let same : seen.slice.start ≡ i = omega (arith, low, ge) in
    absurd (none-some b (sym (subst (λ k. behind_at (text_of 0 seen) k ≡ None) same (none_behind (text_of 0 seen))) ∙ sym e)))
    (cases_lt seen.slice.start i)

-- so far it was read
pub read_here : (backwards : Bool) (len at bound place : ℕ) → 0 < span backwards at bound → len ≤ span backwards at bound → place ≤ len →
    IsOn backwards at (start_of backwards len at + place) × IsOn backwards (start_of backwards len at + place) bound
    × (span backwards (start_of backwards len at + place) bound + len ≡ span backwards at bound + left_of backwards len place)
read_here false len at bound place left short le = (omega arith, omega (arith, left, short, le), omega (arith, left, short, le))
read_here true len at bound place left short le = (omega (arith, left, short, le), omega (arith, left, short), omega (arith, left, short, le))

-- a position between two others
pub between : (backwards : Bool) (from i to n : ℕ) → IsOn backwards from i → IsOn backwards i to → from ≤ n → to ≤ n → i ≤ n
between false from i to n on within low high = omega (arith, within, high)
between true from i to n on within low high = omega (arith, on, low)

-- a piece ends at no greater position than the search
pub piece_fits : (backwards : Bool) (len at bound n : ℕ) → 0 < span backwards at bound → len ≤ span backwards at bound → at ≤ n → bound ≤ n →
    start_of backwards len at + len ≤ n
piece_fits false len at bound n left short low high = omega (arith, left, short, high)
piece_fits true len at bound n left short low high = omega (arith, left, short, low)

-- a place of a piece is no earlier than the first
pub on_first : (backwards : Bool) (len start place : ℕ) → place ≤ len → IsOn backwards (start + first_of backwards len) (start + place)
on_first false len start place le = omega arith
on_first true len start place le = omega (arith, le)

-- the bytes beside a position do not depend on the terminator
pub beside_same : (backwards : Bool) (a b : ℕ) (s : Searched) (i : ℕ) → beside_at backwards (text_of a s) i ≡ beside_at backwards (text_of b s) i
beside_same false a b s i = refl
beside_same true a b s i = refl

-- nor on what is shown of the input
pub beside_kept : (backwards : Bool) (terminator : ℕ) (s t : Searched) (i : ℕ) → Keeps s t → beside_at backwards (text_of 0 t) i ≡ beside_at backwards (text_of terminator s) i
beside_kept false terminator s t i k = ahead_kept s t i k
beside_kept true terminator s t i k = behind_kept s t i k

pub kept_then : (a b c : Searched) → Keeps a b → Keeps b c → Keeps a c
kept_then a b c x y = record {
  content = y.content ∙ x.content;
  span = y.span ∙ x.span;
  slice = y.slice ∙ x.slice;
  anchored = y.anchored ∙ x.anchored;
  earliest = y.earliest ∙ x.earliest;
}
