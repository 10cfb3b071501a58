-- Conversions: the byte program that places in code are.
use Rattle.std.specs.Prelude.{◌≡◌, ℕ, ◌+◌, ◌<◌, ◌≤◌, Bool, true, false, ◌&&◌, List, [], ◌∷◌, ◌++◌, length, map, drop, max, nat_eq}
use Rattle.std.specs.List.{AllByRecursion}
use Rattle.rc_pattern.specs.Re.{Range}
use Rattle.rc_pattern.specs.Meaning.{byte_range}
use Rattle.rc_program.specs.Program.{Place, choice, byte, branch, guard, slot, accept}
use Rattle.rc_utf8.specs.Bytes.{Sequence, Ways, Tree, size, tree_ways, tree_block}
use Rattle.rc_utf8.specs.declared.place.ByteWay.{ByteWay}
use Rattle.rc_utf8.specs.declared.place.BytePlace as code
use Rattle.rc_utf8.specs.declared.program.sequence.Sequence as code_sequence
use Rattle.rc_utf8.specs.declared.place.BytePlace.TheVariants as code_variants

abbrev pub way_of : ByteWay → Range × ℕ
way_of w = ((w.first, w.last), w.next)

abbrev pub ways_of : List ByteWay → Ways
ways_of = map way_of

abbrev pub place_of : code.BytePlace → Place
place_of (code_variants.Choice first second) = choice (first ∷ second ∷ [])
place_of (code_variants.Pass next) = choice (next ∷ [])
place_of code_variants.Dead = choice []
place_of (code_variants.Byte b next) = byte ((b, b) ∷ []) next
place_of (code_variants.Bytes rs next) = byte (map byte_range rs.items) next
place_of (code_variants.Branch ws) = branch (ways_of ws.items)
place_of (code_variants.Guard l next) = guard l next
place_of (code_variants.Slot k next) = slot k next
place_of (code_variants.Accept p) = accept p

abbrev pub places_of : List code.BytePlace → List Place
places_of = map place_of

-- The sequence that one in code is.
abbrev pub sequence_of : code_sequence.Sequence → Sequence
sequence_of s = (map byte_range s.ranges, s.rest)

abbrev pub sequences_of : List code_sequence.Sequence → List Sequence
sequences_of = map sequence_of

-- How many continuation bytes a sequence ends with at most.
abbrev pub longest : List Sequence → ℕ
longest [] = 0
longest (s ∷ ss) = max s.1 (longest ss)

-- The rest of sequences after so many ranges.
abbrev pub left_at : ℕ → Sequence → Sequence
left_at level s = (drop level s.0, s.1)

abbrev pub all_left_at : ℕ → List Sequence → List Sequence
all_left_at level = map (left_at level)

-- The sequence has more than so many ranges, but no more than 4, and at most `count` continuation
-- bytes after them.
pub record IsDeep (level count : ℕ) (s : Sequence) : Type 0 where
  pub ranges : level < length s.0
  pub few : length s.0 ≤ 4
  pub rest : s.1 ≤ count

-- The ranges begin with r, and others follow.
abbrev pub begins_with : Range → List Range → Bool
begins_with r [] = false
begins_with r (q ∷ []) = false
begins_with r (q ∷ p ∷ ps) = nat_eq q.0 r.0 && nat_eq q.1 r.1

abbrev pub AllBegin : Range → List Sequence → Type 0
AllBegin r ss = AllByRecursion (λ (s : Sequence). begins_with r s.0 ≡ true) ss

-- No sequence is left, or the first one doesn't begin so.
abbrev pub IsNext : Range → List Sequence → Type 0
IsNext r [] = Unit {0}
IsNext r (s ∷ ss) = begins_with r s.0 ≡ false

-- Of a tree's ways and places, which begin at `start`, these are added, without those of the tree
-- that is left, which begin at `behind`.
pub record Lays (count tail next : ℕ) (tree left : Tree) (start behind : ℕ) (ways more_ways : List ByteWay) (blocks more_blocks : List code.BytePlace) : Type 0 where
  pub sized : behind + size left ≡ start + size tree
  pub ways_laid : ways_of more_ways ++ tree_ways count tail next left behind ≡ ways_of ways ++ tree_ways count tail next tree start
  pub blocks_laid : places_of more_blocks ++ tree_block count tail next left behind ≡ places_of blocks ++ tree_block count tail next tree start
