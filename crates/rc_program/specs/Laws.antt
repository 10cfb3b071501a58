-- Laws that tie programs to patterns: what the walks of a program spell, and that a program is
-- closed and small.
use Rattle.std.specs.Prelude.{◌≡◌, ◌↔◌, ℕ, ◌+◌, ◌*◌, ◌<◌, ◌≤◌, Bool, List, [], ◌∷◌, ◌++◌, IsTrue, Some, None, All, map, length}
use Rattle.rc_pattern.specs.Re.{Re, Range}
use Rattle.std.specs.List.{range_with_len}
use Rattle.rc_pattern.specs.WellFormed.{HasBounds, group_numbers, group_count}
use Rattle.rc_pattern.specs.Weight.{weight, list_weight}
use Rattle.rc_pattern.specs.Properties.{minimum_len, maximum_len, begins_with_look, ends_with_look}
use Rattle.rc_pattern.specs.declared.hir.Look.{Look}
use Rattle.rc_walks.specs.Walks.{Pair, IsIn, IsWalk, IsFirstWalk, HasNoWalk}
use Rattle.rc_program.specs.Text.{Text, holds}
use Rattle.rc_program.specs.Program.{Place, choice, byte, branch, scalar, guard, slot, accept, place_at, ways, is_match_place, program, entry, without_groups, shown}
use Rattle.rc_program.specs.Spells.{Spells, SpelledBy}
use Rattle.rc_program.specs.Answer.{last_of}

-- A walk from i to the match place of pattern p, at j.
pub record IsWalkOf (hs : List Re) (t : Text) (hi p i j : ℕ) (w : List Pair) : Type 0 where
  pub is_walk : IsWalk (ways (program hs) t hi) (λ n. IsTrue (is_match_place None (place_at (program hs) n.0))) [] ((0, i) ∷ []) w
  pub pattern : place_at (program hs) (last_of w).0 ≡ accept p
  pub position : (last_of w).1 ≡ j

-- Some walk of pattern p leads from i to j exactly if the pattern spells that.
abbrev pub ProgramLaw : Type 0
ProgramLaw = (hs : List Re) (t : Text) (hi p i j : ℕ) → All HasBounds hs → j ≤ hi →
    ((w : List Pair) × IsWalkOf hs t hi p i j w) ↔ SpelledBy t 0 hs p i j

-- The numbers of places that a place names.
abbrev pub targets : Place → List ℕ
targets (choice ns) = ns
targets (byte rs n) = n ∷ []
targets (branch ts) = map (λ (t : Range × ℕ). t.1) ts
targets (scalar rs n) = n ∷ []
targets (guard l n) = n ∷ []
targets (slot k n) = n ∷ []
targets (accept p) = []

-- Each place that is named exists.
abbrev pub IsClosed : List Place → Type 0
IsClosed places = All (λ q. All (λ n. n < length places) (targets q)) places

-- How many places of a byte program a place becomes at most: a range of scalars splits into at most
-- 21 sequences of at most 4 ranges of bytes each.
abbrev pub place_weight : Place → ℕ
place_weight (scalar rs n) = 1 + 84 * length rs
place_weight _ = 1

abbrev pub heaviness : List Place → ℕ
heaviness [] = 0
heaviness (q ∷ qs) = place_weight q + heaviness qs

-- The groups are numbered 1, 2, .. in the order of their opening.
abbrev pub IsNumbered : Re → Type 0
IsNumbered h = group_numbers h ≡ range_with_len 1 (group_count h)

-- How many groups the patterns have.
abbrev pub all_groups : List Re → ℕ
all_groups [] = 0
all_groups (h ∷ hs) = group_count h + all_groups hs

-- How many slots the patterns have: two for each pattern, and two for each group.
abbrev pub slot_count : List Re → ℕ
slot_count hs = 2 * length hs + 2 * all_groups hs

-- The law of the program of each list of patterns.
pub record ClosedLaw : Type 0 where
  -- Place 0, at which it is entered, exists.
  pub rooted : (hs : List Re) → 0 < length (program hs)
  pub closed : (hs : List Re) → IsClosed (program hs)
  pub leads_inside : (hs : List Re) (t : Text) (hi : ℕ) (n m : Pair) → IsIn m (ways (program hs) t hi n) → m.0 < length (program hs)
  pub entered : (hs : List Re) (p : ℕ) → entry hs p < length (program hs)
  pub accepts : (hs : List Re) (n p : ℕ) → place_at (program hs) n ≡ accept p → p < length hs
  -- A slot of a group is one of the patterns' slots, and none of the two of each pattern.
  pub names_slots : (hs : List Re) → All IsNumbered hs → (n k m : ℕ) → place_at (program hs) n ≡ slot k m →
      (2 * length hs ≤ k) × (k < slot_count hs)
  pub light : (hs : List Re) → All HasBounds hs → heaviness (program hs) ≤ list_weight hs
  pub small : (hs : List Re) → All HasBounds hs → length (program hs) ≤ list_weight hs

-- The law of patterns without their groups.
pub record GroupLaw : Type 0 where
  pub spells : (t : Text) (h : Re) (i j : ℕ) → Spells t (without_groups h) i j ↔ Spells t h i j
  pub bounded : (h : Re) → HasBounds h → HasBounds (without_groups h)
  pub lighter : (h : Re) → weight (without_groups h) ≤ weight h
  pub least : (h : Re) → minimum_len (without_groups h) ≡ minimum_len h
  pub bare : (h : Re) → group_numbers (without_groups h) ≡ []
  pub shown_spells : (t : Text) (groups : Bool) (n : ℕ) (hs : List Re) (p i j : ℕ) →
      SpelledBy t n (shown groups hs) p i j ↔ SpelledBy t n hs p i j
  pub shown_length : (groups : Bool) (hs : List Re) → length (shown groups hs) ≡ length hs
  pub shown_lighter : (groups : Bool) (hs : List Re) → list_weight (shown groups hs) ≤ list_weight hs

-- The pair's place is a choice.
abbrev pub IsChoice : List Place → Pair → Type 0
IsChoice places n = (ns : List ℕ) × (place_at places n.0 ≡ choice ns)

-- A walk may end at the match place of pattern p.
abbrev pub EndsFor : List Place → ℕ → Pair → Type 0
EndsFor places p n = IsTrue (is_match_place (Some p) (place_at places n.0))

-- The entry of a pattern stands for the root if only its walks count.
pub record EntryLaw : Type 0 where
  -- Its first walk from the root is that from its entry, after choices alone.
  pub first : (hs : List Re) (t : Text) (hi p x : ℕ) (v : List Pair) → p < length hs →
      IsFirstWalk (ways (program hs) t hi) (EndsFor (program hs) p) [] ((entry hs p, x) ∷ []) v →
      (u : List Pair) × All (IsChoice (program hs)) u × IsFirstWalk (ways (program hs) t hi) (EndsFor (program hs) p) [] ((0, x) ∷ []) (u ++ v)
  pub none : (hs : List Re) (t : Text) (hi p x : ℕ) → p < length hs →
      HasNoWalk (ways (program hs) t hi) (EndsFor (program hs) p) [] ((entry hs p, x) ∷ []) →
      HasNoWalk (ways (program hs) t hi) (EndsFor (program hs) p) [] ((0, x) ∷ [])
  -- Walks from the entry are its walks.
  pub own : (hs : List Re) (t : Text) (hi p x : ℕ) (w : List Pair) → p < length hs →
      IsWalk (ways (program hs) t hi) (λ n. IsTrue (is_match_place None (place_at (program hs) n.0))) [] ((entry hs p, x) ∷ []) w →
      place_at (program hs) (last_of w).0 ≡ accept p

-- The law of the properties of a pattern, for each span that it spells.
pub record PropertyLaw : Type 0 where
  -- It has a least length, and the span is no shorter.
  pub least : (t : Text) (h : Re) (i j : ℕ) → Spells t h i j → (n : ℕ) × (minimum_len h ≡ Some n) × (i + n ≤ j)
  -- If it has a greatest length, the span is no longer.
  pub greatest : (t : Text) (h : Re) (i j n : ℕ) → Spells t h i j → maximum_len h ≡ Some n → j ≤ i + n
  -- The assertions of its prefix set hold at the start of the span.
  pub begins : (t : Text) (h : Re) (i j : ℕ) (l : Look) → Spells t h i j → IsTrue (begins_with_look h l) → IsTrue (holds t l i)
  -- Those of its suffix set hold at its end.
  pub ends : (t : Text) (h : Re) (i j : ℕ) (l : Look) → Spells t h i j → IsTrue (ends_with_look h l) → IsTrue (holds t l j)
