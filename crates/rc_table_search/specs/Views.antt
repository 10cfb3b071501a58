-- Tables of a DFA: what they say of its states.
use Rattle.std.specs.Prelude.{◌≡◌, ◌≢◌, ◌⊎◌, ℕ, ◌<◌, ◌≤◌, ◌+◌, Bool, true, false, is_some, List, length, Option, Some, None, nat_le, ◌&&◌}
use Rattle.rc_text.specs.declared.types.Anchored.{Anchored}
use Rattle.rc_program.specs.Program.{place_at}
use Rattle.rc_program.specs.Answer.{pattern_at}
use Rattle.rc_determinize.specs.States.{State}
use Rattle.rc_program.specs.Looks.{Side}
use Rattle.rc_dfa.specs.Machine.{Alphabet, bytes, symbols, Machine, Leads, Begins, IsAsked, is_dead}
use Rattle.rc_dfa.specs.Runs.{MayRead, MayReadSide}
use Rattle.rc_dfa.specs.Symbols.{LeadsTagged, BeginsTagged}
use Rattle.rc_dfa.specs.declared.symbols.Symbol.{Symbol}
use Rattle.rc_table_search.specs.Walks.{Reaches, cell_by, dead, first_of, has_died, met, quit, row_of, skip}

-- What a table says in one direction, with a cache that may hold some of its rows.
pub record View (Cache : Type 0) : Type 1 where
  -- It is a table of this machine.
  pub IsOf : Machine → Type 0
  -- This is what its machines read.
  pub alphabet : Alphabet
  -- The cache was made for it.
  pub IsCache : Cache → Type 0
  -- This is one of its rows.
  pub IsRow : Cache → ℕ → Type 0
  -- By this machine, the row is that of the state.
  pub HasState : Cache → Machine → ℕ → State → Type 0
  -- By this machine, the note stands for the find.
  pub IsNote : Machine → ℕ → ℕ → Type 0
  -- Each state has a row, so that a run may leap.
  pub leaps : Bool
  -- From the first cache to the second, at most this many states were added.
  pub Spends : Cache → Cache → ℕ → Type 0
  -- A search that found the first cache and left the second added at most this many states, and may
  -- have given up, out of memory or not.
  pub GivesUp : Cache → Cache → ℕ → Bool → Type 0
  -- How many times all rows were dropped.
  pub era : Cache → ℕ

-- Each row of the first cache has no other states in the second.
pub record Holds {C : Type 0} (v : View C) (old new : C) : Type 0 where
  pub is_row : (row : ℕ) → v.IsRow old row → v.IsRow new row
  pub has_state : (m : Machine) (row : ℕ) (s : State) → v.IsRow old row → v.HasState new m row s → v.HasState old m row s

-- It tells what its machines read. What is spent adds up, and rows are held while the era lasts.
pub record IsLawful {C : Type 0} (v : View C) : Type 0 where
  pub reads : (m : Machine) → v.IsOf m → m.alphabet ≡ v.alphabet
  pub spends_nothing : (a : C) (n : ℕ) → v.Spends a a n
  pub spends_both : (a b c : C) (n k : ℕ) → v.Spends a b n → v.Spends b c k → v.Spends a c (n + k)
  pub spends_within : (a b : C) (n k : ℕ) → n ≤ k → v.Spends a b n → v.Spends a b k
  pub gives_up_later : (a b c : C) (n k : ℕ) (memory : Bool) → v.Spends a b n → v.GivesUp b c k memory → v.GivesUp a c (n + k) memory
  pub gives_up_within : (a b : C) (n k : ℕ) (memory : Bool) → n ≤ k → v.GivesUp a b n memory → v.GivesUp a b k memory
  pub era_rises : (a b : C) (n : ℕ) → v.Spends a b n → v.era a ≤ v.era b
  pub holds : (a b : C) (n : ℕ) → v.Spends a b n → v.IsCache a → v.era b ≡ v.era a → v.era a < 18446744073709551615 → Holds v a b

-- CELLS

-- The cell leads to the state. If no state has a row but those from which something goes on or before
-- which something was found, the cell `DEAD` has none.
pub record LeadsTo (HasRow : ℕ → State → Type 0) (leaps : Bool) (cell : ℕ) (t : State) : Type 0 where
  pub is_read : cell ≢ quit
  pub died : has_died cell ≡ is_dead t
  pub found : nat_le met cell ≡ is_some t.matched
  pub in_row : (leaps ≡ true) ⊎ (cell ≢ dead) → HasRow (row_of cell) t

-- The byte leads where the cell says, or may not be read.
abbrev pub Knows : {C : Type 0} → View C → C → Machine → Option ℕ → (State → Type 0) → ℕ → Type 0
Knows v c m beside To cell =
    ((cell ≡ quit) × (¬ MayRead m beside))
    ⊎ (MayRead m beside × ((t : State) × To t × LeadsTo (v.HasState c m) v.leaps cell t))

-- A search that is anchored so begins where the cell says, beside this byte or an end.
pub record IsStart {C : Type 0} (v : View C) (c : C) (anchored : Anchored) (beside : Option ℕ) (cell : ℕ) : Type 0 where
  pub is_row : has_died cell ≡ false → v.IsRow c (row_of cell)
  pub begins : (m : Machine) → v.IsOf m → IsAsked m anchored → Knows v c m beside (Begins m anchored beside) cell

-- From the row of the first cache, the byte leads where the cell says, by the second.
pub record IsStep {C : Type 0} (v : View C) (old new : C) (row b cell : ℕ) : Type 0 where
  pub is_row : has_died cell ≡ false → v.IsRow new (row_of cell)
  pub leads : (m : Machine) (s : State) → v.HasState old m row s → Knows v new m (Some b) (Leads m s (Some b)) cell

-- SYMBOLS

abbrev pub reads_symbols : Alphabet → Bool
reads_symbols bytes = false
reads_symbols symbols = true

-- The byte is read with its symbol, and not alone.
abbrev pub needs_symbol : Alphabet → ℕ → Bool
needs_symbol a b = nat_le 128 b && reads_symbols a

-- A search that is anchored so begins where the cell says, beside this symbol.
pub record IsStartBeside {C : Type 0} (v : View C) (backwards : Bool) (c : C) (anchored : Anchored) (y : Symbol) (cell : ℕ) : Type 0 where
  pub is_row : has_died cell ≡ false → v.IsRow c (row_of cell)
  pub begins : (m : Machine) → v.IsOf m → IsAsked m anchored → (s : State) × BeginsTagged backwards m anchored y s × LeadsTo (v.HasState c m) v.leaps cell s

-- From the row of the first cache, the symbol leads where the cell says, by the second.
pub record IsStepOver {C : Type 0} (v : View C) (backwards : Bool) (old new : C) (row : ℕ) (y : Symbol) (cell : ℕ) : Type 0 where
  pub is_row : has_died cell ≡ false → v.IsRow new (row_of cell)
  pub leads : (m : Machine) (s : State) → v.HasState old m row s → (t : State) × LeadsTagged backwards m s y t × LeadsTo (v.HasState new m) v.leaps cell t

-- What stands on the side leads where the cell says, or may not be read.
abbrev pub KnowsSide : {C : Type 0} → View C → C → Machine → Side → (State → Type 0) → ℕ → Type 0
KnowsSide v c m side To cell =
    ((cell ≡ quit) × (¬ MayReadSide m.alphabet m side))
    ⊎ (MayReadSide m.alphabet m side × ((t : State) × To t × LeadsTo (v.HasState c m) v.leaps cell t))

-- THE END

-- This is found at the end of what the search sees.
abbrev pub IsEnd : {C : Type 0} → View C → C → ℕ → Option ℕ → Type 0
IsEnd v c row found = (m : Machine) (s : State) → v.HasState c m row s → (t : State) × Leads m s None t × (found ≡ t.matched)

-- RUNS

-- Only what no row depends on was changed.
pub record IsSame {C : Type 0} (v : View C) (old new : C) : Type 0 where
  pub cache : v.IsCache old → v.IsCache new
  pub is_row : (row : ℕ) → v.IsRow old row → v.IsRow new row
  pub has_state : (m : Machine) (row : ℕ) (s : State) → v.HasState old m row s → v.HasState new m row s
  pub spends : (begun : C) (n : ℕ) → v.Spends begun old n → v.Spends begun new n

-- By cells that the table has, the bytes of the piece up to the place lead from the first row to the
-- second. The row at which something was found last is noted.
pub record IsRun {C : Type 0} (v : View C) (backwards : Bool) (c : C) (piece : List ℕ) (start row place to : ℕ) (noted : Option (ℕ × ℕ)) : Type 0 where
  pub cells : List ℕ
  pub classes : List ℕ
  pub told : (m : Machine) (r b : ℕ) (s : State) → v.HasState c m r s → b < 256 → (v.leaps ≡ false → cell_by cells classes r b ≢ skip) →
      Knows v c m (Some b) (Leads m s (Some b)) (cell_by cells classes r b)
  pub reaches : (m : Machine) (s : State) → v.HasState c m row s → Reaches (record {
    backwards = backwards;
    leaps = v.leaps;
    cells = cells;
    classes = classes;
    piece = piece;
    start = start;
    from = first_of backwards (length piece);
    first = row;
    before = None;
  }) place to noted

-- FINDS

-- The pattern of a find: forwards it is a match place, backwards the number of an entry.
abbrev pub IsPatternOf : Bool → Machine → ℕ → ℕ → Type 0
IsPatternOf false m found pattern = pattern_at (place_at m.setting.places found) ≡ pattern
IsPatternOf true m found pattern = found ≡ pattern

-- The notes stand for what was found last.
abbrev pub IsNoted : {C : Type 0} → View C → Machine → Option (ℕ × ℕ) → Option (ℕ × ℕ) → Type 0
IsNoted v m None found = found ≡ None
IsNoted v m (Some n) found = (k : ℕ) × v.IsNote m n.0 k × (found ≡ Some (k, n.1))

-- This was found last: on the way to the noted row, or else before.
abbrev pub IsFound : {C : Type 0} → View C → C → Machine → Option (ℕ × ℕ) → Option (ℕ × ℕ) → Option (ℕ × ℕ) → Type 0
IsFound v c m None before found = found ≡ before
IsFound v c m (Some n) before found = (s : State) × (k : ℕ) × v.HasState c m n.0 s × (s.matched ≡ Some k) × (found ≡ Some (k, n.1))
