-- Only proofs use this file.
-- DFA construction: a table that is being built.
use Rattle.std.specs.Prelude.{◌≡◌, ◌⊎◌, ℕ, ◌+◌, ◌*◌, ◌<◌, ◌≤◌, Bool, List, length, Option, Some, None, slice_get, slice_index_or, IfSome}
use Rattle.rc_text.specs.declared.types.Anchored.{Anchored}
use Rattle.rc_determinize.specs.Sides.{IsReadable}
use Rattle.rc_determinize.specs.States.{State}
use Rattle.rc_dfa.specs.Machine.{Machine, IsMachine, Leads, Begins, IsAsked, is_idle}
use Rattle.rc_dense_dfa.specs.declared.names.Names.{Names}
use Rattle.rc_dense_dfa.specs.declared.maker.Maker.{Maker}
use Rattle.rc_dense_dfa.specs.Cells.{quit}
use Rattle.rc_dense_dfa.specs.Tables.{marks, code_of, mode_of, dead_state}
use Rattle.rc_dense_dfa.specs.Makes.{AreStates, weight_by}

-- The states so far: their rows are below the marks, and they weigh no more than the limit.
pub record AreNamed (m : Machine) (n : Names) : Type 0 where
  pub machine : IsMachine m
  pub are_states : AreStates m n.states
  pub wide : 0 < n.width
  pub small : length n.states * n.width < 2305843009213693952
  pub light : n.weight ≤ 18446744073709551616
  pub weighed : IfSome n.limit (λ l. (n.weight ≡ weight_by m n.width n.states) × (n.weight ≤ l))

-- States were added, and nothing else was changed.
pub record Grows (old new : Names) : Type 0 where
  pub width : new.width ≡ old.width
  pub limit : new.limit ≡ old.limit
  pub kept : (id : ℕ) (s : State) → slice_get old.states id ≡ Some s → slice_get new.states id ≡ Some s

-- The cell names the state, for rows of so many cells.
abbrev pub NamesBy : ℕ → List State → ℕ → State → Type 0
NamesBy width states cell s = (id : ℕ) × (slice_get states id ≡ Some s) × (cell ≡ id * width + marks s)

-- The cell names a state to which the byte leads; or it is `QUIT`, and the byte may not be read.
abbrev pub IsCell : Machine → ℕ → List State → Option ℕ → (State → Type 0) → ℕ → Type 0
IsCell m width states beside To cell =
    ((cell ≡ quit) × (¬ IsReadable m.setting.needs beside))
    ⊎ (IsReadable m.setting.needs beside × ((t : State) × To t × NamesBy width states cell t))

pub record IsMaker (m : Machine) (k : Maker) : Type 0 where
  pub named : AreNamed m k.names
  pub scratch : k.scratch ≡ length m.setting.places

-- The cells are in rows. Each has the property, by the number of its row and its column.
pub record AreFilled (columns : ℕ) (Holds : ℕ → ℕ → ℕ → Type 0) (cells : List ℕ) : Type 0 where
  pub told : (row column : ℕ) → column < columns → row * columns + column < length cells → Holds row column (slice_index_or cells (row * columns + column) quit)

-- The cell of the state of this number and of the class of this number.
abbrev pub IsCellOf : Machine → List ℕ → List State → ℕ → ℕ → ℕ → Type 0
IsCellOf m samples states id class cell = (s : State) (b : ℕ) → slice_get states id ≡ Some s → slice_get samples class ≡ Some b →
    IsCell m (length samples) states (Some b) (Leads m s (Some b)) cell

-- The byte beside the start of a search: one of the class, or none in the last column.
abbrev pub IsBeside : List ℕ → ℕ → Option ℕ → Type 0
IsBeside samples column None = column ≡ length samples
IsBeside samples column (Some b) = slice_get samples column ≡ Some b

-- The cell of this kind of anchoring, by its number, and of what is beside the start.
abbrev pub IsStartOf : Machine → List ℕ → List State → ℕ → ℕ → ℕ → Type 0
IsStartOf m samples states mode column cell = (anchored : Anchored) (beside : Option ℕ) → mode_of anchored ≡ mode → IsAsked m anchored → IsBeside samples column beside →
    IsCell m (length samples) states beside (Begins m anchored beside) cell

-- The codes of what is found at the end, for the first states.
abbrev pub AreEnds : Machine → List State → List ℕ → Type 0
AreEnds m states ends = (id : ℕ) (s : State) → id < length ends → slice_get states id ≡ Some s →
    (t : State) × Leads m s None t × (slice_get ends id ≡ Some (code_of t.matched))

-- The cells of the rows before this one, with what is found at their ends, and so many cells of
-- this row.
pub record AreRows (m : Machine) (samples : List ℕ) (states : List State) (row column : ℕ) (cells : List ℕ) : Type 0 where
  pub filled : AreFilled (length samples) (IsCellOf m samples states) cells
  pub len : length cells ≡ row * length samples + column
  pub within : row * length samples + column ≤ length states * length samples

-- The start cells of the kinds of anchoring before this one, and so many of this one.
pub record AreStarts (m : Machine) (samples : List ℕ) (states : List State) (mode column : ℕ) (starts : List ℕ) : Type 0 where
  pub filled : AreFilled (length samples + 1) (IsStartOf m samples states) starts
  pub len : length starts ≡ mode * (length samples + 1) + column

-- The code of what is found at the end, from the state of this number on.
abbrev pub IsEndOf : Machine → List State → ℕ → ℕ → Type 0
IsEndOf m states number code = (s : State) → slice_get states number ≡ Some s → (t : State) × Leads m s None t × (code ≡ code_of t.matched)

-- The codes of what was found before, for the first states.
abbrev pub AreTells : List State → List ℕ → Type 0
AreTells states tells = (id : ℕ) (s : State) → id < length tells → slice_get states id ≡ Some s → slice_get tells id ≡ Some (code_of s.matched)

-- Whether a search may rest, in the first states.
abbrev pub AreIdles : List State → List Bool → Type 0
AreIdles states idles = (id : ℕ) (s : State) → id < length idles → slice_get states id ≡ Some s → slice_get idles id ≡ Some (is_idle s)

-- The parts of a table: every state has its row, and every kind of anchoring its start cells.
pub record AreParts (m : Machine) (samples : List ℕ) (limit : Option ℕ) (n : Names) (starts cells ends tells : List ℕ) (idles : List Bool) : Type 0 where
  pub are_named : AreNamed m n
  pub width : n.width ≡ length samples
  pub limited : n.limit ≡ limit
  pub first : slice_get n.states 0 ≡ Some dead_state
  pub are_starts : AreStarts m samples n.states (length m.entries + 2) 0 starts
  pub are_rows : AreRows m samples n.states (length n.states) 0 cells
  pub are_ends : AreEnds m n.states ends
  pub all_ends : length ends ≡ length n.states
  pub are_tells : AreTells n.states tells
  pub all_tells : length tells ≡ length n.states
  pub are_idles : AreIdles n.states idles
  pub all_idles : length idles ≡ length n.states
