-- Only proofs use this file.
-- Cache: how its states change.
use Rattle.std.specs.Prelude.{◌≡◌, ℕ, ◌+◌, ◌*◌, ◌<◌, ◌≤◌, Bool, true, false, List, [], ◌∷◌, ◌++◌, length, min}
use Rattle.rc_text.specs.declared.types.Anchored.{Anchored}
use Rattle.rc_determinize.specs.States.{State}
use Rattle.rc_dfa.specs.Machine.{IsAsked}
use Rattle.rc_lazy_dfa.specs.Stores.{Frame, Grows, IsRow, Names, IsCell, IsColumn, LeadsByLetter, BeginsByLetter, mode_of, weight_of}
use Rattle.rc_lazy_dfa.specs.declared.letters.Letter.{Letter}
use Rattle.rc_lazy_dfa.specs.declared.store.Store.{Store}
use Rattle.rc_lazy_dfa.specs.declared.store.Named.{Named}

-- All states are dropped, and that is counted.
pub record IsReset (old new : Store) : Type 0 where
  pub states : new.states ≡ []
  pub width : new.width ≡ old.width
  pub capacity : new.capacity ≡ old.capacity
  pub clears : new.clears ≡ min (old.clears + 1) 18446744073709551615
  pub rises : old.clears ≤ new.clears

-- Only cells are written.
pub record Writes (old new : Store) : Type 0 where
  pub states : new.states ≡ old.states
  pub width : new.width ≡ old.width
  pub capacity : new.capacity ≡ old.capacity
  pub used : new.used ≡ old.used
  pub clears : new.clears ≡ old.clears

-- There is room: nothing was done for it, or all states were dropped.
abbrev pub HasRoom : Store → Store → ℕ → Bool → Type 0
HasRoom old new weight true = (new ≡ old) × (old.used + weight ≤ old.capacity)
HasRoom old new weight false = IsReset old new × (new.used + weight ≤ new.capacity) × (old.capacity < old.used + weight)

-- The state was added, in this row.
pub record Adds (f : Frame) (old new : Store) (s : State) (row : ℕ) : Type 0 where
  pub states : new.states ≡ old.states ++ s ∷ []
  pub at : row ≡ length old.states * f.width
  pub width : new.width ≡ old.width
  pub capacity : new.capacity ≡ old.capacity
  pub used : new.used ≡ old.used + weight_of f.width s
  pub clears : new.clears ≡ old.clears

-- The cell leads to the state, and if it says so, all earlier rows were kept.
pub record IsNamed (f : Frame) (old new : Store) (s : State) (n : Named) : Type 0 where
  pub names : Names f.width new.states n.cell s
  pub grows : n.kept ≡ true → Grows old.states new.states

-- The cell of the row and column: there is such a row.
pub record HasCell (f : Frame) (states : List State) (row column cell : ℕ) : Type 0 where
  pub id : ℕ
  pub there : id < length states
  pub row_is : row ≡ id * f.width
  pub inside : column < f.width
  pub cell_is : (s : State) (letter : Letter) → IsRow f.width states row s → IsColumn f letter column →
      IsCell f states letter (LeadsByLetter f s letter) cell

-- The start cell of the kind of anchoring and the column: there is such a start.
pub record HasStart (f : Frame) (states : List State) (mode column cell : ℕ) : Type 0 where
  pub there : mode < length f.machine.entries + 2
  pub inside : column < f.width
  pub cell_is : (anchored : Anchored) (letter : Letter) → mode_of anchored ≡ mode → IsAsked f.machine anchored → IsColumn f letter column →
      IsCell f states letter (BeginsByLetter f anchored letter) cell
