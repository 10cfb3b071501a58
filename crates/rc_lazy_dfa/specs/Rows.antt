-- Only proofs use this file.
-- Rows of a cache, as runs read them.
use Rattle.std.specs.Prelude.{◌≡◌, ℕ, List}
use Rattle.rc_determinize.specs.States.{State}
use Rattle.rc_lazy_dfa.specs.Stores.{Frame, Held, IsRow}
use Rattle.rc_lazy_dfa.specs.declared.store.Store.{Store}

-- By these classes of the bytes, the cache was made for some frame, and the row is that of a state.
pub record IsRowOf (s : Store) (classes : List ℕ) (row : ℕ) : Type 0 where
  pub frame : Frame
  pub held : Held frame s
  pub same : classes ≡ frame.classes
  pub state : State
  pub in_row : IsRow frame.width s.states row state
