-- Lazy determinization: the states of one direction.
use Rattle.std.specs.Prelude.{◌≡◌, ℕ, ◌*◌, ◌<◌, [], length}
use Rattle.rc_lazy_dfa.specs.Stores.{Frame, Held}
use Rattle.rc_lazy_dfa.specs.declared.store.Store.{Store}
use Rattle.rc_lazy_dfa.specs.declared.half.Half.{Half}

-- It was made for this machine.
pub record IsHalf (f : Frame) (h : Half) : Type 0 where
  pub held : Held f h.store
  pub scratch : h.scratch ≡ length f.machine.setting.places

-- It has no states yet.
pub record IsFresh (capacity : ℕ) (h : Half) : Type 0 where
  pub states : h.store.states ≡ []
  pub clears : h.store.clears ≡ 0
  pub capacity_is : h.store.capacity ≡ capacity

-- The row of some state.
pub record IsPlace (f : Frame) (s : Store) (row : ℕ) : Type 0 where
  pub id : ℕ
  pub there : id < length s.states
  pub row_is : row ≡ id * f.width
