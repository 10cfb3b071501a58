-- Cells that are marked one after another.
use Rattle.std.proofs.Common.{◌≡◌, ℕ, ◌≤◌, List, slice_index_or}
use Rattle.rc_dense_dfa.specs.Cells.{quit, AreMarked}

-- those before this one may be marked, and the others are as they were
pub record IsUnderWay (cells now : List ℕ) (index : ℕ) : Type 0 where
  pub marked : AreMarked cells now
  pub rest : (k : ℕ) → index ≤ k → slice_index_or now k quit ≡ slice_index_or cells k quit
