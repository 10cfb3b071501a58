use Rattle.std.proofs.Common.{◌≡◌, ◌-◌, ◌*◌, ℕ, length, slice_index_or}
use Rattle.rc_dense_dfa.specs.Cells.{dead}
use Rattle.rc_dense_dfa.specs.Exits.{AreExitsOf}
use Rattle.rc_dense_dfa.specs.declared.exits.Exits.TheVariants.{Many}
use Rattle.rc_dense_dfa.proofs.exits.exits_of.Given as goal

abbrev pub invariant-loop-row : goal.invariant-loop-row
invariant-loop-row l = record {
  at : l.row ≡ length l.exits.items * l.width;
  told : (k : ℕ) → AreExitsOf dead l.classes l.cells (k * l.width) (slice_index_or l.exits.items k Many);
}

abbrev pub decreases-loop-row : goal.decreases-loop-row
decreases-loop-row l = length l.cells - l.row
