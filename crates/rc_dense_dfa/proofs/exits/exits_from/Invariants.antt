use Rattle.std.proofs.Common.{◌≡◌, ℕ, ◌<◌, false}
use Rattle.rc_dense_dfa.specs.Cells.{dead}
use Rattle.rc_dense_dfa.specs.Exits.{Stays, is_exit}
use Rattle.rc_dense_dfa.proofs.exits.exits_from.Given as goal

abbrev pub invariant-loop-byte : goal.invariant-loop-byte
invariant-loop-byte l = (b : ℕ) → b < l.byte → is_exit l.exits b ≡ false → Stays dead l.classes l.cells l.row b
