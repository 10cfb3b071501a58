use Rattle.rc_dense_dfa.specs.Cells.{dead}
use Rattle.rc_dense_dfa.specs.Exits.{AreLeaps}
use Rattle.rc_dense_dfa.proofs.leaps.leaps_of.Given as goal

abbrev pub invariant-loop-exits : goal.invariant-loop-exits
invariant-loop-exits l = AreLeaps dead l.classes l.cells l.leaps.items
