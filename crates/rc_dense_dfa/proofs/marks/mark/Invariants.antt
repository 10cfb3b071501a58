use Rattle.rc_dense_dfa.proofs.SkipLemmas.{IsUnderWay}
use Rattle.rc_dense_dfa.proofs.marks.mark.Given as goal

abbrev pub invariant-loop-cell : goal.invariant-loop-cell
invariant-loop-cell l = IsUnderWay l.fn.cells.items l.cell-items l.cell-index
