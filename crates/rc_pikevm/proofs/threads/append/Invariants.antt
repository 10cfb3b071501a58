use Rattle.std.proofs.Common.{◌≡◌, ◌++◌, take, vec_capacity}
use Rattle.rc_pikevm.proofs.threads.append.Given as goal

abbrev pub invariant-loop-cell : goal.invariant-loop-cell
invariant-loop-cell l = (l.cells.items ≡ l.fn.cells.items ++ take l.cell-index l.row) × (vec_capacity l.cells ≡ vec_capacity l.fn.cells)
