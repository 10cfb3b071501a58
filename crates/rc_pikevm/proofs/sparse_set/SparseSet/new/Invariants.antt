use Rattle.std.proofs.Common.{◌≡◌, vec_len, vec_capacity}
use Rattle.rc_pikevm.proofs.sparse_set.SparseSet.new.Given as goal

abbrev pub invariant-loop : goal.invariant-loop
invariant-loop l = (vec_len l.sparse ≡ l.counter) × (vec_capacity l.sparse ≡ l.capacity)
