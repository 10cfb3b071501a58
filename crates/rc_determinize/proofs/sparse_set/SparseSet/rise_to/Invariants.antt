use Rattle.rc_determinize.proofs.RiseLemmas.{AreRisen}
use Rattle.rc_determinize.proofs.sparse_set.SparseSet.rise_to.Given as goal

abbrev pub invariant-loop-number : goal.invariant-loop-number
invariant-loop-number l = AreRisen l.self.items l.list.items l.number
