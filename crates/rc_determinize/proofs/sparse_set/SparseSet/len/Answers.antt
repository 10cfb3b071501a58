use Rattle.rc_determinize.proofs.SparseLemmas.{set_of}
use Rattle.rc_determinize.proofs.sparse_set.SparseSet.len.Goals as goal

pub returns-clause-set : goal.returns-clause-set
returns-clause-set c =
    let a = c.self.inside in
    rw (← c.self.view_is, a.sparse.ok.0) (set_of a.dense.items a.sparse.items c.self.invariant.1)
