use Rattle.std.proofs.Common.{refl, ap, ◌<◌, length, arith}
use Rattle.std.proofs.lemmas.List.{get_or_read_under}
use Rattle.rc_determinize.specs.Sparse.{Members}
use Rattle.rc_determinize.proofs.SparseLemmas.{looked_up, not_looked_up}
use Rattle.rc_determinize.proofs.sparse_set.SparseSet.contains.Goals as goal

pub returns-then-index-len : goal.returns-then-index-len
returns-then-index-len c =
    let a = c.self.inside in
    let inside : c.args.number < length a.sparse.items = let e = ap (λ (m : Members). m.capacity) c.self.view_is in omega (arith, e, c.requires, a.sparse.ok.0) in
    rw (← c.self.view_is)
    (looked_up a.dense.items a.sparse.items c.args.number c.index-index.result.now c.index.result.now c.self.invariant.1
    (get_or_read_under a.sparse.items c.args.number (length a.sparse.items) c.index-index.result.now 0 c.index-index.ensures inside refl) (omega (arith, a.dense.ok.0))
    (get_or_read_under a.dense.items c.index-index.result.now (length a.dense.items) c.index.result.now 0 c.index.ensures (omega (arith, a.dense.ok.0)) refl))

pub returns-else-index-len : goal.returns-else-index-len
returns-else-index-len c =
    let a = c.self.inside in
    let inside : c.args.number < length a.sparse.items = let e = ap (λ (m : Members). m.capacity) c.self.view_is in omega (arith, e, c.requires, a.sparse.ok.0) in
    rw (← c.self.view_is)
    (not_looked_up a.dense.items a.sparse.items c.args.number c.index-index.result.now c.len.result c.self.invariant.1
    (get_or_read_under a.sparse.items c.args.number (length a.sparse.items) c.index-index.result.now 0 c.index-index.ensures inside refl) (omega (arith, a.dense.ok.0)) (omega arith))
