use Rattle.std.proofs.Common.{ap, ◌≡◌, ◌<◌, length, arith}
use Rattle.std.proofs.lemmas.List.{length_push}
use Rattle.rc_determinize.specs.Steps.{HasPlace}
use Rattle.rc_determinize.specs.Sparse.{Members}
use Rattle.rc_determinize.proofs.SparseLemmas.{set_of, room_for, indexed_push}
use Rattle.rc_determinize.proofs.sparse_set.SparseSet.insert.Goals as goal
use Rattle.rc_determinize.proofs.sparse_set.SparseSet.insert.Goals.{Else-contains}

pub returns-then-contains-clause-few : goal.returns-then-contains-clause-few
returns-then-contains-clause-few c =
    let a = c.self.inside in
    rw (← c.self.view_is, a.sparse.ok.0) ((set_of a.dense.items a.sparse.items c.self.invariant.1).few)

room : (c : Else-contains) → length c.self.inside.dense.items < length c.self.inside.sparse.items
room c =
    let a = c.self.inside in
    let inside : c.args.number < length a.sparse.items = let e = ap (λ (m : Members). m.capacity) c.self.view_is in omega (arith, e, c.requires, a.sparse.ok.0) in
    let new : ¬ HasPlace c.args.number a.dense.items = let e = ap (λ (m : Members). m.items) c.self.view_is in rw e (λ h. c.if-contains.ensures h) in
    room_for a.dense.items a.sparse.items c.args.number c.self.invariant.1 new inside

pub push_reserved-requires : goal.push_reserved-requires
push_reserved-requires c =
    let a = c.self.inside in
    omega (arith, room (goal.at.push_reserved-requires c).Else-contains, c.self.invariant.0, a.dense.ok.0, a.sparse.ok.0)

pub invariant_of-self : goal.invariant_of-self
invariant_of-self c =
    let a = c.self.inside in
    let inside : c.args.number < length a.sparse.items = let e = ap (λ (m : Members). m.capacity) c.self.view_is in omega (arith, e, c.requires, a.sparse.ok.0) in
    let new : ¬ HasPlace c.args.number a.dense.items = let e = ap (λ (m : Members). m.items) c.self.view_is in rw e (λ h. c.if-contains.ensures h) in
    let len : c.len.result ≡ length a.dense.items = omega (arith, c.len.ensures, a.dense.ok.0) in
    rw (c.push_reserved.ensures.items, len) (
      omega (arith, c.self.invariant.0, c.push_reserved.ensures.capacity),
      indexed_push a.dense.items a.sparse.items c.args.number c.self.invariant.1 new inside,
    )

pub returns-clause-few : goal.returns-clause-few
returns-clause-few c =
    let a = c.self.inside in
    rw (c.push_reserved.ensures.items, length_push) (omega (arith, room (goal.at.returns-clause-few c).Else-contains, a.sparse.ok.0))
