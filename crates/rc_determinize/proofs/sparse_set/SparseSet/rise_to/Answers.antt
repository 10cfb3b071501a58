use Rattle.std.proofs.Common.{◌+◌, sym, ap, subst, arith, length}
use Rattle.rc_determinize.specs.Steps.{AreBelow}
use Rattle.rc_determinize.specs.Sparse.{Members}
use Rattle.rc_determinize.proofs.SparseLemmas.{set_of}
use Rattle.rc_determinize.proofs.RiseLemmas.{AreRisen, none_risen, rises_by, rises_on, all_risen}
use Rattle.rc_determinize.proofs.sparse_set.SparseSet.rise_to.Goals as goal
use Rattle.rc_determinize.proofs.sparse_set.SparseSet.rise_to.Goals.{then-contains+in_ok-push, else-contains}

pub returns-clause-rising : goal.returns-clause-rising
returns-clause-rising c = c.loop-number.invariant.rising

pub returns-clause-members : goal.returns-clause-members
returns-clause-members c =
    let a = c.self.inside in
    all_risen c.args.self.now.items c.loop-number.list.items (length a.sparse.items) c.loop-number.number
    (let h = c.loop-number-test.false in let l = c.len-number-end.ensures in let k = a.sparse.ok.0 in omega (arith, h, l, k))
    (subst (λ l. AreBelow (length a.sparse.items) l) (ap (λ (m : Members). m.items) c.self.view_is) ((set_of a.dense.items a.sparse.items c.self.invariant.1).below))
    c.loop-number.invariant

pub loop-number-init : goal.loop-number-init
loop-number-init c = none_risen c.args.self.now.items c.clear.new.self.items c.clear.ensures.items

pub loop-number-preserved : goal.loop-number-preserved
loop-number-preserved c =
    elim c.if-contains.branch [
      | then-contains+in_ok-push w ↦ subst (λ l. AreRisen c.args.self.now.items l (c.loop-number.number + 1)) (sym (ap (λ v. v.items) w.list-is))
          (rises_by c.args.self.now.items c.loop-number.list.items w.push.new.self.items c.loop-number.number w.if-contains.ensures w.in_ok-push.ensures.items c.loop-number.invariant)
      | else-contains w ↦ subst (λ l. AreRisen c.args.self.now.items l (c.loop-number.number + 1)) (sym (ap (λ v. v.items) w.list-is))
          (rises_on c.args.self.now.items c.loop-number.list.items c.loop-number.number w.if-contains.ensures c.loop-number.invariant)
    ]
