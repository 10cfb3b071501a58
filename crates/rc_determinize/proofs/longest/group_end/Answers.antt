use Rattle.std.proofs.Common.{◌≡◌, subst, length, slice_range, arith}
use Rattle.rc_determinize.proofs.GroupLemmas.{group_before, last_group, other_more, AreOther}
use Rattle.rc_determinize.proofs.longest.group_end.Goals as goal

pub returns-then-list-index-clause-group : goal.returns-then-list-index-clause-group
returns-then-list-index-clause-group c =
    group_before c.args.mark c.args.list.now c.args.from c.loop-index.index 0 c.loop-index.invariant.0
    (let a = c.loop-index-test.true in omega (arith, a)) c.loop-index.invariant.1 c.if-list-index.true

pub loop-index-preserved : goal.loop-index-preserved
loop-index-preserved c = (
  (let a = c.loop-index.invariant.0 in omega (arith, a)),
  other_more c.args.mark c.args.list.now c.args.from c.loop-index.index c.loop-index.invariant.0 (let a = c.loop-index-test.true in omega (arith, a))
      c.if-list-index.false c.loop-index.invariant.1,
)

pub returns-clause-group : goal.returns-clause-group
returns-clause-group c =
    let e : c.loop-index.index ≡ length c.args.list.now = (let a = c.loop-index-test.false in let b = c.loop-index.auto.index in omega (arith, a, b)) in
    last_group c.args.mark c.args.list.now c.args.from c.requires
    (subst (λ n. AreOther c.args.mark (slice_range c.args.list.now c.args.from n)) e c.loop-index.invariant.1)

pub returns-then-list-index-clause-other : goal.returns-then-list-index-clause-other
returns-then-list-index-clause-other c = c.loop-index.invariant.1

pub returns-clause-other : goal.returns-clause-other
returns-clause-other c =
    let e : c.loop-index.index ≡ length c.args.list.now = (let a = c.loop-index-test.false in let b = c.loop-index.auto.index in omega (arith, a, b)) in
    subst (λ n. AreOther c.args.mark (slice_range c.args.list.now c.args.from n)) e c.loop-index.invariant.1
