use Rattle.std.proofs.Common.{◌∙◌, arith, sym}
use Rattle.grep_lines.proofs.TouchedLemmas.{order_step, order_stop}
use Rattle.grep_lines.proofs.touched.are_in_order.Goals as goal

pub returns-then-first-from : goal.returns-then-first-from
returns-then-first-from c =
    sym (c.loop-first.invariant
    ∙ order_stop c.loop-first.from c.in-Some.first.now c.in-Some.rest.now c.loop-first.left.now c.in-Some.ensures.cases.0 (omega (arith, c.if-first-from.true)))

pub loop-first-preserved : goal.loop-first-preserved
loop-first-preserved c =
    c.loop-first.invariant
    ∙ order_step c.loop-first.from c.in-Some.first.now c.in-Some.rest.now c.loop-first.left.now c.in-Some.ensures.cases.0 (omega (arith, c.if-first-from.false))
