use Rattle.std.proofs.Common.{◌∙◌, nat_lt, sym}
use Rattle.std.proofs.lemmas.Bool.{not-false, not-true}
use Rattle.grep_lines.specs.Touched.{behind}
use Rattle.grep_lines.proofs.TouchedLemmas.{passed, stays}
use Rattle.grep_lines.proofs.touched.spans_from.Goals as goal

-- the first doesn't end before the place
pub returns-then-not-ends_before : goal.returns-then-not-ends_before
returns-then-not-ends_before c =
    let span = c.in-Some.first.now in
    stays c.args.place span c.in-Some.rest.now c.loop-first.left.now c.in-Some.ensures.cases.0
    (not-false (nat_lt c.args.place (behind span)) (sym c.ends_before.ensures ∙ c.if-not-ends_before.true))
    ∙ c.loop-first.invariant

pub loop-first-preserved : goal.loop-first-preserved
loop-first-preserved c =
    let span = c.in-Some.first.now in
    sym (passed c.args.place span c.in-Some.rest.now c.loop-first.left.now c.in-Some.ensures.cases.0
    (not-true (nat_lt c.args.place (behind span)) (sym c.ends_before.ensures ∙ c.if-not-ends_before.false)))
    ∙ c.loop-first.invariant
