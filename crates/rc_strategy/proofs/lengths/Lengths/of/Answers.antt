use Rattle.std.proofs.Common.{◌≡◌, subst}
use Rattle.rc_pattern.specs.Meaning.{meaning}
use Rattle.rc_pattern.specs.Properties.{maximum_len}
use Rattle.rc_strategy.specs.Lengths.{Bounds}
use Rattle.rc_strategy.proofs.SpanLemmas.{bounds_all, bounds_more, greatest_all, greatest_more}
use Rattle.rc_strategy.proofs.lengths.Lengths.of.Goals as goal

pub loop-hir-preserved : goal.loop-hir-preserved
loop-hir-preserved c =
    let hs = c.args.hirs.now in
    let i = c.loop-hir.hir-index in
    let one = c.of_one.result in (
      bounds_more c.loop-hir.spans one c.either-spans.result hs i c.hir-item.result c.loop-hir-test.true c.either-spans.ensures
          (subst (λ x. Bounds one (meaning x)) c.hir-item.is c.of_one.ensures.bounds) c.loop-hir.invariant.0,
      greatest_more c.loop-hir.spans one c.either-spans.result hs i c.hir-item.result c.loop-hir-test.true c.either-spans.ensures
          (subst (λ x. one.greatest ≡ maximum_len (meaning x)) c.hir-item.is c.of_one.ensures.greatest) c.loop-hir.invariant.1,
    )

pub returns-clause-bounds : goal.returns-clause-bounds
returns-clause-bounds c = bounds_all c.loop-hir.spans c.args.hirs.now c.loop-hir.hir-index c.loop-hir-test.false c.loop-hir.invariant.0

pub returns-clause-greatest : goal.returns-clause-greatest
returns-clause-greatest c = greatest_all c.loop-hir.spans c.args.hirs.now c.loop-hir.hir-index c.loop-hir-test.false c.loop-hir.invariant.1
