use Rattle.rcgrep.proofs.LocalLemmas.{all_local, local_more}
use Rattle.rcgrep.proofs.patterns.are_local.Goals as goal

pub loop-hir-preserved : goal.loop-hir-preserved
loop-hir-preserved c =
    local_more c.args.hirs.now c.loop-hir.hir-index _ c.loop-hir-test.true c.hir-item.is c.loop-hir.invariant (c.is_local.ensures c.if-not-is_local.false)

pub returns : goal.returns
returns c = λ yes. all_local c.args.hirs.now c.loop-hir.hir-index c.loop-hir-test.false c.loop-hir.invariant
