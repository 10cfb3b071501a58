use Rattle.std.proofs.Common.{refl}
use Rattle.std.proofs.lemmas.Bool.{false≢true, iff_false}
use Rattle.rc_build.proofs.CheckLemmas.{sound_more, all_sound}
use Rattle.rc_build.proofs.WeighingLemmas.{one_unsound}
use Rattle.rc_build.proofs.weighing.are_well_formed.Goals as goal

pub returns-then-not-branch : goal.returns-then-not-branch
returns-then-not-branch c = (
  λ yes. absurd (false≢true yes),
  λ all. absurd (one_unsound c.args.hirs.now c.loop-hir.hir-index _ c.loop-hir-test.true
      c.hir-item.is (iff_false c.in_ok-is_well_formed.ensures c.if-not-branch.true) all),
)

pub loop-hir-preserved : goal.loop-hir-preserved
loop-hir-preserved c =
    sound_more c.args.hirs.now c.loop-hir.hir-index _ c.loop-hir-test.true c.hir-item.is c.loop-hir.invariant
    (c.in_ok-is_well_formed.ensures.0 c.if-not-branch.false)

pub returns : goal.returns
returns c =
    (λ yes. all_sound c.args.hirs.now c.loop-hir.hir-index c.loop-hir-test.false c.loop-hir.invariant, λ all. refl)
