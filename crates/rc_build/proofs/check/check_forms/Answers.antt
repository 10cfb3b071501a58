use Rattle.std.proofs.Common.{arith}
use Rattle.std.proofs.lemmas.Bool.{iff_false}
use Rattle.rc_build.proofs.CheckLemmas.{sound_more, all_sound, first_unsound, number_of_some}
use Rattle.rc_build.proofs.check.check_forms.Goals as goal

pub returns-then-not-branch-clause-refused : goal.returns-then-not-branch-clause-refused
returns-then-not-branch-clause-refused c =
    rw (number_of_some _ _ _ _ c.new.ensures c.unwrap-pattern.ensures)
    (first_unsound c.args.hirs.now c.loop-i.i _ c.loop-i-test.true c.index-hirs-i.is c.loop-i.invariant
    (iff_false c.in_ok-is_well_formed.ensures c.if-not-branch.true))

pub loop-i-preserved : goal.loop-i-preserved
loop-i-preserved c =
    sound_more c.args.hirs.now c.loop-i.i _ c.loop-i-test.true c.index-hirs-i.is c.loop-i.invariant
    (c.in_ok-is_well_formed.ensures.0 c.if-not-branch.false)

pub returns-clause-well_formed : goal.returns-clause-well_formed
returns-clause-well_formed c = all_sound c.args.hirs.now c.loop-i.i (omega (arith, c.loop-i-test.false)) c.loop-i.invariant
