use Rattle.std.proofs.Common.{Global, Vec, sym, subst}
use Rattle.rc_dense_dfa.specs.Cells.{dead}
use Rattle.rc_dense_dfa.specs.Exits.{AreLeaps}
use Rattle.rc_dense_dfa.specs.declared.leaps.Leap.{Leap}
use Rattle.rc_dense_dfa.proofs.LeapLemmas.{more_leaps}
use Rattle.rc_dense_dfa.proofs.leaps.leaps_of.Goals as goal
use Rattle.rc_dense_dfa.proofs.leaps.leaps_of.Goals.{in-Some+in_ok-push, in_default}

pub loop-exits-preserved : goal.loop-exits-preserved
loop-exits-preserved c =
    let classes = c.args.classes.now in
    let cells = c.args.cells.now in
    elim c.match-wanted.branch [
      | in-Some+in_ok-push w ↦
          let e = w.resting.ensures in
          subst (λ (v : Vec Leap Global). AreLeaps dead classes cells v.items) (sym w.leaps-is)
          (subst (AreLeaps dead classes cells) (sym w.in_ok-push.ensures.items)
          (more_leaps dead classes cells c.loop-exits.leaps.items w.in-Some.leap w.resting.result c.loop-exits.invariant w.in-Some.ensures e.0 e.1 e.2))
      | in_default w ↦ subst (λ (v : Vec Leap Global). AreLeaps dead classes cells v.items) (sym w.leaps-is) c.loop-exits.invariant
    ]
