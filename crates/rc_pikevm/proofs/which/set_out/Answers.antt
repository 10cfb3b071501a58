use Rattle.std.proofs.Common.{arith}
use Rattle.rc_pikevm.proofs.GrownLemmas.{grown_then}
use Rattle.rc_pikevm.proofs.which.set_out.Goals as goal

pub returns-clause-same : goal.returns-clause-same
returns-clause-same g c below p few =
    let entered = c.enter_each-rest.ensures.set_out.same below p few in
    let spread = c.spread.ensures.same below p (omega (arith, few, c.enter_each-rest.ensures.set_out.long)) in
    (λ owed. spread.0 (entered.0 owed), λ owed. entered.1 (spread.1 owed))

pub returns-clause-grown : goal.returns-clause-grown
returns-clause-grown g c =
    grown_then c.enter_each-rest.ensures.set_out.grown c.spread.ensures.grown
