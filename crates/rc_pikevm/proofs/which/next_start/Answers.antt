use Rattle.std.proofs.Common.{arith, ⊎_elim}
use Rattle.rc_pikevm.proofs.which.next_start.Goals as goal

pub returns-in-Some-clause-within : goal.returns-in-Some-clause-within
returns-in-Some-clause-within g c = let on = c.in-Some.ensures.next c.requires.guarded in (on.0, omega (arith, on.1))

pub returns-in-Some-clause-none : goal.returns-in-Some-clause-none
returns-in-Some-clause-none g c y low before =
    let on = c.in-Some.ensures.next c.requires.guarded in
    ⊎_elim (λ here. absurd (omega (arith, here, low, before))) (λ skips. skips.1 y low before) on.2

pub returns-in-None-clause-none : goal.returns-in-None-clause-none
returns-in-None-clause-none g c y low before =
    let on = c.in-None.ensures.next c.requires.guarded in on.1 y low (omega (arith, before))
