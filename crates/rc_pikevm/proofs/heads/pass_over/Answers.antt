use Rattle.std.proofs.Common.{◌≡◌, ℕ, ◌+◌, ◌-◌, subst, arith}
use Rattle.rc_pikevm.specs.Moves.{seen_by}
use Rattle.rc_pikevm.specs.Alone.{IsDead}
use Rattle.rc_pikevm.proofs.HeadLemmas.{barred_dead}
use Rattle.rc_pikevm.proofs.heads.pass_over.Goals as goal

pub returns-clause-dead : goal.returns-clause-dead
returns-clause-dead g c y low before passed =
    let at : ℕ = c.args.at in
    let end : ℕ = c.args.end in
    let there : at + (y - at) ≡ y = omega (arith, low) in
    let given = c.requires.1.1.1 in
    subst (λ (z : ℕ). IsDead (seen_by c.args.course g.text) passed (c.args.place, z)) there
    (barred_dead c.args.course g.text c.args.window.now at end c.requires.0 c.requires.1.0 c.requires.1.1.0 given.0 given.1.1.0 c.args.place (y - at)
    (omega (arith, low, before, c.barred_before.ensures.within, given.1.0)) (c.barred_before.ensures.barred (y - at) (omega (arith, low, before))) passed)
