use Rattle.std.proofs.Common.{sym, subst, arith}
use Rattle.live_matches.specs.Entries.{reach_of}
use Rattle.live_matches.specs.Stretches.{IsQuiet}
use Rattle.live_matches.proofs.Stretched.{quiet_joined}
use Rattle.live_matches.proofs.stretches.Stretch.with.Goals as goal

pub returns-clause-quiet : goal.returns-clause-quiet
returns-clause-quiet c kind s content other free order quiet is =
    let e = c.args.entry in
    let a = c.args.self.now in
    subst (λ k. IsQuiet kind s content c.max.result a.start k) (sym c.end-end.ensures.value)
    (quiet_joined kind s other free content a.reach (reach_of e) c.max.result a.start a.end e.found.start e.found.end order
    (omega (arith, c.if-self-start.false, c.start.ensures.value)) (omega (arith, c.max.ensures))
    (omega (arith, c.max.ensures, c.reach-reach.ensures, c.if-self-start.false)) quiet is.quiet)
