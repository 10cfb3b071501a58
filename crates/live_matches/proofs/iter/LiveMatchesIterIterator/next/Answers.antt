use Rattle.std.proofs.Common.{◌∙◌, length, sym, ap, arith}
use Rattle.live_matches.specs.Live.{listed}
use Rattle.live_matches.proofs.Windows.{one_left}
use Rattle.live_matches.proofs.iter.LiveMatchesIterIterator.next.Goals as goal

pub returns-clause-steps : goal.returns-clause-steps
returns-clause-steps c =
    let it = c.args.self.now in
    one_left (listed it.live.now) it.next it.end c.in_ok-found.found (sym c.get.ensures ∙ c.in_ok-found.was) (omega (arith, c.if-self.false))

pub returns-clause-goes : goal.returns-clause-goes
returns-clause-goes c =
    let it = c.args.self.now in
    let step = ap length (one_left (listed it.live.now) it.next it.end c.in_ok-found.found (sym c.get.ensures ∙ c.in_ok-found.was) (omega (arith, c.if-self.false))) in
    record { on = λ _. (tt, tt, omega (arith, step)); keeps = tt; rests = λ _. tt }
