use Rattle.std.proofs.Common.{subst}
use Rattle.live_matches.specs.Lists.{Meets}
use Rattle.live_matches.specs.Quiet.{IsSkippedOver}
use Rattle.live_matches.proofs.Quiets.{over_meets}
use Rattle.live_matches.proofs.quiet.skip_past.Goals as goal

pub returns-in-Some-clause-meets : goal.returns-in-Some-clause-meets
returns-in-Some-clause-meets c kind s content other free meets =
    let g = c.args.entries.now in
    let now = c.skip_over.result in
    let h = c.skip_over.new.self in
    over_meets kind s other free content c.in-Some.field-0 c.args.end g now h
    (subst (λ m. IsSkippedOver m c.args.end g now h) c.in-Some.is c.skip_over.ensures)
    (subst (λ m. Meets kind s content m g.after) c.in-Some.is meets)
