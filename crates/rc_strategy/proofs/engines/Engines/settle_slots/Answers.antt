use Rattle.std.proofs.Common.{ap, arith, length}
use Rattle.rc_strategy.proofs.ReachLemmas.{groups_near, groups_none, groups_some}
use Rattle.rc_strategy.proofs.engines.Engines.settle_slots.Goals as goal

pub returns-in_default-clause-settled : goal.returns-in_default-clause-settled
returns-in_default-clause-settled g c =
    groups_none c.args.self.now.engine c.args.input.now c.find_settled-settled.result.reach c.find_settled-settled.result.found c.in_default.is
    c.find_settled-settled.ensures.settled

pub returns-clause-settled : goal.returns-clause-settled
returns-clause-settled g c =
    let e = c.args.self.now in
    let same = ap length c.find_settled-settled.ensures.keeps.content in
    groups_some e.engine c.args.input.now e.lookahead c.find_settled-settled.result.reach c.max.result c.find_settled-settled.result.found c.in-Some.found e.looking
    c.in-Some.is c.find_settled-settled.ensures.settled (omega (arith, c.content_fits.ensures, same))
    (omega (arith, c.max.ensures, c.saturating_add-groups.ensures, c.end.ensures.value))

pub returns-clause-near : goal.returns-clause-near
returns-clause-near g c =
    let e = c.args.self.now in
    groups_near e.engine c.args.input.now e.spans e.lookahead c.find_settled-settled.result.reach c.max.result c.find_settled-settled.result.found c.in-Some.found e.bound
    c.in-Some.is c.find_settled-settled.ensures.settled c.find_settled-settled.ensures.near
    (omega (arith, c.max.ensures, c.saturating_add-groups.ensures, c.end.ensures.value))
