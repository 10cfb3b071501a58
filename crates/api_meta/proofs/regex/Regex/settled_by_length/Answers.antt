use Rattle.std.proofs.Common.{arith}
use Rattle.api_meta.specs.Views.{regex_kind}
use Rattle.api_meta.proofs.Partials.{S, settled_at_0, settled_far}
use Rattle.api_meta.proofs.regex.Regex.settled_by_length.Goals as goal

pub returns-in_default-clause-settled : goal.returns-in_default-clause-settled
returns-in_default-clause-settled g c = settled_at_0 (regex_kind c.args.self.now) (S c.args.self.now c.args.input.now)

pub returns-clause-settled : goal.returns-clause-settled
returns-clause-settled g c =
    let high_is = c.high.ensures.value in
    let fits = c.high.type_inv in
    settled_far c.args.self.now c.args.input.now c.requires.other c.in-Some.longest c.in-Some.is c.saturating_sub.result (omega (arith, high_is, fits))
    (omega (arith, high_is, c.saturating_sub.ensures, c.saturating_add.ensures))
