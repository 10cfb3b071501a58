use Rattle.api_meta.specs.Views.{regex_kind}
use Rattle.api_meta.proofs.Partials.{S, settled_at_0}
use Rattle.api_meta.proofs.regex.Regex.settled_before.Goals as goal

pub returns-in-All-clause-settled : goal.returns-in-All-clause-settled
returns-in-All-clause-settled g c = settled_at_0 (regex_kind c.args.self.now) (S c.args.self.now c.args.input.now)
