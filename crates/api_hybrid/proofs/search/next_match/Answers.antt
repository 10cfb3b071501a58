use Rattle.std.proofs.Common.{◌∙◌, rules}
use Rattle.api_dfa.proofs.Going.{going_none, going_some}
use Rattle.api_hybrid.specs.Views.{regex_kind, sought}
use Rattle.api_hybrid.proofs.search.next_match.Goals as goal

pub returns-in-Ok-Some-clause-left : goal.returns-in-Ok-Some-clause-left
returns-in-Ok-Some-clause-left g c =
    let re = c.args.re.now in
    going_some (regex_kind re) (sought re) c.args.input.now c.set_start.new.self c.args.last c.in-Ok-Some.found (search rules)
    (c.set_start.ensures.start ∙ c.end.ensures.value) c.in-Ok-Some.field-0-is c.in-Ok-Some.ensures.found

pub returns-in-Ok-None-clause-left : goal.returns-in-Ok-None-clause-left
returns-in-Ok-None-clause-left g c =
    let re = c.args.re.now in
    going_none (regex_kind re) (sought re) c.args.input.now c.args.last c.in-Ok-None.field-0-is c.in-Ok-None.ensures.found
