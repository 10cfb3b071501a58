use Rattle.api_meta.specs.Views.{regex_kind, sought}
use Rattle.searcher.proofs.Filling.{taken_is_found, taken_within}
use Rattle.searcher.proofs.batch.first.Goals as goal

pub returns-clause-found : goal.returns-clause-found
returns-clause-found g c =
    let steps = c.next.ensures.steps in
    taken_is_found (regex_kind c.args.regex.now) (sought c.args.regex.now) c.args.input.now c.next.result _ _ c.find_iter_with-matches.ensures.left_by steps.0.0

pub returns-clause-within : goal.returns-clause-within
returns-clause-within g c = taken_within _ c.next.result _ _ c.find_iter_with-matches.ensures.within c.next.ensures.steps.0.0
