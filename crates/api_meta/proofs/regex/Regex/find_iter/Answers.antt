use Rattle.std.proofs.Common.{◌∙◌, None, ap, arith, false}
use Rattle.rc_program.specs.Kinds.{matches_by_kind}
use Rattle.rc_program.specs.Sought.{search_for}
use Rattle.rc_program.proofs.KindLemmas.{kinds_law}
use Rattle.rc_pikevm_search.proofs.Steps.{list_within}
use Rattle.api_meta.specs.Views.{regex_kind, sought}
use Rattle.api_meta.proofs.Going.{few_left}
use Rattle.api_meta.proofs.Runs.{find_runs}
use Rattle.api_meta.proofs.regex.Regex.find_iter.Goals as goal

pub returns-clause-left : goal.returns-clause-left
returns-clause-left g c kind =
    let s = search_for (sought c.args.self.now) c.args.input in
    ap (λ k. matches_by_kind k s c.args.input.span.start None) kind ∙ kinds_law.leftmost s c.args.input.span.start None

pub returns-clause-within : goal.returns-clause-within
returns-clause-within g c = list_within (regex_kind c.args.self.now) (search_for (sought c.args.self.now) c.args.input) c.args.input.span.start

pub returns-clause-short : goal.returns-clause-short
returns-clause-short g c = let few = few_left c.args.self.now c.args.input None false in omega (arith, few, c.content_fits.ensures)

pub returns-clause-runs : goal.returns-clause-runs
returns-clause-runs g c = find_runs
