use Rattle.std.proofs.Common.{◌∙◌, None, ap}
use Rattle.rc_program.specs.Kinds.{matches_by_kind}
use Rattle.rc_program.specs.Sought.{search_for}
use Rattle.rc_program.proofs.KindLemmas.{kinds_law}
use Rattle.api_hybrid.specs.Views.{sought}
use Rattle.api_hybrid.proofs.Going.{find_runs}
use Rattle.api_hybrid.proofs.search.find_iter.Goals as goal

pub returns-clause-leftmost : goal.returns-clause-leftmost
returns-clause-leftmost g c kind =
    let s = search_for (sought c.args.re.now) c.args.input in
    ap (λ k. matches_by_kind k s c.args.input.span.start None) kind ∙ kinds_law.leftmost s c.args.input.span.start None

pub returns-clause-runs : goal.returns-clause-runs
returns-clause-runs g c = find_runs _
