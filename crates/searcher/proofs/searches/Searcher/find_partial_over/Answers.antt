use Rattle.std.proofs.Common.{arith, subst}
use Rattle.std.specs.Arc.{arc_value}
use Rattle.rc_text.specs.Joined.{joined}
use Rattle.rc_program.specs.Sought.{search_for}
use Rattle.rc_reach.specs.Partial.{IsPartial}
use Rattle.api_meta.specs.Partials.{partial_of}
use Rattle.api_meta.specs.Views.{regex_kind, sought}
use Rattle.api_meta.specs.declared.regex.Regex.{Regex}
use Rattle.searcher.specs.Answers.{IsPartialIn}
use Rattle.searcher.specs.Searching.{Searching}
use Rattle.searcher.proofs.Partials.{partial_in}
use Rattle.searcher.proofs.searches.Searcher.find_partial_over.Goals as goal

pub returns-clause-told : goal.returns-clause-told
returns-clause-told c =
    let r = arc_value c.self.inside.regex in
    let text = joined c.args.text.now in
    let i = c.in_ok-input.input in
    let p = c.search_partial_with-answer.result in
    subst (λ (s : Searching). IsPartialIn s.regex text c.args.start p) c.self.view_is
    (partial_in r text c.args.start i p c.in_ok-input.ensures.in_range (omega (arith, c.in_ok-input.ensures.served.inside))
    (subst (λ (q : Regex). IsPartial (regex_kind q) (search_for (sought q) i) (partial_of p)) c.deref.ensures
    c.search_partial_with-answer.ensures.told) c.search_partial_with-answer.ensures.onward)
