use Rattle.std.proofs.Common.{ap, ◌∙◌}
use Rattle.std.specs.Arc.{arc_value}
use Rattle.rc_text.specs.Joined.{joined}
use Rattle.std.specs.Prelude.{None}
use Rattle.rc_program.specs.Kinds.{matches_by_kind}
use Rattle.rc_program.specs.Sought.{search_for}
use Rattle.api_meta.specs.declared.regex.Regex.{Regex}
use Rattle.api_meta.specs.Views.{regex_kind, sought}
use Rattle.searcher.specs.Answers.{matches_in}
use Rattle.searcher.specs.Last.{last_before}
use Rattle.searcher.specs.Searching.{Searching}
use Rattle.searcher.proofs.Filling.{same_matches}
use Rattle.searcher.proofs.searches.Searcher.find_last.Goals as goal

pub returns-clause-found : goal.returns-clause-found
returns-clause-found c =
    let r = arc_value c.self.inside.regex in
    let text = joined c.args.chunks.now in
    c.last_before.ensures.found
    ∙ ap (λ (q : Regex). last_before c.args.place (matches_by_kind (regex_kind q) (search_for (sought q) c.in_ok-input.input) c.in_ok-input.input.span.start None)) c.deref.ensures
    ∙ ap (last_before c.args.place) (same_matches (regex_kind r) (sought r) text c.args.start c.args.end c.in_ok-input.input c.in_ok-input.ensures.in_range)
    ∙ ap (λ (s : Searching). last_before c.args.place (matches_in s.regex text c.args.start c.args.end)) c.self.view_is
