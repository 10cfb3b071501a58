use Rattle.std.proofs.Common.{ap, ◌∙◌}
use Rattle.std.specs.Prelude.{is_some}
use Rattle.std.specs.Arc.{arc_value}
use Rattle.rc_text.specs.Joined.{joined}
use Rattle.rc_program.specs.Kinds.{answer_by}
use Rattle.rc_program.specs.Sought.{search_for}
use Rattle.api_meta.specs.declared.regex.Regex.{Regex}
use Rattle.api_meta.specs.Views.{regex_kind, sought}
use Rattle.searcher.specs.Answers.{answer_in}
use Rattle.searcher.specs.Searching.{Searching}
use Rattle.searcher.proofs.Filling.{same_search}
use Rattle.searcher.proofs.Marked.{told_some}
use Rattle.searcher.proofs.searches.Searcher.is_match.Goals as goal

pub returns-clause-found : goal.returns-clause-found
returns-clause-found c =
    let r = arc_value c.self.inside.regex in
    let text = joined c.args.chunks.now in
    let input = c.in_ok-input.input in
    let d = c.deref.result.now in
    told_some c.is_match_with.result (answer_by (regex_kind d) (search_for (sought d) input)) c.is_match_with.ensures.found_by
    ∙ ap (λ (q : Regex). is_some (answer_by (regex_kind q) (search_for (sought q) input))) c.deref.ensures
    ∙ ap (λ x. is_some (answer_by (regex_kind r) x)) (same_search (sought r) text c.args.start c.args.end input c.in_ok-input.ensures.in_range)
    ∙ ap (λ (s : Searching). is_some (answer_in s.regex text c.args.start c.args.end)) c.self.view_is
