use Rattle.std.proofs.Common.{ap, subst, ◌∙◌}
use Rattle.std.specs.Arc.{arc_value}
use Rattle.rc_text.specs.Joined.{joined}
use Rattle.rc_pikevm_search.specs.Tells.{TellsBy}
use Rattle.rc_program.specs.Kinds.{answer_by}
use Rattle.rc_program.specs.Sought.{search_for}
use Rattle.api_meta.specs.declared.regex.Regex.{Regex}
use Rattle.api_meta.specs.Views.{regex_kind, sought}
use Rattle.searcher.specs.Answers.{answer_in, search_in}
use Rattle.searcher.specs.Searching.{Searching}
use Rattle.searcher.proofs.Filling.{same_search}
use Rattle.searcher.proofs.searches.Searcher.find_groups_over.Goals as goal

pub returns-clause-told : goal.returns-clause-told
returns-clause-told c =
    let r = arc_value c.self.inside.regex in
    let text = joined c.args.text.now in
    let caps = c.search_captures_with.new.caps in
    subst (λ (s : Searching). TellsBy (regex_kind s.regex) (search_in s.regex text c.args.start c.args.end) caps) c.self.view_is
    (subst (λ x. TellsBy (regex_kind r) x caps) (same_search (sought r) text c.args.start c.args.end c.in_ok-input.input c.in_ok-input.ensures.in_range)
    (subst (λ (q : Regex). TellsBy (regex_kind q) (search_for (sought q) c.in_ok-input.input) caps) c.deref.ensures c.search_captures_with.ensures.told_by))

pub returns-clause-found : goal.returns-clause-found
returns-clause-found c =
    let r = arc_value c.self.inside.regex in
    let text = joined c.args.text.now in
    c.get_match.ensures ∙ c.search_captures_with.ensures.matched_by
    ∙ ap (λ (q : Regex). answer_by (regex_kind q) (search_for (sought q) c.in_ok-input.input)) c.deref.ensures
    ∙ ap (answer_by (regex_kind r)) (same_search (sought r) text c.args.start c.args.end c.in_ok-input.input c.in_ok-input.ensures.in_range)
    ∙ ap (λ (s : Searching). answer_in s.regex text c.args.start c.args.end) c.self.view_is
