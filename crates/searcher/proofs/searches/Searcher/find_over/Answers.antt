use Rattle.std.proofs.Common.{ap, ◌∙◌}
use Rattle.std.specs.Arc.{arc_value}
use Rattle.rc_text.specs.Joined.{joined}
use Rattle.rc_program.specs.Kinds.{answer_by}
use Rattle.rc_program.specs.Sought.{search_for}
use Rattle.api_meta.specs.declared.regex.Regex.{Regex}
use Rattle.api_meta.specs.Views.{regex_kind, sought}
use Rattle.searcher.specs.Answers.{answer_over}
use Rattle.searcher.specs.Searching.{Searching}
use Rattle.searcher.proofs.Filling.{bounds_are, same_bounds}
use Rattle.searcher.proofs.searches.Searcher.find_over.Goals as goal

pub returns-clause-found : goal.returns-clause-found
returns-clause-found c =
    let r = arc_value c.self.inside.regex in
    let text = joined c.args.text.now in
    let b = c.args.bounds.now in
    c.search.ensures.found
    ∙ ap (λ (q : Regex). answer_by (regex_kind q) (search_for (sought q) c.set_anchored.new.self)) c.deref.ensures
    ∙ ap (answer_by (regex_kind r)) (same_bounds (sought r) text b c.in_ok-input.input c.set_anchored.new.self c.in_ok-input.ensures.in_range
    (c.set_anchored.ensures ∙ ap (λ a. record c.in_ok-input.input { anchored = a }) c.anchoring.ensures))
    ∙ bounds_are (regex_kind r) (sought r) text b
    ∙ ap (λ (s : Searching). answer_over s.regex text b) c.self.view_is
