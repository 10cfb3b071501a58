use Rattle.std.proofs.Common.{ap, length, subst, sym, ◌∙◌}
use Rattle.std.specs.Arc.{arc_value}
use Rattle.rc_text.specs.Joined.{joined}
use Rattle.rc_program.specs.Sought.{search_for}
use Rattle.api_meta.specs.declared.regex.Regex.{Regex}
use Rattle.api_meta.specs.Views.{regex_patterns, sought}
use Rattle.searcher.specs.Answers.{search_in}
use Rattle.searcher.specs.Places.{AreMarks}
use Rattle.searcher.specs.Searching.{Searching}
use Rattle.searcher.proofs.Filling.{same_search}
use Rattle.searcher.proofs.Marked.{marks_of}
use Rattle.searcher.proofs.searches.Searcher.which_patterns.Goals as goal

pub returns-clause-marked : goal.returns-clause-marked
returns-clause-marked c =
    let r = arc_value c.self.inside.regex in
    let text = joined c.args.chunks.now in
    let input = c.in_ok-input.input in
    let d = c.deref.result.now in
    let marks = c.write_marks.new.marks in
    subst (λ (s : Searching). AreMarks (length (regex_patterns s.regex)) (search_in s.regex text c.args.start c.args.end) marks) c.self.view_is
    (subst (λ x. AreMarks (length (regex_patterns r)) x marks) (same_search (sought r) text c.args.start c.args.end input c.in_ok-input.ensures.in_range)
    (subst (λ (q : Regex). AreMarks (length (regex_patterns q)) (search_for (sought q) input) marks) c.deref.ensures
    (marks_of (length (regex_patterns d)) (length c.self.inside.set) (search_for (sought d) input) c.clear.new.self c.which_patterns_with.new.set marks
    (c.self.invariant.2 ∙ ap (λ (q : Regex). length (regex_patterns q)) (sym c.deref.ensures)) c.clear.ensures c.which_patterns_with.ensures.adds c.write_marks.ensures)))
