use Rattle.std.proofs.Common.{subst}
use Rattle.std.specs.Arc.{arc_value}
use Rattle.rc_text.specs.Joined.{joined}
use Rattle.rc_text.specs.declared.types.Span.{Span}
use Rattle.rc_program.specs.Kinds.{matches_by_kind}
use Rattle.rc_program.specs.Sought.{search_for}
use Rattle.api_meta.specs.declared.regex.Regex.{Regex}
use Rattle.api_meta.specs.Views.{regex_kind, sought}
use Rattle.searcher.specs.Answers.{left_in}
use Rattle.searcher.specs.Places.{GoesOn, IsFilled}
use Rattle.searcher.specs.Searching.{Searching}
use Rattle.searcher.proofs.Filling.{filled_in}
use Rattle.searcher.proofs.searches.Searcher.fill.Goals as goal

pub returns-clause-filled : goal.returns-clause-filled
returns-clause-filled c =
    let r = arc_value c.self.inside.regex in
    let text = joined c.args.chunks.now in
    let filled = c.fill-filled.result in
    let batch = c.fill-filled.new.batch in
    let after : Searching = record {
      regex = r;
      captures = c.self.inside.captures;
      from = filled.from;
      last = filled.last;
      live = c.self.inside.live;
      stream = c.self.inside.stream;
      stepper = c.self.inside.stepper;
    } in
    subst (λ (s : Searching). IsFilled (left_in s text c.args.end) (left_in after text c.args.end) batch filled.count) c.self.view_is
    (filled_in (regex_kind r) (sought r) text c.self.inside.from c.args.end c.in_ok-input.input c.self.inside.last filled.from filled.last batch filled.count
    c.in_ok-input.ensures.in_range (subst (λ (q : Regex). IsFilled (matches_by_kind (regex_kind q) (search_for (sought q) c.in_ok-input.input) c.in_ok-input.input.span.start c.self.inside.last) (matches_by_kind (regex_kind q) (search_for (sought q) c.in_ok-input.input) filled.from filled.last) batch filled.count) c.deref.ensures c.fill-filled.ensures.filled))

pub returns-clause-goes_on : goal.returns-clause-goes_on
returns-clause-goes_on c =
    let filled = c.fill-filled.result in
    let batch = c.fill-filled.new.batch in
    subst (λ (s : Searching). GoesOn batch filled.count s.from s.last filled.from filled.last) c.self.view_is
    (subst (λ (x : Span). GoesOn batch filled.count x.start c.self.inside.last filled.from filled.last) c.in_ok-input.ensures.in_range.span c.fill-filled.ensures.goes_on)
