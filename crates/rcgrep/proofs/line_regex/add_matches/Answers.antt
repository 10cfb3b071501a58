use Rattle.std.proofs.Common.{◌∙◌, None, ap, sym, true≢false}
use Rattle.rc_program.specs.Kinds.{matches_by_kind}
use Rattle.rc_program.specs.Sought.{search_for}
use Rattle.api_meta.specs.Lent.{find_with_left}
use Rattle.api_meta.specs.Views.{regex_kind, sought}
use Rattle.rcgrep.proofs.TextLemmas.{all_given, first_given, spans_more}
use Rattle.rcgrep.proofs.line_regex.add_matches.Goals as goal

pub loop-found-preserved : goal.loop-found-preserved
loop-found-preserved g c = record {
  spans =
      spans_more c.args.spans.now.items c.loop-found.spans.items _ c.loop-found.yielded c.in-Some.found c.span.result c.in_ok-push.ensures.items
      c.span.ensures.value c.loop-found.invariant.spans;
  none = λ first. absurd (true≢false (sym first ∙ c.if-only_first.false));
}

pub returns-then-only_first-clause-added : goal.returns-then-only_first-clause-added
returns-then-only_first-clause-added g c =
    first_given c.into_iter-found-iterator.result c.loop-found.found-iterator c.next.new.self c.loop-found.yielded
    (matches_by_kind (regex_kind c.args.regex.now) (search_for (sought c.args.regex.now) c.args.input.now) c.args.input.now.span.start None)
    (ap find_with_left c.into_iter-found-iterator.ensures.into_iter_gives ∙ c.find_iter_with-found-items.ensures.left_by)
    c.loop-found.yielded_by c.args.only_first c.in-Some.found c.args.spans.now.items c.loop-found.spans.items _ c.span.result c.if-only_first.true
    c.in-Some.ensures.steps c.loop-found.invariant.none c.in_ok-push.ensures.items c.span.ensures.value c.loop-found.invariant.spans

pub returns-clause-added : goal.returns-clause-added
returns-clause-added g c =
    all_given c.into_iter-found-iterator.result c.loop-found.found-iterator c.next.new.self c.loop-found.yielded
    (matches_by_kind (regex_kind c.args.regex.now) (search_for (sought c.args.regex.now) c.args.input.now) c.args.input.now.span.start None)
    (ap find_with_left c.into_iter-found-iterator.ensures.into_iter_gives ∙ c.find_iter_with-found-items.ensures.left_by)
    c.loop-found.yielded_by c.args.only_first c.args.spans.now.items _ c.in-None.ensures.steps c.loop-found.invariant.none c.loop-found.invariant.spans
