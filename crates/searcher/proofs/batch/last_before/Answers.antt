use Rattle.std.proofs.Common.{◌<◌, ◌≤◌, ◌∙◌, ap, arith, sym}
use Rattle.api_meta.specs.Lent.{find_with_left}
use Rattle.api_meta.specs.Views.{regex_kind, sought}
use Rattle.rc_program.specs.Sought.{search_for}
use Rattle.searcher.proofs.Lasts.{last_is, last_more}
use Rattle.searcher.proofs.batch.last_before.Goals as goal

pub returns-then-start-place-clause-found : goal.returns-then-start-place-clause-found
returns-then-start-place-clause-found g c =
    let over : c.args.place ≤ c.in-Some.found.start = omega (arith, c.if-start-place.true, c.start.ensures.value) in
    last_is (regex_kind c.args.regex.now) (search_for (sought c.args.regex.now) c.args.input.now) c.args.input.now.span.start c.args.place
    c.into_iter-found-iterator.result c.loop-found.found-iterator c.next.new.self c.loop-found.yielded c.in-Some.found c.loop-found.last
    (ap find_with_left c.into_iter-found-iterator.ensures.into_iter_gives ∙ c.find_iter_with-found-items.ensures.left_by)
    c.loop-found.yielded_by c.in-Some.ensures.steps over c.loop-found.invariant

pub loop-found-preserved : goal.loop-found-preserved
loop-found-preserved g c =
    let below : c.in-Some.found.start < c.args.place = omega (arith, c.if-start-place.false, c.start.ensures.value) in
    sym (last_more c.args.place c.loop-found.yielded c.in-Some.found below)
