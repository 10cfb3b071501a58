use Rattle.std.proofs.lemmas.Bool.{ltb-true}
use Rattle.live_matches.proofs.Spans.{late_none, late_some, none_by}
use Rattle.live_matches.proofs.quiet.finds_none_by.Goals as goal

pub returns-in-Some-clause-none : goal.returns-in-Some-clause-none
returns-in-Some-clause-none g c late n short =
    let o = c.search_reach_with-reached in
    none_by c.args.regex.now c.args.input.now c.set_span.new.self c.args.at c.args.stop o.result.reach n o.result.found c.requires.over c.content_fits.ensures
    c.set_span.ensures.keeps c.set_span.ensures.span c.set_span.ensures.slice o.ensures.found o.ensures.near
    (late_some o.result.found c.in-Some.field-0 c.args.stop o.result.reach c.in-Some.is (ltb-true c.args.stop o.result.reach late)) short

pub returns-in-None-clause-none : goal.returns-in-None-clause-none
returns-in-None-clause-none g c late n short =
    let o = c.search_reach_with-reached in
    none_by c.args.regex.now c.args.input.now c.set_span.new.self c.args.at c.args.stop o.result.reach n o.result.found c.requires.over c.content_fits.ensures
    c.set_span.ensures.keeps c.set_span.ensures.span c.set_span.ensures.slice o.ensures.found o.ensures.near
    (late_none o.result.found c.args.stop o.result.reach c.in-None.is) short
