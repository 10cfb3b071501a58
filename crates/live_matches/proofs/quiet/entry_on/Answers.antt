use Rattle.std.proofs.Common.{◌∙◌, ◌+◌, Some, refl, sym, ap, arith}
use Rattle.api_meta.specs.Views.{regex_kind}
use Rattle.live_matches.specs.Live.{seeks}
use Rattle.live_matches.proofs.Quiets.{entry_from, next_is}
use Rattle.live_matches.proofs.Spans.{near_all}
use Rattle.live_matches.proofs.quiet.entry_on.Goals as goal

pub returns-in-Some-clause-next : goal.returns-in-Some-clause-next
returns-in-Some-clause-next g c =
    let r = c.args.regex.now in
    let short = c.requires.short in
    let first = c.search_from-first in
    let e = c.entry_of in
    entry_from (regex_kind r) (seeks r) short.leftmost refl (c.args.longest + 4) (near_all r c.args.longest short) c.args.input.now.content c.args.last
    c.args.from first.result.reach e.result c.requires.from.begins (omega (arith, c.if-from-place_of.false, c.place_of.ensures))
    (sym first.ensures.found ∙ c.in-Some.is ∙ ap Some (sym e.ensures.found)) first.ensures.fixed
    (omega (arith, e.ensures.reach, c.max.ensures)) (omega (arith, e.ensures.reach, c.max.ensures))

pub returns-in-None-clause-next : goal.returns-in-None-clause-next
returns-in-None-clause-next g c =
    let r = c.args.regex.now in
    next_is (regex_kind r) (seeks r) c.requires.short.leftmost refl c.args.input.now.content c.args.last c.args.from
    (omega (arith, c.if-from-place_of.false, c.place_of.ensures)) c.requires.from.begins
    ∙ sym c.search_from-first.ensures.found ∙ c.in-None.is
