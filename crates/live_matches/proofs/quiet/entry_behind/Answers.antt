use Rattle.std.proofs.Common.{◌∙◌, ◌<◌, Some, refl, sym, ap, subst, arith}
use Rattle.api_meta.specs.Views.{regex_kind}
use Rattle.live_matches.specs.Lists.{place_of}
use Rattle.live_matches.specs.Live.{seeks}
use Rattle.live_matches.specs.Stretches.{IsQuiet}
use Rattle.live_matches.proofs.Stretched.{entry_behind, none_behind}
use Rattle.live_matches.proofs.quiet.entry_behind.Goals as goal

pub returns-in-Some-clause-next : goal.returns-in-Some-clause-next
returns-in-Some-clause-next g c =
    let r = c.args.regex.now in
    let content = c.args.input.now.content in
    let s = c.args.stretch in
    let first = c.search_from-first in
    let e = c.entry_of in
    let far : place_of c.args.last < s.end = omega (arith, c.if-stretch-place_of.false, c.place_of.ensures) in
    let quiet = subst (λ j. IsQuiet (regex_kind r) (seeks r) content s.reach j s.end) c.requires.start c.requires.quiet in
    entry_behind (regex_kind r) (seeks r) c.requires.leftmost refl content c.args.last s.end s.reach far quiet e.result first.result.reach
    (sym first.ensures.found ∙ c.in-Some.is ∙ ap Some (sym e.ensures.found)) first.ensures.fixed
    (omega (arith, e.ensures.reach, c.max.ensures)) (omega (arith, e.ensures.reach, c.max.ensures))

pub returns-in-None-clause-next : goal.returns-in-None-clause-next
returns-in-None-clause-next g c =
    let r = c.args.regex.now in
    let content = c.args.input.now.content in
    let s = c.args.stretch in
    let far : place_of c.args.last < s.end = omega (arith, c.if-stretch-place_of.false, c.place_of.ensures) in
    let quiet = subst (λ j. IsQuiet (regex_kind r) (seeks r) content s.reach j s.end) c.requires.start c.requires.quiet in
    none_behind (regex_kind r) (seeks r) c.requires.leftmost refl content c.args.last s.end s.reach far quiet
    (sym c.search_from-first.ensures.found ∙ c.in-None.is)
