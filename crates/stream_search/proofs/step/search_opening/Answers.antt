use Rattle.std.proofs.Common.{◌≡◌, ◌∙◌, ap, arith, false, length, length-take, subst, take}
use Rattle.api_meta.specs.Partials.{partial_of}
use Rattle.api_meta.specs.Views.{regex_kind, sought}
use Rattle.stream_search.specs.Searches.{seeks}
use Rattle.stream_search.specs.Stepping.{GoesTo}
use Rattle.stream_search.specs.Streams.{IsTold}
use Rattle.stream_search.proofs.Kept.{goes_open, told_open}
use Rattle.stream_search.proofs.step.search_opening.Goals as goal

pub returns-clause-onward : goal.returns-clause-onward
returns-clause-onward g c =
    let r = g.F.PartialFinder.searched_by c.args.finder.now in
    let i = c.input_from-input in
    let p = c.find_partial in
    let shown = take c.new.result.len (g.C.Cursor.content c.new.result.cursor) in
    let same : shown ≡ take c.args.end (g.C.Cursor.content c.args.cursor) = c.new.ensures.content ∙ ap (take c.args.end) c.seek.ensures.content in
    let l = ap length same in
    let t = length-take c.args.end (g.C.Cursor.content c.args.cursor) in
    let before = c.requires.before in
    let inside = c.requires.inside in
    let long : length shown ≡ c.args.end = omega (arith, l, t, inside) in
    subst (λ n. GoesTo c.args.at n p.result) long
    (goes_open r i.result shown c.args.at (i.ensures.search (sought r)) p.result (omega (arith, long, before)) p.ensures.onward)

pub returns-clause-told : goal.returns-clause-told
returns-clause-told g c =
    let r = g.F.PartialFinder.searched_by c.args.finder.now in
    let i = c.input_from-input in
    let p = c.find_partial in
    let shown = take c.new.result.len (g.C.Cursor.content c.new.result.cursor) in
    let same : shown ≡ take c.args.end (g.C.Cursor.content c.args.cursor) = c.new.ensures.content ∙ ap (take c.args.end) c.seek.ensures.content in
    subst (λ b. IsTold (regex_kind r) (seeks r) false b c.args.at (partial_of p.result)) same
    (told_open r i.result shown c.args.at (i.ensures.search (sought r)) p.result p.ensures.onward p.ensures.told)
