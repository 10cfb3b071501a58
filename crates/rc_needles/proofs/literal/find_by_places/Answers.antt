use Rattle.std.proofs.Common.{arith, ◌≡◌, ◌-◌, ◌∙◌, refl, sym, Some}
use Rattle.rc_needles.specs.Needles.{needle_at}
use Rattle.rc_needles.specs.Prefilters.{needles_of}
use Rattle.rc_needles.proofs.FindLemmas.{starts_passed, first_found, none_found, are_past, needle_within, same_at}
use Rattle.rc_needles.proofs.literal.find_by_places.Goals as goal

pub returns-in-Some-clause-value : goal.returns-in-Some-clause-value
returns-in-Some-clause-value g c =
    let searcher = c.args.prefilter.now.searcher in
    let needles = needles_of c.args.prefilter.now in
    let content = c.args.input.now.content in
    let lo = c.args.from in
    let hi = c.args.end in
    let x = c.place_from.result - searcher.offset in
    let same : c.loop-at.input.content ≡ content = c.loop-at.invariant.keeps.content in
    let text : c.place_from.new.input.content ≡ content = c.place_from.ensures.keeps.content ∙ same in
    let here : Some c.in-Some.hit ≡ needle_at needles content hi x = sym c.in-Some.is ∙ c.needle_at.ensures.value
    ∙ same_at needles c.place_from.new.input.content content hi hi x x text refl refl in
    first_found needles content lo hi x c.in-Some.hit (omega (arith, c.loop-at.invariant.from, c.place_from.ensures.low)) (omega (arith, c.if-at-last.true))
    (starts_passed needles content lo hi searcher.offset c.loop-at.at c.place_from.result c.loop-at.invariant.none_before
    (rw (← same) c.place_from.ensures.passed))
    here

pub returns-in-Some-clause-within : goal.returns-in-Some-clause-within
returns-in-Some-clause-within g c =
    let needles = needles_of c.args.prefilter.now in
    let r = needle_within needles c.place_from.new.input.content c.args.end (c.place_from.result - c.args.prefilter.now.searcher.offset) c.in-Some.hit
    c.args.prefilter.now.searcher.table.some (sym c.in-Some.is ∙ c.needle_at.ensures.value) in
    (omega (arith, r.0, c.loop-at.invariant.from, c.place_from.ensures.low), omega (arith, r.0, r.1), r.2)

pub returns-clause-value : goal.returns-clause-value
returns-clause-value g c =
    let searcher = c.args.prefilter.now.searcher in
    let needles = needles_of c.args.prefilter.now in
    none_found needles c.args.input.now.content c.args.from c.args.end searcher.offset c.loop-at.at
    (are_past needles searcher.offset searcher.scan searcher.table.some searcher.is_scan) (omega (arith, c.loop-at-test.false))
    c.loop-at.invariant.none_before
