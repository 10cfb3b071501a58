use Rattle.std.proofs.Common.{arith, ◌≡◌, ◌∙◌, sym}
use Rattle.rc_text.specs.Text.{low, high}
use Rattle.rc_needles.specs.Needles.{needle_at}
use Rattle.rc_needles.specs.Prefilters.{needles_of}
use Rattle.rc_needles.proofs.FindLemmas.{same_low, prefix_is, none_past, if_needle_within, same_at}
use Rattle.rc_needles.proofs.literal.prefix.Goals as goal

pub returns-then-at-end-clause-value : goal.returns-then-at-end-clause-value
returns-then-at-end-clause-value g c =
    let needles = needles_of c.args.prefilter.now in
    let lo : c.low-at.result ≡ low c.args.input.now = c.low-at.ensures ∙ same_low c.args.input.now c.high-end.new.input c.high-end.ensures.keeps in
    let here : c.needle_there.result ≡ needle_at needles c.args.input.now.content (high c.args.input.now) (low c.args.input.now) =
    c.needle_there.ensures.value
    ∙ same_at needles c.high-end.new.input.content c.args.input.now.content c.high-end.result (high c.args.input.now) c.low-at.result (low c.args.input.now)
    c.high-end.ensures.keeps.content c.high-end.ensures.value lo in
    here ∙ prefix_is needles c.args.input.now.content (low c.args.input.now) (high c.args.input.now)

pub returns-then-at-end-clause-within : goal.returns-then-at-end-clause-within
returns-then-at-end-clause-within g c =
    let needles = needles_of c.args.prefilter.now in
    let lo : c.low-at.result ≡ low c.args.input.now = c.low-at.ensures ∙ same_low c.args.input.now c.high-end.new.input c.high-end.ensures.keeps in
    let here : c.needle_there.result ≡ needle_at needles c.args.input.now.content (high c.args.input.now) (low c.args.input.now) =
    c.needle_there.ensures.value
    ∙ same_at needles c.high-end.new.input.content c.args.input.now.content c.high-end.result (high c.args.input.now) c.low-at.result (low c.args.input.now)
    c.high-end.ensures.keeps.content c.high-end.ensures.value lo in
    if_needle_within needles c.args.input.now.content (high c.args.input.now) (low c.args.input.now) c.needle_there.result
    c.args.prefilter.now.searcher.table.some here

pub returns-clause-value : goal.returns-clause-value
returns-clause-value g c =
    let needles = needles_of c.args.prefilter.now in
    let lo : c.low-at.result ≡ low c.args.input.now = c.low-at.ensures ∙ same_low c.args.input.now c.high-end.new.input c.high-end.ensures.keeps in
    sym (none_past needles c.args.input.now.content (high c.args.input.now) 0 (low c.args.input.now) c.args.prefilter.now.searcher.table.some
    (omega (arith, lo, c.high-end.ensures.value)))
    ∙ prefix_is needles c.args.input.now.content (low c.args.input.now) (high c.args.input.now)
