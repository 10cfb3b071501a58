use Rattle.std.proofs.Common.{rules, arith, ◌≡◌, ◌<◌, length, ap, ◌∙◌}
use Rattle.rc_needles.specs.Tables.{needles_in, numbered}
use Rattle.rc_needles.proofs.StandLemmas.{numbered_in, needle_count}
use Rattle.rc_needles.proofs.TableLemmas.{needles_more}
use Rattle.rc_needles.proofs.prefilter.copy_of.Goals as goal

pub loop-needle-preserved : goal.loop-needle-preserved
loop-needle-preserved c =
    let vs = c.args.prefilter.now.searcher.table.needles.items in
    let i = c.loop-needle.needle-index in
    let l : i < length vs = omega (arith, c.loop-needle-test.true, c.deref-needle-items.ensures.value) in
    let w : c.needle-item.result.items ≡ numbered (needles_in vs) i = numbered_in vs i c.needle-item.result l (rw (← c.deref-needle-items.ensures.value) c.needle-item.is) in
    let e : c.as_slice.result.now ≡ numbered (needles_in vs) i = c.as_slice.ensures.value ∙ w in
    let copy : c.in_ok-to_vec.field-0.items ≡ c.as_slice.result.now = search rules in
    ap needles_in c.in_ok-push.ensures.items
    ∙ needles_more c.loop-needle.needles.items c.in_ok-to_vec.field-0 (needles_in vs) i (omega (arith, l, needle_count vs)) c.loop-needle.invariant (copy ∙ e)
