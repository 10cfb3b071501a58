use Rattle.std.proofs.Common.{arith, ◌≡◌, ◌<◌, length, ap, sym, ◌∙◌, max}
use Rattle.std.proofs.lemmas.Grind.{common_steps}
use Rattle.rc_needles.specs.Tables.{needles_in, numbered}
use Rattle.rc_needles.proofs.StandLemmas.{numbered_in, needle_count}
use Rattle.rc_needles.proofs.TableLemmas.{longest_next}
use Rattle.rc_needles.proofs.prefilter.Prefilter.max_needle_len.Goals as goal

pub loop-needle-preserved : goal.loop-needle-preserved
loop-needle-preserved c =
    let vs = c.args.self.now.searcher.table.needles.items in
    let i = c.loop-needle.needle-index in
    let l : i < length vs = omega (arith, c.loop-needle-test.true, c.deref-needle-items.ensures.value) in
    let w : c.needle-item.result.items ≡ numbered (needles_in vs) i = numbered_in vs i c.needle-item.result l (rw (← c.deref-needle-items.ensures.value) c.needle-item.is) in
    let e : c.as_slice.result.now ≡ numbered (needles_in vs) i = c.as_slice.ensures.value ∙ w in
    let next = longest_next (needles_in vs) i (omega (arith, l, needle_count vs)) in
    let now = c.max-most.ensures in
    let m : c.max-most.result ≡ max c.loop-needle.most (length c.as_slice.result.now) = grind (arith, common_steps) in
    m ∙ ap (λ k. max c.loop-needle.most (length k)) e ∙ ap (λ k. max k (length (numbered (needles_in vs) i))) c.loop-needle.invariant ∙ sym next
