use Rattle.std.proofs.Common.{arith, ◌≡◌, ◌<◌, length, ap, ◌∙◌, below_more}
use Rattle.std.proofs.lemmas.Bool.{false≢true}
use Rattle.std.proofs.lemmas.Bool.Decides.{nat_tests}
use Rattle.rc_needles.specs.Tables.{needles_in, numbered}
use Rattle.rc_needles.proofs.StandLemmas.{numbered_in, needle_count}
use Rattle.rc_needles.proofs.prefilter.is_usable.Goals as goal

pub returns-then-is_empty : goal.returns-then-is_empty
returns-then-is_empty c =
    let vs = c.args.needles.now.items in
    let i = c.loop-needle.needle-index in
    let l : i < length vs = omega (arith, c.loop-needle-test.true, ap length c.deref-needle-items.ensures.value) in
    let w : c.needle-item.result.items ≡ numbered (needles_in vs) i = numbered_in vs i c.needle-item.result l (rw (← c.deref-needle-items.ensures.value) c.needle-item.is) in
    let e : c.as_slice.result.now ≡ numbered (needles_in vs) i = c.as_slice.ensures.value ∙ w in
    let none : length c.as_slice.result.now ≡ 0 = grind (arith, nat_tests) in
    ((λ t. absurd (false≢true t)), (λ h. absurd (let some = h.1 i (omega (arith, l, needle_count vs)) in omega (arith, some, none, ap length e))))

pub loop-needle-preserved : goal.loop-needle-preserved
loop-needle-preserved c =
    let vs = c.args.needles.now.items in
    let i = c.loop-needle.needle-index in
    let l : i < length vs = omega (arith, c.loop-needle-test.true, ap length c.deref-needle-items.ensures.value) in
    let w : c.needle-item.result.items ≡ numbered (needles_in vs) i = numbered_in vs i c.needle-item.result l (rw (← c.deref-needle-items.ensures.value) c.needle-item.is) in
    let e : c.as_slice.result.now ≡ numbered (needles_in vs) i = c.as_slice.ensures.value ∙ w in
    below_more _ _ c.loop-needle.invariant (let some : 0 < length c.as_slice.result.now = grind (arith, nat_tests) in omega (arith, some, ap length e))
