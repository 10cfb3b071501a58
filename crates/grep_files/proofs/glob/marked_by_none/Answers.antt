use Rattle.std.proofs.Common.{◌≡◌, ◌-◌, ◌<◌, ◌+◌, ◌∙◌, [], false, ap, arith, drop, length}
use Rattle.grep_files.specs.Marks.{marks}
use Rattle.grep_files.proofs.GlobLemmas.{mark_more, next_none}
use Rattle.grep_files.proofs.glob.marked_by_none.Goals as goal

-- a longer end
pub loop-place-preserved : goal.loop-place-preserved
loop-place-preserved c =
    let name = c.args.name.now in
    let p = c.loop-place._place - 1 in
    let lt : p < length name = omega (arith, c.loop-place-test.true, c.loop-place.auto._place) in
    let back : c.loop-place._place ≡ p + 1 = omega (arith, c.loop-place-test.true) in
    c.in_ok-push-2.ensures.items
    ∙ mark_more [] name p false c.loop-place.marks.items lt (c.loop-place.invariant ∙ ap (λ k. marks [] (drop k name)) back) (next_none name p lt)
