use Rattle.std.proofs.Common.{◌≡◌, ◌∙◌, ℕ, suc, ◌+◌, ◌<◌, List, length, get_or, map, drop, ap, sym, arith, drop-cons}
use Rattle.rc_pattern.specs.declared.hir.Hir.{Hir}
use Rattle.rc_pattern.specs.Meaning.{meaning}
use Rattle.rc_pattern.specs.WellFormed.{group_count}
use Rattle.rc_program.specs.Laws.{all_groups}
use Rattle.api_meta.proofs.Weights.{groups_light}
use Rattle.api_meta.proofs.counts.explicit_groups.Goals as goal

here : (hs : List Hir) (i : ℕ) (h : Hir) → i < length hs → h ≡ get_or hs i h →
    all_groups (map meaning (drop i hs)) ≡ group_count (meaning h) + all_groups (map meaning (drop (i + 1) hs))
here hs i h l e =
    let one : suc i ≡ i + 1 = omega arith in
    ap (λ xs. all_groups (map meaning xs)) (drop-cons hs i h l)
    ∙ ap (λ x. group_count (meaning x) + all_groups (map meaning (drop (suc i) hs))) (sym e)
    ∙ ap (λ j. group_count (meaning h) + all_groups (map meaning (drop j hs))) one

pub overflow_add-total : goal.overflow_add-total
overflow_add-total c =
    let l = groups_light (map meaning c.args.hirs.now) in
    let h = here c.args.hirs.now c.loop-hir.hir-index c.hir-item.result c.loop-hir-test.true c.hir-item.is in
    omega (arith, l, h, c.requires, c.loop-hir.invariant, c.group_count-total.ensures)

pub loop-hir-preserved : goal.loop-hir-preserved
loop-hir-preserved c =
    let l = groups_light (map meaning c.args.hirs.now) in
    let h = here c.args.hirs.now c.loop-hir.hir-index c.hir-item.result c.loop-hir-test.true c.hir-item.is in
    omega (arith, l, h, c.requires, c.loop-hir.invariant, c.group_count-total.ensures)
