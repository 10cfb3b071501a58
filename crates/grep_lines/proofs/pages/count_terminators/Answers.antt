use Rattle.std.proofs.Common.{◌≡◌, ◌+◌, ◌++◌, ◌∙◌, ap, ap₂, arith, length, length-append, not, refl, sym}
use Rattle.std.specs.List.{filter}
use Rattle.std.proofs.lemmas.List.{take-append-drop}
use Rattle.std.proofs.lemmas.List.Elements.{filter-append}
use Rattle.std.proofs.lemmas.List.Filters.{length-filter_both}
use Rattle.grep_lines.specs.Pages.{ends_line}
use Rattle.grep_lines.proofs.pages.count_terminators.Goals as goal

pub loop-left-preserved : goal.loop-left-preserved
loop-left-preserved c =
    let ends = ends_line c.args.terminator in
    let few = c.split_at.result.0.now in
    let rest = c.split_at.result.1.now in
    let cut = c.split_at.ensures in
    let split : c.loop-left.left.now ≡ few ++ rest =
    sym (take-append-drop c.min.result c.loop-left.left.now) ∙ ap₂ ◌++◌ (sym cut.front) (sym cut.back) in
    let passed : length (filter ends c.loop-left.left.now) ≡ length (filter ends few) + length (filter ends rest) =
    ap (λ xs. length (filter ends xs)) split ∙ ap length (filter-append ends few rest) ∙ length-append (filter ends few) (filter ends rest) in
    let others = length-filter_both ends (λ x. not (ends x)) (λ x. refl) few in
    let size = ap length split ∙ length-append few rest in
    let before = c.loop-left.invariant in
    record {
      counted = omega (arith, before.counted, passed, c.count_few.ensures);
      few = omega (arith, before.few, others, size, c.count_few.ensures);
    }
