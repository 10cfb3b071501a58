use Rattle.std.proofs.Common.{◌≡◌, ◌+◌, ◌-◌, take, drop, ◌++◌, length, length-append, length-drop, arith, ap, ◌∙◌}
use Rattle.std.proofs.lemmas.List.{length-take-le}
use Rattle.gap_buffer.proofs.Gaps.{back_by, moved_on}
use Rattle.gap_buffer.specs.Edits.{Edited}
use Rattle.gap_buffer.proofs.buffer.GapBuffer.move_to.Goals as goal

pub returns-then-at-self-clause-content : goal.returns-then-at-self-clause-content
returns-then-at-self-clause-content c =
    let b = c.self.inside in
    let xs = b.bytes.items in
    let a = c.min-at.result in
    let m = b.gap - a in
    let d = b.rest - m in
    let inv = c.self.invariant in
    let gap : a + m ≡ b.gap = omega (arith, c.if-at-self.true) in
    let end : d + m ≡ b.rest = omega (arith, c.if-at-self.true, inv.0) in
    ap (λ ys. take a ys ++ drop d ys) c.copy_within.ensures.items
    ∙ back_by xs a m d (omega (arith, gap, end, inv.0)) (omega (arith, end, inv.1, b.bytes.ok.0))
    ∙ ap (λ g. take g xs ++ drop (d + m) xs) gap ∙ ap (λ r. take b.gap xs ++ drop r xs) end
    ∙ ap (λ (t : Edited). t.content) c.self.view_is

pub returns-else-at-self-clause-content : goal.returns-else-at-self-clause-content
returns-else-at-self-clause-content c =
    let b = c.self.inside in
    let xs = b.bytes.items in
    let a = c.min-at.result in
    let inv = c.self.invariant in
    let m = a - b.gap in
    let content = ap (λ (t : Edited). length t.content) c.self.view_is in
    let sized = length-append (take b.gap xs) (drop b.rest xs) in
    let front = length-take-le b.gap xs (omega (arith, inv.0, inv.1, b.bytes.ok.0)) in
    let behind = length-drop b.rest xs in
    moved_on xs c.copy_within-else-at-self.new.self.items b.gap b.rest a m (b.rest + m - b.rest) c.copy_within-else-at-self.ensures.items (omega arith) inv.0
    (omega (arith, c.if-at-self.false))
    (omega (arith, c.if-at-self.false, c.min-at.ensures, c.len.ensures, content, sized, front, behind, inv.0, inv.1, b.bytes.ok.0))
    ∙ ap (λ (t : Edited). t.content) c.self.view_is
