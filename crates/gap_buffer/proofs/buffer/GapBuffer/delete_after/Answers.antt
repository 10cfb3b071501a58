use Rattle.std.proofs.Common.{ℕ, List, ◌≡◌, ◌+◌, ◌++◌, min, take, drop, length, arith, ap, ◌∙◌}
use Rattle.gap_buffer.proofs.Gaps.{cut}
use Rattle.gap_buffer.specs.Edits.{Edited, cut_after}
use Rattle.gap_buffer.proofs.buffer.GapBuffer.delete_after.Goals as goal

pub returns : goal.returns
returns c =
    let b = c.self.inside in
    let xs = b.bytes.items in
    let n = c.args.count in
    let sized : c.len.result ≡ length xs = omega (arith, c.len.ensures, b.bytes.ok.0) in
    let end : c.min-self-inside.result ≡ min (b.rest + n) (length xs) =
    omega (arith, c.min-self-inside.ensures, c.saturating_add.ensures, sized, c.len.type_inv) in
    let made : Edited → Edited = λ t. cut_after t n in
    let gone : take b.gap xs ++ drop c.min-self-inside.result xs ≡ (made (record { content = take b.gap xs ++ drop b.rest xs; caret = b.gap })).content =
    ap (λ r. take b.gap xs ++ drop r xs) end ∙ cut xs b.gap b.rest n c.self.invariant.0 (omega (arith, c.self.invariant.1, b.bytes.ok.0)) in
    let as_text : List ℕ → Edited = λ content. record { content = content; caret = b.gap } in
    ap as_text gone ∙ ap made c.self.view_is
