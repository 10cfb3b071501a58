use Rattle.std.proofs.Common.{ℕ, List, ◌≡◌, ◌+◌, take, drop, length, ◌++◌, arith, ap, refl, ◌∙◌}
use Rattle.gap_buffer.proofs.Gaps.{written}
use Rattle.gap_buffer.specs.Edits.{Edited, inserted}
use Rattle.gap_buffer.proofs.buffer.GapBuffer.insert.Goals as goal

pub returns-then-end-self : goal.returns-then-end-self
returns-then-end-self c =
    let b = c.self.inside in
    let xs = b.bytes.items in
    let bytes = c.args.bytes.now in
    let n = length bytes in
    let inv = c.self.invariant in
    let sized = b.bytes.ok.0 in
    let end : c.saturating_add-end.result ≡ b.gap + n = omega (arith, c.saturating_add-end.ensures, c.if-end-self.true, inv.1, b.bytes.ok) in
    let as_text : List ℕ → Edited = λ content. record { content = content; caret = b.gap + n } in
    let ys = c.write_at.new.bytes.items in
    let at_end : ℕ → Edited = λ e. record { content = take e ys ++ drop b.rest ys; caret = e } in
    ap at_end end
    ∙ ap (λ zs. as_text (take (b.gap + n) zs ++ drop b.rest zs)) c.write_at.ensures.items
    ∙ ap as_text (written xs bytes b.gap b.rest n refl (omega (arith, end, c.if-end-self.true)) (omega (arith, inv.1, sized)))
    ∙ ap (λ t. inserted t bytes) c.self.view_is
