use Rattle.std.proofs.Common.{◌≡◌, ◌+◌, min, length, sym, ap, ap₂, subst, ◌∙◌, arith}
use Rattle.live_matches.specs.Live.{IsEdited}
use Rattle.live_matches.specs.declared.entry.Edit.{Edit}
use Rattle.gap_buffer.specs.Edits.{Edited, cut_after}
use Rattle.gap_buffer.specs.Typed.{edit_of}
use Rattle.gap_buffer.proofs.Typed.{is_edited}
use Rattle.gap_buffer.proofs.typing.type_over.Goals as goal

pub returns-clause-text : goal.returns-clause-text
returns-clause-text c = c.delete_after.ensures ∙ ap (λ (t : Edited). cut_after t c.args.deleted) c.in_ok-insert.ensures

pub returns-clause-edit : goal.returns-clause-edit
returns-clause-edit c =
    let t = c.args.text.now in
    let end : c.min-end.result ≡ min (t.caret + c.args.deleted) (length t.content) =
    omega (arith, c.min-end.ensures, c.saturating_add.ensures, c.caret-start.ensures.value, c.len.ensures, c.len.type_inv) in
    ap₂ (λ s e. record { replaced = record { start = s; end = e }; inserted = length c.args.bytes.now }) c.caret-start.ensures.value end

pub returns-clause-edited : goal.returns-clause-edited
returns-clause-edited c =
    let t = c.args.text.now in
    let bytes = c.args.bytes.now in
    let end : c.min-end.result ≡ min (t.caret + c.args.deleted) (length t.content) =
    omega (arith, c.min-end.ensures, c.saturating_add.ensures, c.caret-start.ensures.value, c.len.ensures, c.len.type_inv) in
    let is : record { replaced = record { start = c.caret-start.result; end = c.min-end.result }; inserted = length bytes } ≡ edit_of t c.args.deleted bytes =
    ap₂ (λ s e. record { replaced = record { start = s; end = e }; inserted = length bytes }) c.caret-start.ensures.value end in
    let new = ap (λ (x : Edited). x.content) (c.delete_after.ensures ∙ ap (λ (x : Edited). cut_after x c.args.deleted) c.in_ok-insert.ensures) in
    subst (λ (e : Edit). IsEdited e t.content c.delete_after.new.self.content) (sym is)
    (subst (IsEdited (edit_of t c.args.deleted bytes) t.content) (sym new)
    (is_edited t c.args.deleted bytes (omega (arith, c.caret-start.ensures.within, c.caret-start.ensures.value))))
