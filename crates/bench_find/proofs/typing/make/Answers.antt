use Rattle.std.proofs.Common.{◌≡◌, ◌+◌, ◌≤◌, ◌++◌, min, length, drop, take, ap, sym, subst, ◌∙◌, arith}
use Rattle.gap_buffer.specs.Edits.{Edited}
use Rattle.live_matches.specs.Live.{IsEdited}
use Rattle.bench_find.proofs.Replaced.{is_edited, put}
use Rattle.bench_find.proofs.typing.make.Goals as goal

pub returns : goal.returns
returns c =
    let old = c.args.text.now.content in
    let t = c.move_to.new.self in
    let bytes = c.args.change.now.inserted.now in
    let n = c.args.change.now.deleted in
    let a = c.caret-start.result in
    let same : t.content ≡ old = c.move_to.ensures.content in
    let sized = ap length same in
    let inside : a ≤ length old = omega (arith, c.caret-start.ensures.within, sized) in
    let end : c.min-end.result ≡ min (a + n) (length old) =
    omega (arith, c.min-end.ensures, c.saturating_add.ensures, c.len.ensures, sized, c.len.type_inv) in
    let new_is : c.insert.new.self.content ≡ put old bytes a n inside =
    ap (λ (x : Edited). x.content) c.in_ok-insert.ensures
    ∙ ap (λ (x : Edited). take x.caret x.content ++ bytes ++ drop x.caret x.content) c.delete_after.ensures
    ∙ ap (λ k. take k (take k t.content ++ drop (k + n) t.content) ++ bytes ++ drop k (take k t.content ++ drop (k + n) t.content)) (sym c.caret-start.ensures.value)
    ∙ ap (λ x. take a (take a x ++ drop (a + n) x) ++ bytes ++ drop a (take a x ++ drop (a + n) x)) same in
    subst (IsEdited _ old) (sym new_is) (is_edited old bytes a n inside c.min-end.result end)
