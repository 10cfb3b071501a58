use Rattle.std.proofs.Common.{ℕ, List, arith}
use Rattle.std.proofs.lemmas.List.Elements.{All-push}
use Rattle.paged_file.specs.Kept.{IsHeld}
use Rattle.paged_file.proofs.page.Spares.new.Goals as goal

pub loop-preserved : goal.loop-preserved
loop-preserved c =
    let page = c.in_ok-new.field-0 in
    let len = c.in_ok-new.ensures.len in
    let empty : (bytes : List ℕ) → IsHeld bytes c.args.page_len page =
    λ bytes. record { room = c.in_ok-new.ensures.room; within = omega (arith, len); filled = λ some. absurd (omega (arith, some, len)) } in
    record {
      count = omega (arith, c.in_ok-push.ensures.len, c.loop.invariant.count);
      each = λ bytes. rw c.in_ok-push.ensures.items (All-push (IsHeld bytes c.args.page_len) c.loop.pages.items page (c.loop.invariant.each bytes) (empty bytes));
    }
