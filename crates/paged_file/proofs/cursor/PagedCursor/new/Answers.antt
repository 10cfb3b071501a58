use Rattle.std.proofs.Common.{◌≡◌, ◌<◌, arith, length, rules, take, drop, zero-le}
use Rattle.paged_file.specs.Kept.{IsMet, IsShown}
use Rattle.paged_file.proofs.Shown.{length-page, page_shows}
use Rattle.paged_file.proofs.cursor.PagedCursor.new.Goals as goal

pub invariant_of-result : goal.invariant_of-result
invariant_of-result g c =
    let len = c.max-page_len.result in
    let stored = g.P.Pages.stored c.args.file in
    let page = c.read.new.self in
    let chunk = take page.len page.bytes.items in
    let some : 0 < len = omega arith in
    let room : length c.in_ok-shown.shown.bytes.items ≡ len = c.in_ok-shown.ensures.room in
    let is : chunk ≡ take len (drop 0 stored.bytes) = rw (← room) c.read.ensures.bytes in
    let size = length-page stored.bytes chunk len 0 is in
    let first : page.offset ≡ 0 = c.read.ensures.offset in
    let shown : IsShown stored len page = record {
      some = some;
      held = record { room = omega (arith, c.read.ensures.room, room); within = omega (arith, c.read.ensures.within, room); filled = λ h. rw first is };
      start = (0, omega (arith, first));
      shows = rw first (page_shows stored.bytes chunk len 0 is zero-le (λ none. omega (arith, none, size, some)) c.read.ensures.small);
    } in
    let met : IsMet stored c.err-failure.result = search rules in
    rw c.read.ensures.stored (shown, c.in_ok-spares.ensures.held stored.bytes, met)
