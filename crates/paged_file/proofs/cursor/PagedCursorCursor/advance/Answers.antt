use Rattle.std.proofs.Common.{◌≡◌, ◌+◌, ◌<◌, arith, inl, inr, length, subst, take}
use Rattle.std.proofs.lemmas.Bool.{cases_lt}
use Rattle.std.proofs.lemmas.List.{length-take-le}
use Rattle.paged_file.specs.Kept.{IsStart, Paged}
use Rattle.paged_file.proofs.Shown.{length-page, next_start}
use Rattle.paged_file.proofs.cursor.PagedCursorCursor.advance.Goals as goal

pub show-requires : goal.show-requires
show-requires g c =
    let s = c.show.inside in
    let page = s.shown in
    let shown = c.show.invariant.0 in
    let bytes = (g.P.Pages.stored s.file).bytes in
    let chunk = take page.len page.bytes.items in
    let long : length chunk ≡ page.len = length-take-le page.len page.bytes.items (omega (arith, shown.held.within, shown.held.room)) in
    let start : page.offset + page.len < length bytes → IsStart s.page_len (page.offset + page.len) = λ h.
    let some : 0 < page.len = elim (cases_lt 0 page.len) [ inl k ↦ k | inr k ↦ absurd (omega (arith, k, h, shown.shows.some (omega (arith, k, long)))) ] in
    let size = length-page bytes chunk s.page_len page.offset (shown.held.filled some) in
    let full : page.len ≡ s.page_len = omega (arith, size, long, h) in
    rw full (next_start s.page_len page.offset shown.start)
    in
    record { start = subst (λ (v : Paged). page.offset + page.len < length v.stored.bytes → IsStart v.page_len (page.offset + page.len)) c.show.view_is start }
