use Rattle.std.proofs.Common.{◌≡◌, ◌<◌, Some, arith, get_or, length, subst, sym, take, ◌∙◌}
use Rattle.std.proofs.Math.Seq.{lt-length-set}
use Rattle.std.proofs.lemmas.List.{length-take-le}
use Rattle.std.proofs.lemmas.List.Elements.{All-get_or, All-set}
use Rattle.paged_file.specs.Kept.{AreHeld, Fetched, IsHeld, IsStart, Paged}
use Rattle.paged_file.proofs.Shown.{length-page, page_shows}
use Rattle.paged_file.proofs.cursor.PagedCursor.show.Goals as goal

pub invariant_of-self : goal.invariant_of-self
invariant_of-self g c =
    let s = c.self.inside in
    let inv = c.self.invariant in
    let len = s.page_len in
    let stored = g.P.Pages.stored s.file in
    let bytes = stored.bytes in
    let at = c.args.at in
    let slot = c.in-Ok-Some.slot in
    let pages = c.fetch.new.self.pages.items in
    let page = c.swap.new.x in
    let chunk = take page.len page.bytes.items in
    let is : page ≡ get_or pages slot c.index_mut.result.now = c.swap.ensures.x_after ∙ c.index_mut.ensures.value in
    let held : AreHeld bytes len pages = c.fetch.ensures.held in
    let fetched : Fetched stored at (Some slot) pages = subst (λ o. Fetched stored at o pages) c.in-Ok-Some.field-0-is c.in-Ok-Some.ensures.gives in
    let one : IsHeld bytes len page = rw is (All-get_or (IsHeld bytes len) pages slot c.index_mut.result.now fetched.0 held.each) in
    let there = fetched.1 c.index_mut.result.now in
    let place : page.offset ≡ at = rw is there.0 in
    let some : 0 < page.len = rw is there.1 in
    let long : length chunk ≡ page.len = length-take-le page.len page.bytes.items (omega (arith, one.within, one.room)) in
    let size = length-page bytes chunk len page.offset (one.filled some) in
    let within : page.offset < length bytes = omega (arith, long, size, some) in
    let start : at < length bytes → IsStart len at = subst (λ (v : Paged). at < length v.stored.bytes → IsStart v.page_len at) (sym c.self.view_is) c.requires.start in
    rw c.fetch.ensures.stored (
      record {
        some = inv.0.some;
        held = one;
        start = rw place (start (omega (arith, place, within)));
        shows = page_shows bytes chunk len page.offset (one.filled some) (omega (arith, within)) (λ none. absurd (omega (arith, none, long, some))) inv.0.shows.small;
      },
      record {
        each = All-set (IsHeld bytes len) pages slot c.swap.new.y (rw c.swap.ensures.y_after inv.0.held) held.each;
        one = lt-length-set pages slot c.swap.new.y held.one;
      },
      inv.2,
    )
