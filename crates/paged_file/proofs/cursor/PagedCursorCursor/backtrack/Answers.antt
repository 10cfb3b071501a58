use Rattle.std.proofs.Common.{◌≡◌, ◌-◌, ◌<◌, ap, arith, subst}
use Rattle.paged_file.specs.Kept.{IsStart, Paged}
use Rattle.paged_file.proofs.Shown.{IsLawful, goes_back, prior_start}
use Rattle.paged_file.proofs.cursor.PagedCursorCursor.backtrack.Goals as goal

pub show-requires : goal.show-requires
show-requires g c =
    let s = c.show.inside in
    let at = s.shown.offset - s.page_len in
    let some : 0 < s.shown.offset = omega (arith, c.if-self-eq0.false, ap (λ (v : Paged). v.offset) c.self.view_is, ap (λ (v : Paged). v.offset) c.show.view_is) in
    let prior = prior_start s.page_len s.shown.offset c.show.invariant.0.start some in
    record { start = λ h. subst (λ (v : Paged). IsStart v.page_len at) c.show.view_is prior.0 }

pub returns-clause-moved : goal.returns-clause-moved
returns-clause-moved g c =
    let s = c.show.inside in
    let v = c.args.self.now in
    let offset : s.shown.offset ≡ v.offset = ap (λ (v : Paged). v.offset) c.show.view_is in
    let len : s.page_len ≡ v.page_len = ap (λ (v : Paged). v.page_len) c.show.view_is in
    let some : 0 < v.offset = omega (arith, c.if-self-eq0.false, ap (λ (v : Paged). v.offset) c.self.view_is) in
    let shown = c.show.invariant.0 in
    let law : IsLawful v = subst IsLawful c.show.view_is (record { some = shown.some; start = shown.start; shows = shown.shows }) in
    goes_back v c.show-2.new.self (s.shown.offset - s.page_len) law (omega (arith, offset, len)) some c.show-2.result c.show-2.ensures.shown
