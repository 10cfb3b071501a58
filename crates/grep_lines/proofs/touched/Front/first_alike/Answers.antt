use Rattle.std.proofs.Common.{◌≡◌, ◌≤◌, ◌<◌, ◌+◌, ◌∙◌, ap, arith, cond, drop, not, subst, sym}
use Rattle.std.specs.Prelude.{IfSome, slice_get, slice_range}
use Rattle.std.proofs.lemmas.List.{take-append-drop}
use Rattle.grep_lines.specs.Lines.{AreLinesOf}
use Rattle.grep_lines.specs.Touched.{are_from, behind, picks_touched}
use Rattle.grep_lines.proofs.StretchLemmas.{left_tell, page_alike}
use Rattle.grep_lines.proofs.TouchedLemmas.{left_first, left_ordered}
use Rattle.grep_lines.proofs.touched.Front.first_alike.Goals as goal

-- the spans that are left are asked
pub touched_until-until-requires-clause-left : goal.touched_until-until-requires-clause-left
touched_until-until-requires-clause-left c =
    let front = c.args.self.now in
    subst (λ spans. IfSome (slice_get spans 0) (λ s. front.place < behind s)) (sym c.requires.left) (left_first front.place front.touched.now.spans.now)

pub touched_until-until-requires-clause-ordered : goal.touched_until-until-requires-clause-ordered
touched_until-until-requires-clause-ordered c =
    let front = c.args.self.now in
    ap (are_from 0) c.requires.left ∙ left_ordered front.place 0 front.touched.now.spans.now front.touched.now.ordered

-- the lines before the position are alike
pub returns-clause-block : goal.returns-clause-block
returns-clause-block c =
    let front = c.args.self.now in
    let stop = c.args.terminator in
    let page = c.args.page.now in
    let spans = front.touched.now.spans.now in
    let inverted = front.touched.now.is_inverted in
    let until = c.touched_until-until.result.0 in
    let told = c.touched_until-until.ensures in
    let are = c.lines_before-end.ensures in
    let alike : (start end : _) → start ≤ end → end < until → AreLinesOf stop page start end →
    picks_touched inverted spans (front.place + start) (slice_range page start end) ≡ c.picks.result =
    λ start end order near stood.
    ap (λ b. cond inverted (not b) b)
    (sym (left_tell front.place (front.place + start) (slice_range page start end) spans front.spans.now (omega arith) c.requires.left) ∙ told.alike start end order near stood)
    ∙ sym c.picks.ensures in
    record {
      whole = are.whole;
      counted = are.counted;
      alike = page_alike stop (picks_touched inverted spans) c.picks.result page until front.place alike c.lines_before-end.result.0 c.lines_before-end.result.1 are
          (omega (arith, are.within, told.within));
    }

pub returns-clause-part : goal.returns-clause-part
returns-clause-part c =
    record { rest = drop c.lines_before-end.result.0 c.args.page.now; is = sym (take-append-drop c.lines_before-end.result.0 c.args.page.now) }
