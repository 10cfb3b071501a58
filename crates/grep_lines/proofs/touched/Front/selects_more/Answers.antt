use Rattle.std.proofs.Common.{◌≡◌, ◌<◌, ◌∙◌, ◌&&◌, ◌-◌, Bool, IfSome, ap, arith, cond, false, nat_lt, not, refl, subst, sym, true}
use Rattle.std.specs.Prelude.{slice_get}
use Rattle.std.proofs.lemmas.Bool.{lt-ltb}
use Rattle.grep_lines.specs.Touched.{are_from, behind, is_touched, picks_touched}
use Rattle.grep_lines.proofs.TouchedLemmas.{left_first, left_ordered, left_touch}
use Rattle.grep_lines.proofs.touched.Front.selects_more.Goals as goal

-- the spans that are left are asked
pub is_line_touched-requires-clause-left : goal.is_line_touched-requires-clause-left
is_line_touched-requires-clause-left c =
    let front = c.args.self.now in
    subst (λ spans. IfSome (slice_get spans 0) (λ s. front.place < behind s)) (sym c.requires.left) (left_first front.place front.touched.now.spans.now)

pub is_line_touched-requires-clause-ordered : goal.is_line_touched-requires-clause-ordered
is_line_touched-requires-clause-ordered c =
    let front = c.args.self.now in
    ap (are_from 0) c.requires.left ∙ left_ordered front.place 0 front.touched.now.spans.now front.touched.now.ordered

with_true : (b c : Bool) → c ≡ true → b ≡ (b && c)
with_true true c e = sym e
with_true false c e = refl

pub returns-then-self-most : goal.returns-then-self-most
returns-then-self-most c =
    let front = c.args.self.now in
    let spans = front.touched.now.spans.now in
    let inverted = front.touched.now.is_inverted in
    let place = front.place in
    let line = c.args.line.now in
    let same : c.is_line_touched.result ≡ is_touched spans place line =
    c.is_line_touched.ensures ∙ ap (λ left. is_touched left place line) c.requires.left ∙ left_touch place line spans in
    c.picks.ensures ∙ ap (λ b. cond inverted (not b) b) same
    ∙ with_true (picks_touched inverted spans place line) (nat_lt 0 (c.args.most - front.count))
    (lt-ltb 0 (c.args.most - front.count) (omega (arith, c.if-self-most.true)))
