use Rattle.std.proofs.Common.{ℕ, List, ◌≡◌, ◌<◌, ◌≤◌, ◌+◌, ◌-◌, ◌∙◌, ap, arith, drop, eq-eqb, get_or, get_or-drop, length, length-drop, subst, sym, take, take_all}
use Rattle.std.specs.Prelude.{IfSome, min}
use Rattle.std.proofs.Math.Nat.{min-le_left, min-le_right}
use Rattle.grep_lines.specs.Touched.{behind}
use Rattle.grep_lines.proofs.StretchLemmas.{all_touched, none_of_min, none_touched}
use Rattle.grep_lines.proofs.touched.touched_until.Goals as goal

-- lines before the first span
pub returns-then-before-gt0-clause-alike : goal.returns-then-before-gt0-clause-alike
returns-then-before-gt0-clause-alike c start end order near stood =
    let s = c.in-Some.span.now in
    let span = s.start in
    let far : c.distance-before.result ≤ span - c.args.place = omega (arith, c.distance-before.ensures, min-le_left (span - c.args.place) (length c.args.page.now)) in
    let within : c.distance-before.result ≤ length c.args.page.now = omega (arith, c.distance-before.ensures, min-le_right (span - c.args.place) (length c.args.page.now)) in
    none_touched c.args.place c.distance-before.result start end c.args.terminator s c.args.spans.now c.args.page.now (sym c.in-Some.ensures.value) c.requires.ordered far within order near

-- lines that the first span touches
pub returns-in-Some-memchr-clause-alike : goal.returns-in-Some-memchr-clause-alike
returns-in-Some-memchr-clause-alike c start end order near stood =
    let s = c.in-Some.span.now in
    let page = c.args.page.now in
    let place = c.args.place in
    let stop = c.args.terminator in
    let last = c.distance-last.result in
    let found = c.in-Some-memchr.ensures in
    let limit = last + c.in-Some-memchr.end + 1 in
    let rest = drop last page in
    let shown = take (length page - last) rest in
    let all : shown ≡ rest = take_all (length page - last) rest (omega (arith, length-drop last page)) in
    let within : limit ≤ length page = omega (arith, found.0.high, ap length all, length-drop last page) in
    let none : min (s.start - place) (length page) ≡ 0 = omega (arith, sym c.distance-before.ensures, c.if-before-gt0.false) in
    let before : s.start ≤ place = omega (arith, none_of_min (s.start - place) (length page) none (omega (arith, within))) in
    let first : place < behind s = subst (λ o. IfSome o (λ s. place < behind s)) (sym c.in-Some.ensures.value) c.requires.left in
    let reach : last ≤ c.last_place.result - place = omega (arith, c.distance-last.ensures, min-le_left (c.last_place.result - place) (length page)) in
    all_touched place limit last start end stop s c.args.spans.now page (sym c.in-Some.ensures.value) c.requires.ordered before (omega (arith, first, reach, c.last_place.ensures))
    (λ k from high is.
    found.0.before (k - last) (omega arith) (omega (arith, from, high))
    (eq-eqb (get_or shown (k - last) 0) stop (ap (λ (xs : List ℕ). get_or xs (k - last) 0) all ∙ get_or-drop last page (k - last) 0 ∙ ap (λ n. get_or page n 0) (omega (arith, from)) ∙ is)))
    within order near stood

pub returns-in-None-clause-alike : goal.returns-in-None-clause-alike
returns-in-None-clause-alike c start end order near stood =
    let s = c.in-Some.span.now in
    let page = c.args.page.now in
    let place = c.args.place in
    let stop = c.args.terminator in
    let last = c.distance-last.result in
    let rest = drop last page in
    let shown = take (length page - last) rest in
    let all : shown ≡ rest = take_all (length page - last) rest (omega (arith, length-drop last page)) in
    let none : min (s.start - place) (length page) ≡ 0 = omega (arith, sym c.distance-before.ensures, c.if-before-gt0.false) in
    let before : s.start ≤ place = omega (arith, none_of_min (s.start - place) (length page) none (omega (arith, near))) in
    let first : place < behind s = subst (λ o. IfSome o (λ s. place < behind s)) (sym c.in-Some.ensures.value) c.requires.left in
    let reach : last ≤ c.last_place.result - place = omega (arith, c.distance-last.ensures, min-le_left (c.last_place.result - place) (length page)) in
    all_touched place (length page) last start end stop s c.args.spans.now page (sym c.in-Some.ensures.value) c.requires.ordered before (omega (arith, first, reach, c.last_place.ensures))
    (λ k from high is.
    c.in-None.ensures (k - last) (omega arith) (omega (arith, from, high, ap length all, length-drop last page))
    (eq-eqb (get_or shown (k - last) 0) stop (ap (λ (xs : List ℕ). get_or xs (k - last) 0) all ∙ get_or-drop last page (k - last) 0 ∙ ap (λ n. get_or page n 0) (omega (arith, from)) ∙ is)))
    (omega arith) order near stood
