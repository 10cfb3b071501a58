use Rattle.std.proofs.Common.{IfSome, true, ◌≡◌, ◌≤◌, ◌+◌, ◌∙◌, ◌++◌, ◌∷◌, [], ap, arith, get_or, get_or-take, length, length-take-le, subst, sym, take}
use Rattle.std.specs.Io.BufRead.{FillKeeps}
use Rattle.std.proofs.BufReadLemmas.{Consumes_shown}
use Rattle.std.proofs.lemmas.Bool.{eqb-true, eq-eqb}
use Rattle.std.proofs.lemmas.List.{take_more}
use Rattle.grep_lines.specs.Selected.{TakesLine}
use Rattle.grep_lines.proofs.LineLemmas.{HasNo, takes_shown}
use Rattle.grep_lines.proofs.select.take_line.Goals as goal

-- the page's first line was taken
pub returns-clause-taken : goal.returns-clause-taken
returns-clause-taken g c =
    let shown = c.in-Ok.page.now in
    let end = c.in-Some.end in
    let found = c.in-Some.ensures in
    let within : end + 1 ≤ length shown = omega (arith, found.0.high) in
    let line = take end shown in
    let sized : length line ≡ end = length-take-le end shown (omega (arith, within)) in
    let free : HasNo c.args.terminator line = λ k lt ten.
    found.0.before k (omega arith) (omega (arith, lt, sized))
    (eq-eqb (get_or shown k 0) c.args.terminator (sym (get_or-take end shown k 0 (omega (arith, lt, sized))) ∙ ten)) in
    let split : take (end + 1) shown ≡ line ++ c.args.terminator ∷ [] =
    take_more shown end 0 (omega (arith, within)) ∙ ap (λ x. line ++ x ∷ []) (eqb-true (get_or shown end 0) c.args.terminator found.1) in
    let rested = c.fill_buf.follows.lender-at-none in
    let filled = subst (FillKeeps _ (g.R.Read.remaining rested) (g.R.BufRead.consumable_len rested)) c.in-Ok.is c.fill_buf.follows.holds-at-none in
    let moved = Consumes_shown _ _ _ _ shown (end + 1) within c.in-Ok.ensures.front c.in-Ok.ensures.end filled.0 filled.1 c.consume.ensures.bytes in
    subst (λ items. IfSome (g.R.Read.remaining c.args.reader.now) (λ text. TakesLine c.args.terminator text true items (g.R.Read.remaining c.consume.new.self)))
    (sym (c.in_ok-extend_from_slice.ensures.items ∙ ap (λ items. items ++ line) c.clear.ensures.items))
    (takes_shown c.args.terminator line (take (end + 1) shown) _ _ free split moved.0)
