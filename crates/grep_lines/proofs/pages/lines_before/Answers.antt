use Rattle.std.proofs.Common.{◌≡◌, ◌+◌, ◌∙◌, ap, arith, get_or, get_or-take, length, length-take-le, sym, take}
use Rattle.std.proofs.lemmas.Bool.{eqb-true, eq-eqb}
use Rattle.grep_lines.specs.Pages.{IsWhole}
use Rattle.grep_lines.proofs.PageLemmas.{count_lines}
use Rattle.grep_lines.proofs.pages.lines_before.Goals as goal

pub returns : goal.returns
returns c =
    let page = c.args.page.now in
    let last = c.in-Some.last in
    let found = c.in-Some.ensures in
    let place_sized = length-take-le c.args.place page c.requires in
    let near : last + 1 ≡ last + 1 = omega arith in
    let shown = take (last + 1) page in
    let sized : length shown ≡ last + 1 = length-take-le (last + 1) page (omega (arith, found.0.high, place_sized, c.requires)) in
    let ten : get_or page last 0 ≡ c.args.terminator =
    sym (get_or-take c.args.place page last 0 (omega (arith, found.0.high, place_sized))) ∙ eqb-true _ c.args.terminator found.1 in
    let ended : IsWhole c.args.terminator shown = λ k e.
    get_or-take (last + 1) page k 0 (omega (arith, e, sized)) ∙ ap (λ i. get_or page i 0) (omega (arith, e, sized)) ∙ ten in
    record {
      within = omega (arith, found.0.high, place_sized);
      whole = ended;
      counted = c.count_terminators.ensures ∙ count_lines c.args.terminator shown ended;
      furthest = λ k from before is.
          found.0.after k (omega arith) (omega (arith, before, place_sized))
          (eq-eqb (get_or (take c.args.place page) k 0) c.args.terminator (get_or-take c.args.place page k 0 before ∙ is));
    }
