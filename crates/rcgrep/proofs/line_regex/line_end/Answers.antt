use Rattle.std.proofs.Common.{List, ◌≡◌, ◌+◌, ◌-◌, ◌∙◌, ap, arith, drop, eq-eqb, get_or, get_or-drop, length, length-drop, sym, take, take_all}
use Rattle.std.proofs.lemmas.Bool.{eqb-true}
use Rattle.rcgrep.proofs.line_regex.line_end.Goals as goal

-- the first newline from the start on is behind the match
pub returns : goal.returns
returns c =
    let text = c.args.text.now in
    let start = c.args.start in
    let k = c.in-Some.behind in
    let found = c.in-Some.ensures in
    let rest = drop start text in
    let shown = take (length text - start) rest in
    let all : shown ≡ rest = take_all (length text - start) rest (omega (arith, length-drop start text)) in
    record {
      order = omega arith;
      behind = omega arith;
      within = omega (arith, found.0.high, ap length all, length-drop start text);
      ended = sym (get_or-drop start text k 0) ∙ ap (λ (xs : List _). get_or xs k 0) (sym all) ∙ eqb-true (get_or shown k 0) 10 found.1;
      first = λ j from before ten.
          found.0.before (j - start) (omega arith) (omega (arith, from, before))
          (eq-eqb (get_or shown (j - start) 0) 10
          (ap (λ (xs : List _). get_or xs (j - start) 0) all ∙ get_or-drop start text (j - start) 0 ∙ ap (λ n. get_or text n 0) (omega (arith, from)) ∙ ten));
    }
