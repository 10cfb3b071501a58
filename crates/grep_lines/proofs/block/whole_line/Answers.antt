use Rattle.std.proofs.Common.{◌≡◌, ◌≤◌, ◌+◌, ◌∙◌, ◌++◌, ◌∷◌, [], ap, arith, drop, get_or, get_or-take, length, length-take-le, sym, take}
use Rattle.std.proofs.lemmas.Bool.{eqb-true, eq-eqb}
use Rattle.std.proofs.lemmas.List.{take-append-drop, take_more}
use Rattle.grep_lines.proofs.BlockLemmas.{one_line}
use Rattle.grep_lines.proofs.LineLemmas.{HasNo}
use Rattle.grep_lines.proofs.block.whole_line.Goals as goal

-- the first line
pub returns-clause-block : goal.returns-clause-block
returns-clause-block g c =
    let text = c.args.text.now in
    let end = c.in-Some.end in
    let found = c.in-Some.ensures in
    let within : end + 1 ≤ length text = omega (arith, found.0.high) in
    let line = take end text in
    let sized : length line ≡ end = length-take-le end text (omega (arith, within)) in
    let free : HasNo c.args.terminator line = λ k lt ten.
    found.0.before k (omega arith) (omega (arith, lt, sized))
    (eq-eqb (get_or text k 0) c.args.terminator (sym (get_or-take end text k 0 (omega (arith, lt, sized))) ∙ ten)) in
    let split : take (end + 1) text ≡ line ++ c.args.terminator ∷ [] =
    take_more text end 0 (omega (arith, within)) ∙ ap (λ x. line ++ x ∷ []) (eqb-true (get_or text end 0) c.args.terminator found.1) in
    let made = one_line c.args.terminator (g.S.LineSelector.selects c.args.selector.now) line (take (end + 1) text) c.selects.result free split (sym c.selects.ensures.value) in
    record { whole = made.whole; counted = made.counted; alike = made.alike }

pub returns-clause-part : goal.returns-clause-part
returns-clause-part g c = record { rest = drop (c.in-Some.end + 1) c.args.text.now; is = sym (take-append-drop (c.in-Some.end + 1) c.args.text.now) }
