use Rattle.std.proofs.Common.{◌≡◌, ◌+◌, ◌-◌, ◌∙◌, arith, drop, get_or, get_or-take, length, length-drop, length-take-le, refl, subst, sym, take, take_all}
use Rattle.std.proofs.lemmas.Bool.{eqb-true, eq-eqb}
use Rattle.grep_lines.specs.Blocks.{IsPrinting}
use Rattle.grep_lines.specs.Context.{Prints, PrintsIf, selected_parts}
use Rattle.grep_lines.specs.Lines.{lines}
use Rattle.grep_lines.proofs.AdvanceLemmas.{printing_all, printing_first, printing_more}
use Rattle.grep_lines.proofs.LineLemmas.{HasNo}
use Rattle.grep_lines.proofs.steps.print_each.Goals as goal

pub loop-end-init : goal.loop-end-init
loop-end-init g c =
    let new = g.P.LinePrinter.printed c.print_lines.new.self in
    record { same = refl; printing = printing_first c.args.terminator c.args.first c.args.begin c.args.text.now new new c.requires.whole refl }

-- a line more was printed
pub loop-end-preserved : goal.loop-end-preserved
loop-end-preserved g c =
    let inv = c.loop-end.invariant in
    let stop = c.args.terminator in
    let left = c.loop-end.left.now in
    let end = c.in-Some.end in
    let found = c.in-Some.ensures in
    let line = take end left in
    let sized : length line ≡ end = length-take-le end left (omega (arith, found.0.high)) in
    let free : HasNo stop line = λ k lt ten.
    found.0.before k (omega arith) (omega (arith, lt, sized))
    (eq-eqb (get_or left k 0) stop (sym (get_or-take end left k 0 (omega (arith, lt, sized))) ∙ ten)) in
    let is : get_or left end 0 ≡ stop = eqb-true (get_or left end 0) stop found.1 in
    record {
      same = c.print_line.ensures.same ∙ inv.same;
      printing =
          subst (IsPrinting stop c.args.first c.args.begin c.args.text.now (g.P.LinePrinter.printed c.print_lines.new.self) (g.P.LinePrinter.printed c.print_line.new.self)
          (c.loop-end.number + 1) (c.loop-end.place + (end + 1))) (sym (take_all (length left - (end + 1)) (drop (end + 1) left) (omega (arith, length-drop (end + 1) left))))
          (printing_more stop c.args.first c.args.begin c.args.text.now (g.P.LinePrinter.printed c.print_lines.new.self) (g.P.LinePrinter.printed c.loop-end.printer) c.loop-end.number
          c.loop-end.place left inv.printing (g.P.LinePrinter.printed c.print_line.new.self) end found.0.high free is c.in_ok-print_line.ensures.ok);
    }

-- all were printed
pub returns-clause-ok : goal.returns-clause-ok
returns-clause-ok g c =
    let old = g.P.LinePrinter.printed c.args.printer.now in
    let new = g.P.LinePrinter.printed c.print_lines.new.self in
    let parts = selected_parts c.args.first c.args.begin (lines c.args.terminator c.args.text.now) in
    let none : new ≡ old = subst (λ b. PrintsIf b old new parts) c.if-branch.false c.in_ok-print_lines.ensures.ok in
    subst (λ o. Prints o (g.P.LinePrinter.printed c.loop-end.printer) parts) none
    (printing_all c.args.terminator c.args.first c.args.begin c.args.text.now new (g.P.LinePrinter.printed c.loop-end.printer) c.loop-end.number c.loop-end.place c.loop-end.left.now
    c.loop-end.invariant.printing (λ k lt ten. c.in_default.ensures k (omega arith) lt (eq-eqb _ c.args.terminator ten)))

pub overflow_add-left : goal.overflow_add-left
overflow_add-left g c = omega (arith, c.in-Some.ensures.0.high, c.loop-end.invariant.printing.short)
