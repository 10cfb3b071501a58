use Rattle.std.proofs.Common.{◌<◌, ◌∙◌, arith, length, subst, sym}
use Rattle.grep_lines.specs.Blocks.{AdvancesBy, marked_as}
use Rattle.grep_lines.specs.Lines.{lines}
use Rattle.grep_lines.proofs.AdvanceLemmas.{advances_flushed, advances_none, no_lines}
use Rattle.grep_lines.proofs.context.Progress.take_block.Goals as goal

-- none is selected
pub returns-then-not-block-clause-ok : goal.returns-then-not-block-clause-ok
returns-then-not-block-clause-ok g c =
    let ls = lines c.args.plan.terminator c.args.block.text.now in
    subst (λ b. AdvancesBy c.args.plan.extent c.args.self.now c.take_unselected.new.self (g.P.LinePrinter.printed c.args.printer.now)
    (g.P.LinePrinter.printed c.take_unselected.new.printer) (marked_as b ls)) (sym c.if-not-block.true) c.in_ok-take_unselected.ensures.ok

-- there is none
pub returns-then-block-eq0-clause-ok : goal.returns-then-block-eq0-clause-ok
returns-then-block-eq0-clause-ok g c =
    let old = g.P.LinePrinter.printed c.args.printer.now in
    subst (λ ls. AdvancesBy c.args.plan.extent c.args.self.now c.args.self.now old old (marked_as c.args.block.is_selected ls))
    (sym (no_lines (lines c.args.plan.terminator c.args.block.text.now) (sym c.requires.counted ∙ c.if-block-eq0.true)))
    (advances_none c.args.plan.extent c.args.self.now old)

-- all are
pub returns-clause-ok : goal.returns-clause-ok
returns-clause-ok g c =
    let e = c.args.plan.extent in
    let ls = lines c.args.plan.terminator c.args.block.text.now in
    let old = g.P.LinePrinter.printed c.args.printer.now in
    let mid = g.P.LinePrinter.printed c.print_kept.new.printer in
    let new = g.P.LinePrinter.printed c.print_block.new.printer in
    let some : 0 < length ls = omega (arith, c.requires.counted, c.if-block-eq0.false) in
    subst (λ b. AdvancesBy e c.args.self.now c.print_block.new.self old new (marked_as b ls)) (sym c.if-not-block.false)
    (advances_flushed e c.args.self.now c.print_kept.new.self c.print_block.new.self old mid new ls some c.in_ok-print_kept.ensures.ok c.in_ok-print_block.ensures.ok)
