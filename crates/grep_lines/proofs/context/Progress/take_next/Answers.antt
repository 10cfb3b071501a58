use Rattle.std.proofs.Common.{ℕ, Bool, List, IfSome, false, true, ◌≡◌, ◌&&◌, ◌-◌, ◌∙◌, ap, cond, nat_lt, refl, subst}
use mir.Val.{bool_byte}
use Rattle.grep_lines.specs.Selected.{TakesLine}
use Rattle.grep_lines.proofs.AdvanceLemmas.{next_lines}
use Rattle.grep_lines.proofs.context.Progress.take_next.Goals as goal

bit : (b : Bool) → bool_byte b ≡ cond b 1 0
bit true = refl
bit false = refl

-- the line was taken
pub returns-in-Ok-take-clause-ok : goal.returns-in-Ok-take-clause-ok
returns-in-Ok-take-clause-ok g c =
    let e = c.args.plan.extent in
    let stop = c.args.plan.terminator in
    let picks = g.S.LineSelector.selects c.args.selector.now in
    let old = g.R.Read.remaining c.args.reader.now in
    let left = g.R.Read.remaining c.next_line.new.reader in
    let line = c.next_line.new.line.items in
    let taken : IfSome old (λ text. TakesLine stop text true line left) =
    subst (λ b. IfSome old (λ text. TakesLine stop text b line left)) c.in-Ok-true.field-0-test c.in-Ok-true.ensures.taken in
    next_lines stop e picks c.args.self.now c.take.new.self (g.P.LinePrinter.printed c.args.printer.now) (g.P.LinePrinter.printed c.take.new.printer) c.args.count c.from.result line
    c.selects_more-is_selected.result left old taken
    (c.selects_more-is_selected.ensures.value ∙ ap (λ (l : List ℕ). picks l && nat_lt 0 (e.most - c.args.count)) c.deref.ensures.value) (c.from.ensures ∙ bit c.selects_more-is_selected.result) c.in-Ok-take.ensures.ok
    c.in-Ok-take.ensures.left c.requires.context
