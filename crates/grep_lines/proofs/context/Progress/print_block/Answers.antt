use Rattle.std.proofs.Common.{ℕ, Bool, Option, ◌++◌, ◌∷◌, [], cond, ne_eqb, subst, sym}
use Rattle.std.proofs.lemmas.Bool.{eq-eqb}
use Rattle.grep_lines.specs.Context.{Prints, gap, selected_parts}
use Rattle.grep_lines.specs.Context.Part.{separator}
use Rattle.grep_lines.specs.Lines.{lines}
use Rattle.grep_lines.proofs.AdvanceLemmas.{advances_printed}
use Rattle.grep_lines.proofs.ContextLemmas.{prints_both}
use Rattle.grep_lines.proofs.context.Progress.print_block.Goals as goal
use Rattle.grep_lines.proofs.context.Progress.print_block.Goals.{in-Some+then-behind-self+in_ok-print_separator, in-Some+else-behind-self, in_default}

-- the lines were printed, behind a separator if they don't touch the last one
pub returns-clause-ok : goal.returns-clause-ok
returns-clause-ok g c =
    let old = g.P.LinePrinter.printed c.args.printer.now in
    let new = g.P.LinePrinter.printed c.print_each.new.printer in
    let was = c.args.self.now in
    let put = selected_parts was.next was.place (lines c.args.plan.terminator c.args.block.text.now) in
    let told = c.in_ok-print_each.ensures.ok in
    let Goal : Type 0 = Prints old new (gap was.behind was.next ++ put) in
    let put_behind : Option ℕ → Type 0 = λ b. Prints old new (gap b was.next ++ put) in
    let put_if : Bool → Type 0 = λ touches. Prints old new (cond touches [] (separator ∷ []) ++ put) in
    let all : Goal =
    elim c.match-self.branch as (λ _. Goal) [
      | in-Some+then-behind-self+in_ok-print_separator w ↦
          subst put_behind (sym w.in-Some.is)
          (subst put_if (sym (ne_eqb w.in-Some.behind was.next w.if-behind-self.true))
          (prints_both old (g.P.LinePrinter.printed w.print_separator.new.self) new (separator ∷ []) put w.in_ok-print_separator.ensures.ok
          (subst (λ p. Prints (g.P.LinePrinter.printed p) new put) w.printer-is told)))
      | in-Some+else-behind-self w ↦
          subst put_behind (sym w.in-Some.is)
          (subst put_if (sym (eq-eqb w.in-Some.behind was.next w.if-behind-self.false)) (subst (λ p. Prints (g.P.LinePrinter.printed p) new put) w.printer-is told))
      | in_default w ↦ subst put_behind (sym w.in_default.is) (subst (λ p. Prints (g.P.LinePrinter.printed p) new put) w.printer-is told)
    ] in
    advances_printed c.args.plan.extent was c.args.block.count c.args.plan.terminator c.args.block.text.now old new c.requires.none_kept c.requires.some c.requires.whole
    c.requires.counted all
