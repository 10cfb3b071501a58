use Rattle.std.proofs.Common.{ℕ, Bool, Option, ◌++◌, ◌∷◌, [], List, cond, ne_eqb, subst, sym}
use Rattle.std.proofs.lemmas.Bool.{eq-eqb}
use Rattle.grep_lines.specs.Context.{Part, Prints, gap}
use Rattle.grep_lines.specs.Context.Part.{line_of, separator}
use Rattle.grep_lines.proofs.ContextLemmas.{prints_both}
use Rattle.grep_lines.proofs.context.Progress.print.Goals as goal
use Rattle.grep_lines.proofs.context.Progress.print.Goals.{in-Some+then-behind-self+in_ok-print_separator, in-Some+else-behind-self, in_default}

-- the line was printed, behind a separator if it doesn't touch the last one
pub returns-clause-ok : goal.returns-clause-ok
returns-clause-ok g c =
    let old = g.P.LinePrinter.printed c.args.printer.now in
    let new = g.P.LinePrinter.printed c.print_line.new.self in
    let was = c.args.self.now in
    let put : List Part = line_of (record { number = was.next; place = was.place; selected = c.args.is_selected; line = c.args.line.now }) ∷ [] in
    let told = c.in_ok-print_line.ensures.ok in
    let Goal : Type 0 = Prints old new (gap was.behind was.next ++ put) in
    let put_behind : Option ℕ → Type 0 = λ b. Prints old new (gap b was.next ++ put) in
    let put_if : Bool → Type 0 = λ touches. Prints old new (cond touches [] (separator ∷ []) ++ put) in
    elim c.match-self.branch as (λ _. Goal) [
      | in-Some+then-behind-self+in_ok-print_separator w ↦
          subst put_behind (sym w.in-Some.is)
          (subst put_if (sym (ne_eqb w.in-Some.behind was.next w.if-behind-self.true))
          (prints_both old (g.P.LinePrinter.printed w.print_separator.new.self) new (separator ∷ []) put w.in_ok-print_separator.ensures.ok
          (subst (λ p. Prints (g.P.LinePrinter.printed p) new put) w.printer-is told)))
      | in-Some+else-behind-self w ↦
          subst put_behind (sym w.in-Some.is)
          (subst put_if (sym (eq-eqb w.in-Some.behind was.next w.if-behind-self.false)) (subst (λ p. Prints (g.P.LinePrinter.printed p) new put) w.printer-is told))
      | in_default w ↦ subst put_behind (sym w.in_default.is) (subst (λ p. Prints (g.P.LinePrinter.printed p) new put) w.printer-is told)
    ]
