use Rattle.std.proofs.Common.{Bool, ℕ, true, ◌+◌, ◌∙◌, ◌++◌, ◌∷◌, [], List, Some, ap, ap₂, append_assoc, length, subst, sym}
use Rattle.std.specs.Prelude.{Vec}
use Rattle.std.specs.declared.alloc.Global.{Global}
use Rattle.grep_lines.specs.Ahead.{ahead_of, contents}
use Rattle.grep_lines.specs.Context.{Part, Prints, gap, line_of}
use Rattle.grep_lines.specs.declared.context.Progress.{Progress}
use Rattle.grep_lines.proofs.ContextLemmas.{ahead_selected, prints_both}
use Rattle.grep_lines.proofs.context.Progress.take.Goals as goal

-- the kept lines were printed, and then the line
pub returns-then-is_selected-clause-ok : goal.returns-then-is_selected-clause-ok
returns-then-is_selected-clause-ok g c =
    let e = c.args.extent in
    let mid = c.print_kept.new.self in
    let line = c.args.line.now.items in
    let old = g.P.LinePrinter.printed c.args.printer.now in
    let before = g.P.LinePrinter.printed c.print_kept.new.printer in
    let after = g.P.LinePrinter.printed c.print.new.printer in
    let flushed = c.in_ok-print_kept.ensures.ok in
    let none = c.in_ok-print_kept.ensures.none_kept in
    let new = c.in_ok-print.ensures.progress in
    let put : List Part = gap mid.behind mid.next ++ line_of (record { number = mid.next; place = mid.place; selected = true; line = line }) ∷ [] in
    let told : Prints before after put =
    subst (λ bytes. Prints before after (gap mid.behind mid.next ++ line_of (record { number = mid.next; place = mid.place; selected = true; line = bytes }) ∷ [])) c.deref.ensures.value
    c.in_ok-print.ensures.ok in (
      flushed.0 ++ put,
      prints_both old before after flushed.0 put flushed.1 told,
      λ rest.
          flushed.2 (record { line = line; selected = c.args.is_selected }) rest c.if-is_selected.true
          ∙ ap (λ ps. flushed.0 ++ ps)
          (ap₂ (λ (ls : List (List ℕ)) (b : Bool). ahead_of e mid.behind mid.left mid.next mid.place ls (record { line = line; selected = b } ∷ rest)) (ap contents none)
          c.if-is_selected.true
          ∙ ahead_selected e mid.behind mid.left mid.next mid.place line rest
          ∙ ap (λ ps. put ++ ps)
          (sym (ap (λ (p : Progress). ahead_of e p.behind e.after p.next p.place (contents p.kept.items) rest) new
          ∙ ap (λ (bytes : List ℕ). ahead_of e (Some (mid.next + 1)) e.after (mid.next + 1) (mid.place + length bytes + 1) (contents mid.kept.items) rest)
          c.deref.ensures.value
          ∙ ap (λ (vs : List (Vec ℕ Global)). ahead_of e (Some (mid.next + 1)) e.after (mid.next + 1) (mid.place + length line + 1) (contents vs) rest) none)))
          ∙ sym (append_assoc flushed.0 put _),
    )
