use Rattle.std.proofs.Common.{ℕ, false, ◌≡◌, ◌<◌, ◌+◌, ◌∙◌, ◌++◌, ◌∷◌, [], List, Some, ap, ap₂, append_assoc, arith, length, refl, subst, sym}
use Rattle.grep_lines.specs.Ahead.{IsSound, ahead, ahead_of, contents}
use Rattle.grep_lines.specs.Context.{Prints, gap, line_of}
use Rattle.grep_lines.specs.declared.context.Progress.{Progress}
use Rattle.grep_lines.proofs.ContextLemmas.{ahead_kept, contents_length, prints_both, prints_none}
use Rattle.grep_lines.proofs.context.Progress.print_kept.Goals as goal

pub loop-line-init : goal.loop-line-init
loop-line-init g c = record { flushed = ([], prints_none _, λ m rest h. refl); sound = c.requires.sound; placed = c.requires.placed; same = refl; sum = refl }

-- one more was printed
pub loop-line-preserved : goal.loop-line-preserved
loop-line-preserved g c =
    let e = c.args.extent in
    let inv = c.loop-line.invariant in
    let was = c.loop-line.self in
    let line = c.in-Some.line in
    let popped = c.pop_front.new.self.items in
    let is : was.kept.items ≡ line ∷ popped = c.in-Some.ensures.items in
    let none : was.left ≡ 0 = inv.sound.idle (omega (arith, ap length is)) in
    let size : length (contents popped) < e.before = omega (arith, contents_length popped, ap length is, inv.sound.within) in
    let told = c.in_ok-print.ensures.ok in
    let new = c.in_ok-print.ensures.progress in
    let parts = inv.flushed.0 in
    let before = g.P.LinePrinter.printed c.loop-line.printer in
    let after = g.P.LinePrinter.printed c.print.new.printer in
    record {
      flushed = (
        parts ++ (gap was.behind was.next ++ line_of (record { number = was.next; place = was.place; selected = false; line = line.items }) ∷ []),
        prints_both (g.P.LinePrinter.printed c.args.printer.now) before after parts _ inv.flushed.1 (subst (λ bytes. Prints before after (gap was.behind was.next ++ line_of (record { number = was.next; place = was.place; selected = false; line = bytes }) ∷ [])) c.deref.ensures.value told),
        λ m rest h.
            inv.flushed.2 m rest h
            ∙ ap (λ ps. parts ++ ps)
            (ap₂ (λ (left : ℕ) (ls : List (List ℕ)). ahead_of e was.behind left was.next was.place ls (m ∷ rest)) none (ap contents is)
            ∙ ahead_kept e was.behind was.next was.place line.items (contents popped) m rest size h
            ∙ ap (λ ps. (gap was.behind was.next ++ line_of (record { number = was.next; place = was.place; selected = false; line = line.items }) ∷ []) ++ ps)
            (ap (λ left. ahead_of e (Some (was.next + 1)) left (was.next + 1) (was.place + length line.items + 1) (contents popped) (m ∷ rest)) (sym none)
            ∙ ap (λ (bytes : List ℕ). ahead_of e (Some (was.next + 1)) was.left (was.next + 1) (was.place + length bytes + 1) (contents popped) (m ∷ rest))
            (sym c.deref.ensures.value)
            ∙ sym (ap (λ p. ahead e p (m ∷ rest)) new)))
            ∙ sym (append_assoc parts (gap was.behind was.next ++ line_of (record { number = was.next; place = was.place; selected = false; line = line.items }) ∷ []) _),
      );
      sound = subst (λ p. IsSound e p) (sym new) (record { within = omega (arith, ap length is, inv.sound.within); idle = λ _. none });
      placed = c.in_ok-print.ensures.placed;
      same = c.print.ensures.same ∙ inv.same;
      sum = ap (λ (p : Progress). p.next + length p.kept.items) new ∙ omega (arith, ap length is, inv.sum);
    }
