use Rattle.std.proofs.Common.{ℕ, ◌≡◌, ◌<◌, ◌≤◌, ◌+◌, ◌-◌, ◌∙◌, ap, arith, drop, get_or, get_or-take, length, length-take-le, subst, sym, take}
use Rattle.std.proofs.lemmas.Bool.{eqb-true, eq-eqb}
use Rattle.grep_lines.specs.Lines.{lines}
use Rattle.grep_lines.specs.Pages.{IsWhole}
use Rattle.grep_lines.proofs.AdvanceLemmas.{line_back, some_before}
use Rattle.grep_lines.proofs.pages.last_lines.Goals as goal
use Rattle.grep_lines.proofs.pages.last_lines.Goals.{in-Some, in-None}

-- one more begins where the one before it ends
pub loop-preserved : goal.loop-preserved
loop-preserved c =
    let text = c.args.text.now in
    let stop = c.args.terminator in
    let end = c.loop.end in
    let inv = c.loop.invariant in
    let some : 0 < end = some_before stop text end c.loop.counter c.args.count inv.counted c.loop-test.true c.requires.many in
    let shown = take (end - 1) text in
    let size : length shown ≡ end - 1 = length-take-le (end - 1) text (omega (arith, inv.within)) in
    let back : (from : ℕ) → from < end → ((k : ℕ) → from ≤ k → k < end - 1 → get_or text k 0 ≡ stop → ⊥) → length (lines stop (drop from text)) ≡ c.loop.counter + 1 =
    λ from order none. line_back stop text end from inv.within some inv.whole order none ∙ ap (λ n. n + 1) inv.counted in
    elim c.match-memrchr.branch [
      | in-Some w ↦
          let last = w.in-Some.last in
          let found = w.in-Some.ensures in
          let near : last < end - 1 = omega (arith, found.0.high, size) in
          let ten : get_or text last 0 ≡ stop = sym (get_or-take (end - 1) text last 0 near) ∙ eqb-true _ stop found.1 in
          let sized : length (take (last + 1) text) ≡ last + 1 = length-take-le (last + 1) text (omega (arith, near, inv.within)) in
          let ended : IsWhole stop (take (last + 1) text) = λ k e.
          get_or-take (last + 1) text k 0 (omega (arith, e, sized)) ∙ ap (λ i. get_or text i 0) (omega (arith, e, sized)) ∙ ten in
          record {
            within = omega (arith, w.end-is, near, inv.within);
            whole = subst (λ n. IsWhole stop (take n text)) (sym w.end-is) ended;
            counted =
                ap (λ n. length (lines stop (drop n text))) w.end-is
                ∙ back (last + 1) (omega (arith, near)) (λ k from before is.
                found.0.after k (omega (arith, from)) (omega (arith, before, size)) (eq-eqb (get_or shown k 0) stop (get_or-take (end - 1) text k 0 before ∙ is)));
          }
      | in-None w ↦
          record {
            within = omega (arith, w.end-is);
            whole = subst (λ n. IsWhole stop (take n text)) (sym w.end-is) (λ k e. absurd (omega (arith, e)));
            counted =
                ap (λ n. length (lines stop (drop n text))) w.end-is
                ∙ back 0 some (λ k from before is.
                w.in-None.ensures k (omega arith) (omega (arith, before, size)) (eq-eqb (get_or shown k 0) stop (get_or-take (end - 1) text k 0 before ∙ is)));
          }
    ]
