use Rattle.std.proofs.Common.{ℕ, Bool, List, ◌≡◌, ◌+◌, ◌∙◌, false, true, ap, arith, subst, sym, IfSome}
use Rattle.grep_lines.specs.Selected.{AreSkipped, IsNextSelected, IsStopped, TakesLine}
use Rattle.grep_lines.proofs.SkipLemmas.{select_next, skip_both, skip_more, on_err, stopped_after, stopped_behind, stopped_between}
use Rattle.grep_lines.proofs.select.next_selected.Goals as goal
use Rattle.grep_lines.proofs.select.next_selected.Goals.{else-loop-test, then-loop-test+in_ok-skip_lines+in_default, then-loop-test+in_ok-skip_lines+in-Some+in_default-checked_add}

-- a line was selected, behind those that were skipped
pub returns-then-selects-clause-found : goal.returns-then-selects-clause-found
returns-then-selects-clause-found g c =
    let inv = c.loop.invariant in
    let old = g.R.Read.remaining c.args.reader.now in
    let mid = g.R.Read.remaining c.loop.reader in
    let then = g.R.Read.remaining c.skip_lines.new.reader in
    let new = g.R.Read.remaining c.next_line.new.reader in
    let line = c.next_line.new.line.items in
    let picks = g.S.LineSelector.selects c.args.selector.now in
    let count = c.in_ok-skip_lines.field-0 in
    let passed : IfSome mid (λ text. AreSkipped c.args.terminator picks text count then) =
    subst (λ (p : List ℕ → Bool). IfSome mid (λ text. AreSkipped c.args.terminator p text count then)) inv.same c.in_ok-skip_lines.ensures.skipped in
    let kept = c.in_ok-skip_lines.ensures.same ∙ inv.same in
    let taken : IfSome then (λ text. TakesLine c.args.terminator text true line new) =
    subst (λ b. IfSome then (λ text. TakesLine c.args.terminator text b line new)) c.if-not-branch.false c.in_ok-next_line.ensures.taken in
    let is : picks line ≡ true =
    ap (λ (p : List ℕ → Bool). p line) (sym kept) ∙ ap (g.S.LineSelector.selects c.skip_lines.new.selector) (sym c.deref.ensures.value)
    ∙ sym c.selects.ensures.value ∙ c.if-selects.true in
    let sum : c.loop.before + count + 1 ≡ c.in-Some-checked_add.number = omega (arith, c.in-Some.ensures, c.in-Some-checked_add.ensures) in
    subst (λ n. IfSome old (λ text. IsNextSelected c.args.terminator picks text line new n)) sum
    (select_next c.args.terminator picks (c.loop.before + count) then new line old (skip_both c.args.terminator picks c.loop.before count mid then old inv.left passed) taken is)

-- one line more was skipped
pub loop-preserved : goal.loop-preserved
loop-preserved g c =
    let inv = c.loop.invariant in
    let old = g.R.Read.remaining c.args.reader.now in
    let mid = g.R.Read.remaining c.loop.reader in
    let then = g.R.Read.remaining c.skip_lines.new.reader in
    let new = g.R.Read.remaining c.next_line.new.reader in
    let line = c.next_line.new.line.items in
    let picks = g.S.LineSelector.selects c.args.selector.now in
    let count = c.in_ok-skip_lines.field-0 in
    let passed : IfSome mid (λ text. AreSkipped c.args.terminator picks text count then) =
    subst (λ (p : List ℕ → Bool). IfSome mid (λ text. AreSkipped c.args.terminator p text count then)) inv.same c.in_ok-skip_lines.ensures.skipped in
    let kept = c.in_ok-skip_lines.ensures.same ∙ inv.same in
    let taken : IfSome then (λ text. TakesLine c.args.terminator text true line new) =
    subst (λ b. IfSome then (λ text. TakesLine c.args.terminator text b line new)) c.if-not-branch.false c.in_ok-next_line.ensures.taken in
    let skips : picks line ≡ false =
    ap (λ (p : List ℕ → Bool). p line) (sym kept) ∙ ap (g.S.LineSelector.selects c.skip_lines.new.selector) (sym c.deref.ensures.value)
    ∙ sym c.selects.ensures.value ∙ c.if-selects.false in
    let sum : c.loop.before + count + 1 ≡ c.in-Some-checked_add.number = omega (arith, c.in-Some.ensures, c.in-Some-checked_add.ensures) in
    record {
      left =
          subst (λ n. IfSome old (λ text. AreSkipped c.args.terminator picks text n new)) sum
          (skip_more c.args.terminator picks (c.loop.before + count) then new line old (skip_both c.args.terminator picks c.loop.before count mid then old inv.left passed) taken skips);
      same = c.selects.ensures.same ∙ kept;
    }

-- a fault came in a line
pub returns-in_err-next_line-clause-stopped : goal.returns-in_err-next_line-clause-stopped
returns-in_err-next_line-clause-stopped g c =
    let inv = c.loop.invariant in
    let old = g.R.Read.remaining c.args.reader.now in
    let mid = g.R.Read.remaining c.loop.reader in
    let then = g.R.Read.remaining c.skip_lines.new.reader in
    let new = g.R.Read.remaining c.next_line.new.reader in
    let picks = g.S.LineSelector.selects c.args.selector.now in
    let count = c.in_ok-skip_lines.field-0 in
    let passed : IfSome mid (λ text. AreSkipped c.args.terminator picks text count then) =
    subst (λ (p : List ℕ → Bool). IfSome mid (λ text. AreSkipped c.args.terminator p text count then)) inv.same c.in_ok-skip_lines.ensures.skipped in
    on_err c.from_residual-in_err-next_line.result
    (stopped_behind c.args.terminator picks (c.loop.before + count) then new c.next_line.new.line.items old (skip_both c.args.terminator picks c.loop.before count mid then old inv.left passed)
    c.in_err-next_line.ensures.none_lost)

-- there are too many lines
pub returns-clause-stopped : goal.returns-clause-stopped
returns-clause-stopped g c =
    let inv = c.loop.invariant in
    let old = g.R.Read.remaining c.args.reader.now in
    let mid = g.R.Read.remaining c.loop.reader in
    let new = g.R.Read.remaining c.loop-test.reader in
    let line = c.clear-2.new.self.items in
    let empty = c.clear-2.ensures.items in
    let picks = g.S.LineSelector.selects c.args.selector.now in
    let before = c.loop.before in
    let Goal : Type 0 = IfSome old (λ text. IsStopped c.args.terminator picks text line new) in
    elim c.loop-test.branch as (λ _. Goal) [
      | else-loop-test w ↦
          stopped_between c.args.terminator picks before new new line old
          (subst (λ r. IfSome old (λ text. AreSkipped c.args.terminator picks text before (g.R.Read.remaining r))) (sym w.reader-is) inv.left) empty
      | then-loop-test+in_ok-skip_lines+in_default w ↦
          stopped_after c.args.terminator picks before w.in_ok-skip_lines.field-0 mid (g.R.Read.remaining w.skip_lines.new.reader) new line old inv.left
          (subst (λ (p : List ℕ → Bool). IfSome mid (λ text. AreSkipped c.args.terminator p text w.in_ok-skip_lines.field-0 (g.R.Read.remaining w.skip_lines.new.reader))) inv.same
          w.in_ok-skip_lines.ensures.skipped) (ap (g.R.Read.remaining) w.reader-is) empty
      | then-loop-test+in_ok-skip_lines+in-Some+in_default-checked_add w ↦
          stopped_after c.args.terminator picks before w.in_ok-skip_lines.field-0 mid (g.R.Read.remaining w.skip_lines.new.reader) new line old inv.left
          (subst (λ (p : List ℕ → Bool). IfSome mid (λ text. AreSkipped c.args.terminator p text w.in_ok-skip_lines.field-0 (g.R.Read.remaining w.skip_lines.new.reader))) inv.same
          w.in_ok-skip_lines.ensures.skipped) (ap (g.R.Read.remaining) w.reader-is) empty
    ]
