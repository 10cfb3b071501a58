use Rattle.std.proofs.Common.{[], Bool, IfSome, MatchOption, ◌≡◌, ◌&&◌, ◌-◌, ◌∙◌, ap, cond, false, nat_lt, refl, subst, sym, true}
use mir.Val.{bool_byte}
use Rattle.grep_lines.specs.Lines.{lines}
use Rattle.grep_lines.specs.Selected.{PassesLine}
use Rattle.grep_lines.proofs.PassLemmas.{more_left, passes_lines}
use Rattle.grep_lines.proofs.context.Progress.pass_next.Goals as goal
use Rattle.grep_lines.proofs.context.Progress.pass_next.Goals.{then-passed, else-passed}

bit : (b : Bool) → bool_byte b ≡ cond b 1 0
bit true = refl
bit false = refl

-- the line was passed over
pub returns-clause-ok : goal.returns-clause-ok
returns-clause-ok g c =
    let e = c.args.plan.extent in
    let stop = c.args.plan.terminator in
    let picks = g.S.LineSelector.selects c.args.selector.now in
    let old = g.R.Read.remaining c.args.reader.now in
    let left = g.R.Read.remaining c.read_next.new.reader in
    let passed = c.in-Some.passed in
    let passes : IfSome old (λ text. PassesLine stop picks text left passed) =
    subst (λ o. IfSome old (λ text. MatchOption o (lines stop text ≡ []) (PassesLine stop picks text left))) c.in-Some.is c.in_ok-passed.ensures.passed in
    let so : c.if-passed.is_selected ≡ (passed.is_selected && nat_lt 0 (e.most - c.args.count)) =
    elim c.if-passed.branch as (λ _. c.if-passed.is_selected ≡ (passed.is_selected && nat_lt 0 (e.most - c.args.count))) [
      | then-passed w ↦
          w.is_selected-is ∙ more_left c.args.count e.most ∙ sym (ap (λ b. b && nat_lt 0 (e.most - c.args.count)) w.if-passed.true)
      | else-passed w ↦ w.is_selected-is ∙ w.if-passed.false ∙ sym (ap (λ b. b && nat_lt 0 (e.most - c.args.count)) w.if-passed.false)
    ] in
    passes_lines stop e picks c.args.self.now c.pass_line.new.self c.args.count c.from.result passed c.if-passed.is_selected left old passes so (c.from.ensures ∙ bit c.if-passed.is_selected) c.pass_line.ensures.passed
    c.pass_line.ensures.left c.requires.context
