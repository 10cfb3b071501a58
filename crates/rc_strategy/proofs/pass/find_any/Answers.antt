use Rattle.std.proofs.Common.{◌∙◌, arith, subst, sym}
use Rattle.rc_text.specs.Bounds.{IsWithinBounds}
use Rattle.rc_dfa_search.proofs.ToldLemmas.{kept_low}
use Rattle.rc_strategy.proofs.QuestionLemmas.{ordered_so}
use Rattle.rc_strategy.proofs.pass.find_any.Goals as goal

pub returns-clause-within : goal.returns-clause-within
returns-clause-within g c =
    let s = c.args.input.now in
    let start = c.low-start.ensures ∙ kept_low s c.is_match.new.input c.is_match.ensures.keeps in
    let ordered = ordered_so c.args.engine.now s c.is_match.result c.is_match.ensures.found c.if-not-is_match.false in
    subst (IsWithinBounds s) (sym c.new.ensures) (omega (arith, start), omega arith, omega (arith, start, ordered))
