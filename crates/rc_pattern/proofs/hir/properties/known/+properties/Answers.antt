use Rattle.std.proofs.Common.{◌≡◌, ℕ, map, drop, sym, ap, ◌∙◌, subst, arith}
use Rattle.rc_pattern.specs.Re.{Re}
use Rattle.rc_pattern.specs.Meaning.{meaning, kind_meaning, alt_all}
use Rattle.rc_pattern.specs.PropertiesOf.{IsPropertiesOf}
use Rattle.rc_pattern.proofs.FoldLemmas.{kind_Repetition, kind_Capture}
use Rattle.rc_pattern.proofs.KnownLemmas.{capture_known, repetition_known, concat_known, alternation_known}
use Rattle.rc_pattern.proofs.hir.properties.known.+properties.Goals as goal

pub put-returns-in-Repetition : goal.put-returns-in-Repetition
put-returns-in-Repetition t c =
    let repetition = c.in-Repetition.repetition in
    let e = sym (kind_Repetition repetition) ∙ ap kind_meaning (sym c.in-Repetition.is) ∙ c.kind.ensures.value in
    subst (λ (h : Re). IsPropertiesOf h c.repeat.new.all) e
    (repetition_known repetition c.deref.result.now c.put.new.all c.repeat.new.all c.deref.ensures c.put.ensures c.repeat.ensures)

pub put-returns-in-Capture : goal.put-returns-in-Capture
put-returns-in-Capture t c =
    let capture = c.in-Capture.capture in
    let e = sym (kind_Capture capture) ∙ ap kind_meaning (sym c.in-Capture.is) ∙ c.kind.ensures.value in
    subst (λ (h : Re). IsPropertiesOf h c.enclose.new.all) e
    (capture_known capture c.deref-in-Capture.result.now c.put-in-Capture.new.all c.enclose.new.all c.deref-in-Capture.ensures
    c.put-in-Capture.ensures c.enclose.ensures)

pub put_alternation-loop-i-preserved : goal.put_alternation-loop-i-preserved
put_alternation-loop-i-preserved t c =
    alternation_known c.args.subs.now c.loop-i.i c.index-subs-i.result c.put-in-loop-i.new.all c.loop-i.rest c.join.new.rest
    c.loop-i-test.true (omega arith) c.index-subs-i.is c.put-in-loop-i.ensures c.loop-i.invariant c.join.ensures

pub put_alternation-returns : goal.put_alternation-returns
put_alternation-returns t c =
    let first : c.loop-i.i ≡ 0 = omega arith in
    subst (λ (i : ℕ). IsPropertiesOf (alt_all (map meaning (drop i c.args.subs.now))) c.loop-i.rest) first c.loop-i.invariant

pub put_concat-loop-i-preserved : goal.put_concat-loop-i-preserved
put_concat-loop-i-preserved t c =
    concat_known c.args.subs.now c.loop-i.i c.index-subs-i.result c.put.new.all c.loop-i.rest c.precede.new.rest
    c.loop-i-test.true (omega arith) c.index-subs-i.is c.put.ensures c.loop-i.invariant c.precede.ensures
