use Rattle.std.proofs.Common.{◌∙◌, ap, subst, arith, sym, IsTrue}
use Rattle.rc_program.specs.Answer.{Search, only}
use Rattle.rc_program.specs.Program.{accept, is_match_place}
use Rattle.rc_program.specs.Sought.{anchoring_of}
use Rattle.rc_pikevm.specs.Marking.{MarksFrom}
use Rattle.rc_pikevm.specs.Moves.{seen}
use Rattle.rc_pikevm.specs.Sights.{sight_of}
use Rattle.rc_pikevm.proofs.KeptLemmas.{kept_seen}
use Rattle.rc_pikevm.proofs.SearchLemmas.{last_found}
use Rattle.rc_pikevm.proofs.MarkStepLemmas.{outside_adds, marks_add}
use Rattle.rc_pikevm.proofs.which.choose.Goals as goal

pub returns-then-lo-hi-clause-adds : goal.returns-then-lo-hi-clause-adds
returns-then-lo-hi-clause-adds g c =
    outside_adds (seen c.args.program.now c.args.input.now) c.args.set.now
    (omega (arith, c.if-lo-hi.true, c.bounds-lo.ensures.low, c.bounds-lo.ensures.high))

pub returns-clause-adds : goal.returns-clause-adds
returns-clause-adds g c =
    let s : Search = seen c.args.program.now c.args.input.now in
    let last = last_found s c.starts_of-pattern.result.1 c.bounds-lo.result.0 c.bounds-lo.result.1 (anchoring_of c.get_anchored.result)
    c.starts_of-pattern.ensures.last c.bounds-lo.ensures.low c.bounds-lo.ensures.high
    (ap anchoring_of (c.get_anchored.ensures ∙ c.bounds-lo.ensures.keeps.anchored))
    (omega (arith, c.if-lo-hi.false, c.bounds-lo.ensures.low, c.bounds-lo.ensures.high)) in
    marks_add s c.starts_of-pattern.result.1 c.wanted-first.result.0 c.wanted-first.result.1 c.args.patterns c.args.set.now c.pass.new.set last
    (omega (arith, c.if-lo-hi.false, c.bounds-lo.ensures.low, c.bounds-lo.ensures.high))
    (subst (λ x. MarksFrom (sight_of s) x c.starts_of-pattern.result.1 c.wanted-first.result.0 c.wanted-first.result.1 c.args.set.now c.pass.new.set) c.bounds-lo.ensures.low
    (subst (λ q. MarksFrom (sight_of q) c.bounds-lo.result.0 c.starts_of-pattern.result.1 c.wanted-first.result.0 c.wanted-first.result.1 c.args.set.now c.pass.new.set)
    (kept_seen c.args.program.now c.bounds-lo.ensures.keeps) c.pass.ensures.marks))
    (λ p few low allowed. c.wanted-first.ensures p few low
    (subst (λ o. IsTrue (is_match_place o (accept p)))
    (sym (c.starts_of-pattern.ensures.pattern ∙ ap (λ a. only (anchoring_of a)) (c.get_anchored.ensures ∙ c.bounds-lo.ensures.keeps.anchored))) allowed))
    c.requires.first
