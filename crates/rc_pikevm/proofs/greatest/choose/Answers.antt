use Rattle.std.proofs.Common.{◌∙◌, [], ap, subst, arith, option_map}
use Rattle.rc_program.specs.Answer.{Search}
use Rattle.rc_program.specs.Sought.{anchoring_of}
use Rattle.rc_pikevm.specs.Sights.{sight_of}
use Rattle.rc_pikevm.specs.Moves.{seen}
use Rattle.rc_pikevm.specs.Spread.{SomeSpells, IsTop, span_of, starting}
use Rattle.rc_pikevm.proofs.KeptLemmas.{kept_seen}
use Rattle.rc_pikevm.proofs.SearchLemmas.{last_found}
use Rattle.rc_pikevm.proofs.SpreadPassLemmas.{covered_greatest, outside_greatest}
use Rattle.rc_pikevm.proofs.greatest.choose.Goals as goal

pub returns-then-lo-hi-clause-chosen : goal.returns-then-lo-hi-clause-chosen
returns-then-lo-hi-clause-chosen g c =
    outside_greatest (seen c.args.program.now c.args.input.now)
    (omega (arith, c.if-lo-hi.true, c.bounds-lo.ensures.low, c.bounds-lo.ensures.high))

pub returns-clause-chosen : goal.returns-clause-chosen
returns-clause-chosen g c =
    let s : Search = seen c.args.program.now c.args.input.now in
    let last = last_found s c.starts_of-pattern.result.1 c.bounds-lo.result.0 c.bounds-lo.result.1 (anchoring_of c.get_anchored.result)
    c.starts_of-pattern.ensures.last c.bounds-lo.ensures.low c.bounds-lo.ensures.high
    (ap anchoring_of (c.get_anchored.ensures ∙ c.bounds-lo.ensures.keeps.anchored))
    (omega (arith, c.if-lo-hi.false, c.bounds-lo.ensures.low, c.bounds-lo.ensures.high)) in
    covered_greatest s c.starts_of-pattern.result.1 (option_map span_of c.reach_end.result) last
    (omega (arith, c.if-lo-hi.false, c.bounds-lo.ensures.low, c.bounds-lo.ensures.high))
    (subst (λ x. IsTop (SomeSpells (sight_of s) [] (starting x c.starts_of-pattern.result.1)) (option_map span_of c.reach_end.result)) c.bounds-lo.ensures.low
    (subst (λ q. IsTop (SomeSpells (sight_of q) [] (starting c.bounds-lo.result.0 c.starts_of-pattern.result.1)) (option_map span_of c.reach_end.result))
    (kept_seen c.args.program.now c.bounds-lo.ensures.keeps) c.reach_end.ensures.top))
