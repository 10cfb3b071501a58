use Rattle.std.proofs.Common.{ap, subst, ◌∙◌, arith}
use Rattle.rc_program.specs.Answer.{Search}
use Rattle.rc_program.specs.Sought.{anchoring_of}
use Rattle.rc_program.specs.Programs.{search_of}
use Rattle.rc_pikevm.specs.Sights.{sight_of}
use Rattle.rc_pikevm.specs.Passing.{Tells}
use Rattle.rc_pikevm.proofs.EarlyLemmas.{tells_greatest, outside_greatest}
use Rattle.rc_pikevm.proofs.KeptLemmas.{kept_seen}
use Rattle.rc_pikevm.proofs.SearchLemmas.{last_found}
use Rattle.rc_pikevm.proofs.search.meets.Goals as goal

pub returns-then-lo-hi-clause-found : goal.returns-then-lo-hi-clause-found
returns-then-lo-hi-clause-found g c =
    outside_greatest (search_of c.args.program.now c.args.input.now)
    (omega (arith, c.if-lo-hi.true, c.bounds-lo.ensures.low, c.bounds-lo.ensures.high))

pub returns-clause-found : goal.returns-clause-found
returns-clause-found g c =
    let s : Search = search_of c.args.program.now c.args.input.now in
    let told : Tells (sight_of s) c.bounds-lo.result.0 c.starts_of-pattern.result.1 c.pass.result =
    subst (λ s. Tells (sight_of s) c.bounds-lo.result.0 c.starts_of-pattern.result.1 c.pass.result)
    (kept_seen c.args.program.now c.bounds-lo.ensures.keeps) c.pass.ensures.tells in
    tells_greatest s c.starts_of-pattern.result.1 c.pass.result
    (last_found s c.starts_of-pattern.result.1
    c.bounds-lo.result.0 c.bounds-lo.result.1 (anchoring_of c.get_anchored.result) c.starts_of-pattern.ensures.last c.bounds-lo.ensures.low
    c.bounds-lo.ensures.high (ap anchoring_of (c.get_anchored.ensures ∙ c.bounds-lo.ensures.keeps.anchored))
    (omega (arith, c.if-lo-hi.false, c.bounds-lo.ensures.low, c.bounds-lo.ensures.high)))
    (subst (λ x. Tells (sight_of s) x c.starts_of-pattern.result.1 c.pass.result) c.bounds-lo.ensures.low told)
