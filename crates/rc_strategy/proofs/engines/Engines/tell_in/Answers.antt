use Rattle.std.proofs.Common.{subst}
use Rattle.rc_needles.specs.Guards.{Guards}
use Rattle.rc_needles.specs.Prefilters.{needles_of}
use Rattle.rc_strategy.proofs.PartialLemmas.{tables_tell_from, tables_tell_settled}
use Rattle.rc_strategy.proofs.engines.Engines.tell_in.Goals as goal

pub returns-clause-settled : goal.returns-clause-settled
returns-clause-settled g c =
    let e = c.args.self.now in
    let p = e.engine.program in
    tables_tell_settled e.engine e.patterns c.args.input.now c.aim.result (g.H.Halves.AreOf c.args.halves.now) c.requires.own c.aim.ensures c.tell_by_needles.result
    (λ hs same h. c.tell_by_needles.ensures.settled hs p.terminator h (subst (λ ps. Guards ps p.terminator (needles_of c.args.needles.now)) same c.requires.guards))

pub returns-clause-told : goal.returns-clause-told
returns-clause-told g c =
    let e = c.args.self.now in
    let p = e.engine.program in
    tables_tell_from e.engine e.patterns c.args.input.now c.aim.result (g.H.Halves.AreOf c.args.halves.now) c.requires.own c.aim.ensures c.tell_by_needles.result
    (λ hs same h. c.tell_by_needles.ensures.idle hs p.terminator h (subst (λ ps. Guards ps p.terminator (needles_of c.args.needles.now)) same c.requires.guards))
