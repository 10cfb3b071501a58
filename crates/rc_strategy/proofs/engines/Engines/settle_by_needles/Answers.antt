use Rattle.std.proofs.Common.{subst, sym}
use Rattle.rc_needles.specs.Guards.{Guards}
use Rattle.rc_needles.specs.Prefilters.{needles_of}
use Rattle.rc_dfa_search.specs.Reaches.{TellsReach}
use Rattle.rc_strategy.proofs.TableLemmas.{tables_settle}
use Rattle.rc_strategy.proofs.engines.Engines.settle_by_needles.Goals as goal

pub find_settled_guarded-requires-clause-tells : goal.find_settled_guarded-requires-clause-tells
find_settled_guarded-requires-clause-tells g c = subst TellsReach (sym c.aim.ensures) c.requires.tells

pub returns-clause-settled : goal.returns-clause-settled
returns-clause-settled g c =
    let e = c.args.self.now in
    let p = e.engine.program in
    tables_settle e.engine e.patterns c.args.input.now c.aim.result c.requires.own c.aim.ensures c.find_settled_guarded.result
    (λ hs same h. c.find_settled_guarded.ensures.settled hs p.terminator h
    (subst (λ ps. Guards ps p.terminator (needles_of c.args.needles.now)) same c.requires.guards))
