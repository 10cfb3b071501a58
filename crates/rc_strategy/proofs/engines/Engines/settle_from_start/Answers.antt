use Rattle.std.proofs.Common.{IfOk, subst, sym}
use Rattle.std.specs.Prelude.{IfSome}
use Rattle.std.proofs.lemmas.Result.{IfOk-weaker}
use Rattle.rc_text.specs.Bounds.{IsWithinBounds}
use Rattle.rc_pikevm_search.specs.Engine.{engine_search}
use Rattle.rc_dfa_reach.specs.RunReach.{seen_to}
use Rattle.rc_dfa_search.specs.Reaches.{IsAnswerBelow, TellsReach}
use Rattle.rc_strategy.proofs.HeldLemmas.{start_below}
use Rattle.rc_strategy.proofs.TableLemmas.{tables_settle}
use Rattle.rc_strategy.proofs.engines.Engines.settle_from_start.Goals as goal

pub find_settled-settled-requires-clause-tells : goal.find_settled-settled-requires-clause-tells
find_settled-settled-requires-clause-tells g c = subst TellsReach (sym c.aim-aim.ensures) c.requires.tells

pub returns-clause-settled : goal.returns-clause-settled
returns-clause-settled g c alphabet read =
    let e = c.args.self.now in
    let held = subst (λ s. IfOk c.find_settled-settled.result (λ o. IsAnswerBelow e.engine.kind (engine_search e.engine s) (seen_to alphabet o.reach) o.found)) c.set_anchored.ensures
    (tables_settle e.engine e.patterns c.set_anchored.new.self c.aim-aim.result c.requires.own c.aim-aim.ensures c.find_settled-settled.result
    (λ hs same h. c.find_settled-settled.ensures.settled hs e.engine.program.terminator h) alphabet read) in
    IfOk-weaker c.find_settled-settled.result _ _
    (λ o h. start_below e.engine e.spans c.args.input.now e.bound (c.requires.free, c.requires.begins) o.found (seen_to alphabet o.reach) h) held

pub returns-clause-within : goal.returns-clause-within
returns-clause-within g c =
    subst (λ s. IfOk c.find_settled-settled.result (λ o. IfSome o.found (IsWithinBounds s))) c.set_anchored.ensures c.find_settled-settled.ensures.within
