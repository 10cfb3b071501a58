use Rattle.std.proofs.Common.{◌+◌, arith, IfSome, subst}
use Rattle.rc_dfa.specs.Machine.{symbols}
use Rattle.rc_lazy_dfa.specs.Caches.{AreHalves}
use Rattle.rc_dfa_search.specs.Reaches.{IsAnswerBelow}
use Rattle.rc_dfa_search.specs.declared.reach.Settled.{Settled}
use Rattle.rc_pikevm_search.specs.Engine.{engine_search}
use Rattle.rc_strategy.specs.Tables.{AreHalvesOver}
use Rattle.rc_strategy.proofs.QuestionLemmas.{ok_then}
use Rattle.rc_strategy.proofs.ReachLemmas.{seen_far}
use Rattle.rc_strategy.proofs.engines.Engines.settle_symbols.Goals as goal

-- what the tables tell is settled by three bytes more
pub returns-clause-settled : goal.returns-clause-settled
returns-clause-settled g c =
    let e = c.args.self.now in
    let read = subst (λ o. ∥ IfSome o (λ l. AreHalvesOver symbols e.engine e.patterns (AreHalves l)) ∥₁) c.in-Some.is e.symbols_read in
    let IsSeen = λ (o : Settled). IsAnswerBelow e.engine.kind (engine_search e.engine c.args.input.now) (o.reach + 3) o.found in
    let fits = c.content_fits.ensures in
    seen_far e.engine c.args.input.now c.in_ok-settled.settled.reach c.saturating_add.result c.in_ok-settled.settled.found (omega (arith, fits)) c.saturating_add.ensures
    (subst (λ o. IfSome o IsSeen) c.in_ok-settled.was
    (ok_then c.settle.result c.ok.result IsSeen c.ok.ensures.value (c.settle.ensures.settled symbols read)))
