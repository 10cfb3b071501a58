use Rattle.std.proofs.Common.{subst, sym}
use Rattle.rc_reach.specs.Partial.{IsPartial, from_place}
use Rattle.rc_pikevm_search.specs.Engine.{engine_search}
use Rattle.rc_strategy.proofs.PartialLemmas.{from_start}
use Rattle.rc_strategy.proofs.engines.Engines.undecided_from.Goals as goal

pub returns-in_default-clause-told : goal.returns-in_default-clause-told
returns-in_default-clause-told g c =
    let e = c.args.self.now.engine in
    let s = engine_search e c.args.input.now in
    subst (λ k. IsPartial e.kind s (from_place k)) (sym c.low-from.ensures) (from_start e.kind s)

pub returns-then-not-tells_idle-clause-told : goal.returns-then-not-tells_idle-clause-told
returns-then-not-tells_idle-clause-told g c =
    let e = c.args.self.now.engine in
    let s = engine_search e c.args.input.now in
    subst (λ k. IsPartial e.kind s (from_place k)) (sym c.low-from.ensures) (from_start e.kind s)

pub returns-in-None-clause-told : goal.returns-in-None-clause-told
returns-in-None-clause-told g c =
    let e = c.args.self.now.engine in
    let s = engine_search e c.args.input.now in
    subst (λ k. IsPartial e.kind s (from_place k)) (sym c.low-from.ensures) (from_start e.kind s)
