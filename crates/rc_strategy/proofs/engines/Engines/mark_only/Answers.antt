use Rattle.std.proofs.Common.{◌∙◌, refl, subst, sym}
use Rattle.rc_pikevm.specs.PatternSpans.{AddsSpelled}
use Rattle.rc_pikevm_search.specs.Engine.{engine_search}
use Rattle.rc_strategy.proofs.PatternLemmas.{no_span_told, none_adds, none_unpassed, one_told, one_unpassed}
use Rattle.rc_strategy.proofs.engines.Engines.mark_only.Goals as goal

pub returns-then-is_match-clause-adds : goal.returns-then-is_match-clause-adds
returns-then-is_match-clause-adds g c =
    let e = c.args.self.now.engine in
    subst (AddsSpelled (engine_search e c.args.input.now) c.args.set.now) (sym c.insert.ensures.set)
    (one_told e.kind (engine_search e c.args.input.now) c.is_match.result 1 c.args.set.now c.requires.first refl c.is_match.ensures.found c.if-is_match.true)

pub returns-else-is_match-clause-adds : goal.returns-else-is_match-clause-adds
returns-else-is_match-clause-adds g c =
    let e = c.args.self.now.engine in
    none_adds (engine_search e c.args.input.now) c.args.set.now
    (no_span_told e.kind (engine_search e c.args.input.now) c.is_match.result c.if-not-self.true c.is_match.ensures.found c.if-is_match.false)

pub returns-in-Some-Some-clause-adds : goal.returns-in-Some-Some-clause-adds
returns-in-Some-Some-clause-adds g c =
    let e = c.args.self.now.engine in
    subst (AddsSpelled (engine_search e c.args.input.now) c.args.set.now) (sym c.insert-in-Some-Some.ensures.set)
    (one_unpassed e.kind (engine_search e c.args.input.now) c.in-Some-Some.field-0 c.in-Some-Some.field-0-0 c.args.set.now c.requires.first
    c.in-Some-Some.ensures.found c.in-Some-Some.field-0-is)

pub returns-in-Some-None-clause-adds : goal.returns-in-Some-None-clause-adds
returns-in-Some-None-clause-adds g c =
    let e = c.args.self.now.engine in
    none_adds (engine_search e c.args.input.now) c.args.set.now
    (none_unpassed e.kind (engine_search e c.args.input.now) (sym c.in-Some-None.field-0-is ∙ c.in-Some-None.ensures.found))
