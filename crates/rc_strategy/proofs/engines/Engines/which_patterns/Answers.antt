use Rattle.std.proofs.Common.{◌∙◌, ap, refl, subst}
use Rattle.std.specs.Prelude.{is_none}
use Rattle.rc_program.specs.Places.{places_of}
use Rattle.rc_pikevm_search.specs.Engine.{engine_search}
use Rattle.rc_pikevm.specs.PatternSpans.{AddsSpelled, AreOfFirst}
use Rattle.rc_strategy.specs.Starts.{AddsSome}
use Rattle.rc_strategy.proofs.CacheLemmas.{same_in, states_stay, still_in}
use Rattle.rc_strategy.proofs.OverlapLemmas.{some_then}
use Rattle.rc_strategy.proofs.StartLemmas.{same_then}
use Rattle.rc_strategy.proofs.PatternLemmas.{early_adds, full_adds, kept_search}
use Rattle.rc_strategy.proofs.engines.Engines.which_patterns.Goals as goal

pub returns-then-has_all-clause-adds : goal.returns-then-has_all-clause-adds
returns-then-has_all-clause-adds g c =
    full_adds (engine_search c.args.self.now.engine c.args.input.now) c.args.patterns c.args.set.now c.requires.first (c.has_all.ensures c.if-has_all.true)

pub returns-then-has_all-clause-cache : goal.returns-then-has_all-clause-cache
returns-then-has_all-clause-cache g c = same_in c.args.self.now 0 c.args.cache.now c.requires.made

pub returns-in_default-clause-adds : goal.returns-in_default-clause-adds
returns-in_default-clause-adds g c =
    let e = c.args.self.now in
    early_adds e.engine e.spans c.args.input.now (is_none c.bounds.result) c.args.set.now e.bound c.bounds.ensures.value (ap is_none c.in_default.is)

pub returns-in_default-clause-cache : goal.returns-in_default-clause-cache
returns-in_default-clause-cache g c = same_in c.args.self.now 0 c.args.cache.now c.requires.made

pub mark_by_literals-requires-clause-literals : goal.mark_by_literals-requires-clause-literals
mark_by_literals-requires-clause-literals g c = (c.goes_by_literals.ensures c.if-goes_by_literals.true).0

pub mark_by_literals-requires-clause-all : goal.mark_by_literals-requires-clause-all
mark_by_literals-requires-clause-all g c = (c.goes_by_literals.ensures c.if-goes_by_literals.true).1

pub returns-then-goes_by_literals-clause-adds : goal.returns-then-goes_by_literals-clause-adds
returns-then-goes_by_literals-clause-adds g c =
    subst (λ q. AddsSpelled q c.args.set.now c.mark_by_literals.new.set)
    (kept_search c.args.self.now.engine c.args.input.now c.bounds.new.input c.bounds.ensures.keeps) c.mark_by_literals.ensures.adds

pub returns-then-goes_by_literals-clause-cache : goal.returns-then-goes_by_literals-clause-cache
returns-then-goes_by_literals-clause-cache g c = same_in c.args.self.now 0 c.args.cache.now c.requires.made

pub mark_only-requires-clause-first : goal.mark_only-requires-clause-first
mark_only-requires-clause-first g c =
    subst (λ n. AreOfFirst n (places_of c.args.self.now.engine.program.places.items)) c.if-patterns-eq1.true c.requires.first

pub returns-then-patterns-eq1-clause-adds : goal.returns-then-patterns-eq1-clause-adds
returns-then-patterns-eq1-clause-adds g c =
    subst (λ q. AddsSpelled q c.args.set.now c.mark_only.new.set)
    (kept_search c.args.self.now.engine c.args.input.now c.bounds.new.input c.bounds.ensures.keeps) c.mark_only.ensures.adds

pub returns-then-mark_overlapping-clause-adds : goal.returns-then-mark_overlapping-clause-adds
returns-then-mark_overlapping-clause-adds g c =
    subst (λ q. AddsSpelled q c.args.set.now c.mark_overlapping.new.set)
    (kept_search c.args.self.now.engine c.args.input.now c.bounds.new.input c.bounds.ensures.keeps) (c.mark_overlapping.ensures.all c.if-mark_overlapping.true)

pub mark_by_passes-requires-clause-made : goal.mark_by_passes-requires-clause-made
mark_by_passes-requires-clause-made g c =
    still_in c.args.self.now 0 c.args.cache.now _ c.requires.made (record {
      pass = refl;
      lazy = c.mark_overlapping.ensures.cache;
      symbols = states_stay c.args.self.now.symbols c.args.cache.now.symbols c.requires.made.symbols;
    })

pub returns-clause-adds : goal.returns-clause-adds
returns-clause-adds g c =
    let e = c.args.self.now.engine in
    let kept = kept_search e c.args.input.now c.bounds.new.input c.bounds.ensures.keeps in
    some_then (engine_search e c.args.input.now) c.args.set.now c.mark_overlapping.new.set c.mark_by_passes.new.set
    (subst (λ q. AddsSome q c.args.set.now c.mark_overlapping.new.set) kept c.mark_overlapping.ensures.adds)
    (subst (λ q. AddsSpelled q c.mark_overlapping.new.set c.mark_by_passes.new.set)
    (kept_search e c.bounds.new.input c.mark_overlapping.new.input c.mark_overlapping.ensures.keeps ∙ kept) c.mark_by_passes.ensures.adds)

pub returns-clause-cache : goal.returns-clause-cache
returns-clause-cache g c =
    same_then c.args.self.now c.args.cache.now _ _ (record {
      pass = refl;
      lazy = c.mark_overlapping.ensures.cache;
      symbols = states_stay c.args.self.now.symbols c.args.cache.now.symbols c.requires.made.symbols;
    }) c.mark_by_passes.ensures.cache
