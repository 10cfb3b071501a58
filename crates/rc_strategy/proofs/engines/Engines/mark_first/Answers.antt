use Rattle.std.proofs.Common.{◌∙◌, ◌+◌, Some, ap, arith, length, subst, sym}
use Rattle.rc_program.specs.Answer.{Search}
use Rattle.rc_pikevm.specs.PatternSpans.{AddsSpelled}
use Rattle.rc_pikevm_search.specs.Engine.{engine_search}
use Rattle.rc_strategy.specs.Starts.{AddsBefore, IsFirstStart}
use Rattle.rc_strategy.proofs.PatternLemmas.{first_unpassed, kept_search, none_adds, none_unpassed}
use Rattle.rc_strategy.proofs.engines.Engines.mark_first.Goals as goal

pub mark_at-requires-clause-start : goal.mark_at-requires-clause-start
mark_at-requires-clause-start g c =
    let e = c.args.self.now.engine in
    subst (λ (q : Search). IsFirstStart q (Some c.start-start.result)) (sym (kept_search e c.args.input.now c.find_told.new.input c.find_told.ensures.keeps))
    (first_unpassed e.kind (engine_search e c.args.input.now) c.in-Some-Some.field-0 c.in-Some-Some.found c.start-start.result c.requires.leftmost
    c.in-Some-Some.ensures.found c.in-Some-Some.field-0-is c.start-start.ensures.value)

pub returns-in-Some-Some-clause-adds : goal.returns-in-Some-Some-clause-adds
returns-in-Some-Some-clause-adds g c =
    subst (λ (q : Search). AddsBefore q (c.start-start.result + 1) c.args.set.now c.mark_at.new.set)
    (kept_search c.args.self.now.engine c.args.input.now c.find_told.new.input c.find_told.ensures.keeps) c.mark_at.ensures.adds

pub returns-in-Some-Some-clause-ahead : goal.returns-in-Some-Some-clause-ahead
returns-in-Some-Some-clause-ahead g c =
    let e = c.args.self.now.engine in
    let first =
    first_unpassed e.kind (engine_search e c.args.input.now) c.in-Some-Some.field-0 c.in-Some-Some.found c.start-start.result c.requires.leftmost
    c.in-Some-Some.ensures.found c.in-Some-Some.field-0-is c.start-start.ensures.value in
    let from = first.0.0 in
    omega (arith, from)

pub overflow_add-result : goal.overflow_add-result
overflow_add-result g c =
    let e = c.args.self.now.engine in
    let first =
    first_unpassed e.kind (engine_search e c.args.input.now) c.in-Some-Some.field-0 c.in-Some-Some.found c.start-start.result c.requires.leftmost
    c.in-Some-Some.ensures.found c.in-Some-Some.field-0-is c.start-start.ensures.value in
    let most = first.0.1 in
    let same = ap (λ l. length l) c.find_told.ensures.keeps.content in
    let fits = c.content_fits.ensures in
    omega (arith, most, same, fits)

pub returns-in-Some-None-clause-adds : goal.returns-in-Some-None-clause-adds
returns-in-Some-None-clause-adds g c =
    let e = c.args.self.now.engine in
    none_adds (engine_search e c.args.input.now) c.args.set.now
    (none_unpassed e.kind (engine_search e c.args.input.now) (sym c.in-Some-None.field-0-is ∙ c.in-Some-None.ensures.found))

pub returns-in-None-clause-adds : goal.returns-in-None-clause-adds
returns-in-None-clause-adds g c =
    subst (λ (q : Search). AddsSpelled q c.args.set.now c.mark-in-None.new.set)
    (kept_search c.args.self.now.engine c.args.input.now c.find_told.new.input c.find_told.ensures.keeps) c.mark-in-None.ensures.adds
