use Rattle.std.proofs.Common.{true, not, ap}
use Rattle.std.specs.Prelude.{is_some}
use Rattle.rc_pikevm_search.specs.Engine.{engine_search}
use Rattle.rc_strategy.proofs.EarlyLemmas.{kept_match, may_by, none_may}
use Rattle.rc_strategy.proofs.pass.find_early.Goals as goal

pub returns-then-program-clause-may : goal.returns-then-program-clause-may
returns-then-program-clause-may g c =
    let e = c.args.engine.now in may_by e.kind true (engine_search e c.args.input.now) c.find.result c.find.ensures.found

pub returns-in_default-clause-may : goal.returns-in_default-clause-may
returns-in_default-clause-may g c =
    let e = c.args.engine.now in
    none_may e.kind true (engine_search e c.args.input.now) (is_some c.first_end.result) c.first_end.ensures.found
    (ap is_some c.in_default.is) (ap not c.if-program.false)

pub returns-clause-may : goal.returns-clause-may
returns-clause-may g c =
    let e = c.args.engine.now in
    may_by e.kind true (engine_search e c.args.input.now) c.find-2.result
    (kept_match e c.args.input.now c.first_end.new.input c.find_up_to.new.input c.find-2.result c.first_end.ensures.keeps c.find_up_to.ensures.keeps
    c.find-2.ensures.found)
