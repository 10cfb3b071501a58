use Rattle.std.proofs.Common.{Some, subst, sym}
use Rattle.rc_program.specs.Answer.{Search}
use Rattle.rc_pikevm_search.specs.Engine.{engine_search}
use Rattle.rc_strategy.specs.Starts.{IsFirstStart}
use Rattle.rc_strategy.proofs.PatternLemmas.{kept_search, none_adds}
use Rattle.rc_strategy.proofs.engines.Engines.mark_by_passes.Goals as goal

pub mark_by_starts-requires-clause-leftmost : goal.mark_by_starts-requires-clause-leftmost
mark_by_starts-requires-clause-leftmost g c = (c.seeks_starts.ensures c.if-seeks_starts.true).0

pub mark_by_starts-requires-clause-free : goal.mark_by_starts-requires-clause-free
mark_by_starts-requires-clause-free g c = (c.seeks_starts.ensures c.if-seeks_starts.true).1

pub mark_from-requires-clause-start : goal.mark_from-requires-clause-start
mark_from-requires-clause-start g c =
    subst (λ (q : Search). IsFirstStart q (Some c.in-Some.start))
    (sym (kept_search c.args.self.now.engine c.args.input.now c.least_start.new.input c.least_start.ensures.keeps)) c.in-Some.ensures.first

pub returns-in_default-clause-adds : goal.returns-in_default-clause-adds
returns-in_default-clause-adds g c =
    let e = c.args.self.now.engine in
    none_adds (engine_search e c.args.input.now) c.args.set.now
    (subst (IsFirstStart (engine_search e c.args.input.now)) c.in_default.is c.least_start.ensures.first)
