use Rattle.std.proofs.Common.{IfOk, subst, inl, refl}
use Rattle.rc_dfa_search.specs.Aims.{search_for}
use Rattle.rc_dfa_search.specs.Reverse.{IsReverseHalf}
use Rattle.rc_dfa_search.proofs.SeekLemmas.{void_start}
use Rattle.rc_dfa_search.proofs.CostLemmas.{kept_cost, kept_fault}
use Rattle.rc_dfa_search.proofs.ToldLemmas.{kept_search}
use Rattle.rc_dfa_search.proofs.search.find_start.Goals as goal

pub returns-in_default-clause-found : goal.returns-in_default-clause-found
returns-in_default-clause-found g c hs terminator of =
    inl (void_start hs c.args.aim.patterns c.args.input.now.anchored (search_for c.args.aim hs terminator c.args.input.now) refl refl of.counted (inl c.in_default.ensures.none))

pub returns-clause-found : goal.returns-clause-found
returns-clause-found g c hs terminator of =
    subst (λ q. IfOk c.find_start_between.result (IsReverseHalf c.args.aim.earliest q))
    (kept_search c.args.aim hs terminator c.args.input.now c.bounds_of.new.input c.bounds_of.ensures.keeps) (c.find_start_between.ensures.found hs terminator of)

pub returns-clause-fault : goal.returns-clause-fault
returns-clause-fault g c hs terminator of =
    kept_fault c.args.aim hs terminator c.args.input.now c.bounds_of.new.input c.bounds_of.ensures.keeps (g.H.Halves.GivesUp c.args.halves.now c.args.cache.now c.find_start_between.new.cache)
    c.find_start_between.result (c.find_start_between.ensures.fault hs terminator of)

pub returns-clause-spends : goal.returns-clause-spends
returns-clause-spends g c =
    subst (g.H.Halves.Spends c.args.halves.now c.args.cache.now c.find_start_between.new.cache) (kept_cost c.args.input.now c.bounds_of.new.input c.bounds_of.ensures.keeps)
    c.find_start_between.ensures.spends
