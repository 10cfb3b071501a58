use Rattle.std.proofs.Common.{IfOk, subst, inl, refl}
use Rattle.rc_dfa_search.specs.Aims.{is_early, search_for}
use Rattle.rc_dfa_search.specs.Halves.{IsForwardHalf}
use Rattle.rc_dfa_search.proofs.SeekLemmas.{void_answer}
use Rattle.rc_dfa_search.proofs.CostLemmas.{kept_cost, kept_fault}
use Rattle.rc_dfa_search.proofs.ToldLemmas.{kept_search}
use Rattle.rc_dfa_search.proofs.search.find_end.Goals as goal

pub returns-in_default-clause-found : goal.returns-in_default-clause-found
returns-in_default-clause-found g c hs terminator of =
    void_answer hs c.args.aim.patterns c.args.aim.kind (is_early c.args.aim) c.args.input.now.anchored (search_for c.args.aim hs terminator c.args.input.now) refl refl of.counted
    (inl c.in_default.ensures.none)

pub returns-clause-found : goal.returns-clause-found
returns-clause-found g c hs terminator of =
    subst (λ q. IfOk c.find_end_between.result (IsForwardHalf c.args.aim.kind c.args.aim.earliest q))
    (kept_search c.args.aim hs terminator c.args.input.now c.bounds_of.new.input c.bounds_of.ensures.keeps) (c.find_end_between.ensures.found hs terminator of)

pub returns-clause-fault : goal.returns-clause-fault
returns-clause-fault g c hs terminator of =
    kept_fault c.args.aim hs terminator c.args.input.now c.bounds_of.new.input c.bounds_of.ensures.keeps (g.H.Halves.GivesUp c.args.halves.now c.args.cache.now c.find_end_between.new.cache)
    c.find_end_between.result (c.find_end_between.ensures.fault hs terminator of)

pub returns-clause-spends : goal.returns-clause-spends
returns-clause-spends g c =
    subst (g.H.Halves.Spends c.args.halves.now c.args.cache.now c.find_end_between.new.cache) (kept_cost c.args.input.now c.bounds_of.new.input c.bounds_of.ensures.keeps)
    c.find_end_between.ensures.spends
