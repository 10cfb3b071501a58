use Rattle.std.proofs.Common.{IfErr, IfOk, subst}
use Rattle.rc_program.specs.Program.{shown}
use Rattle.rc_program.specs.Sought.{search_for as search_of}
use Rattle.rc_dfa_search.specs.Aims.{search_for}
use Rattle.rc_dfa_search.specs.Faults.{IsFault}
use Rattle.rc_dfa_search.specs.Halves.{IsForwardHalf}
use Rattle.api_dfa.specs.Faults.{IsFaultOf}
use Rattle.api_dfa.specs.Views.{sought, dfa_kind}
use Rattle.api_dfa.proofs.Asked.{asked}
use Rattle.api_dfa.proofs.Had.{end_had, err_had, fault_had, ok_had}
use Rattle.api_dfa.proofs.search.try_search_fwd.Goals as goal

pub returns-clause-found : goal.returns-clause-found
returns-clause-found g c =
    let d = c.args.dfa.now in
    let i = c.args.input.now in
    let e = c.get_earliest.result in
    subst (λ x. IfOk c.find_end.result (IsForwardHalf (dfa_kind d) x (search_of (sought d) i))) c.get_earliest.ensures
    (ok_had (IsForwardHalf (dfa_kind d) e (search_of (sought d) i)) (end_had (dfa_kind d) e (search_of (sought d) i)) c.find_end.result
    (asked (λ a hs t. IfOk c.find_end.result (IsForwardHalf a.kind a.earliest (search_for a hs t i))) c.aim-aim.ensures d.made c.find_end.ensures.found))

pub returns-clause-fault : goal.returns-clause-fault
returns-clause-fault g c =
    let d = c.args.dfa.now in
    let i = c.args.input.now in
    let q = sought d in
    err_had (IsFault (shown q.grouped q.patterns) (search_of q i) (λ memory. ⊥)) (IsFaultOf q i) (fault_had q.grouped q.patterns (search_of q i)) c.find_end.result
    (asked (λ a hs t. IfErr c.find_end.result (IsFault hs (search_for a hs t i) (λ memory. ⊥))) c.aim-aim.ensures d.made c.find_end.ensures.fault)
