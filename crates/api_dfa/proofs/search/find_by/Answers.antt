use Rattle.std.proofs.Common.{IfErr, IfOk}
use Rattle.rc_program.specs.Kinds.{IsAnswerBy}
use Rattle.rc_program.specs.Program.{shown}
use Rattle.rc_program.specs.Sought.{search_for as search_of}
use Rattle.rc_dfa_search.specs.Aims.{search_for}
use Rattle.rc_dfa_search.specs.Faults.{IsFault}
use Rattle.api_dfa.specs.Faults.{IsFaultOf}
use Rattle.api_dfa.specs.Views.{sought, dfa_kind}
use Rattle.api_dfa.proofs.Asked.{asked}
use Rattle.api_dfa.proofs.Had.{answer_had, err_had, fault_had, ok_had}
use Rattle.api_dfa.proofs.search.find_by.Goals as goal

pub returns-clause-found : goal.returns-clause-found
returns-clause-found g c =
    let d = c.args.dfa.now in
    let i = c.args.input.now in
    ok_had (IsAnswerBy (dfa_kind d) c.args.earliest (search_of (sought d) i)) (answer_had (dfa_kind d) c.args.earliest (search_of (sought d) i)) c.find.result
    (asked (λ a hs t. IfOk c.find.result (IsAnswerBy a.kind a.earliest (search_for a hs t i))) c.aim-aim.ensures d.made c.find.ensures.found)

pub returns-clause-fault : goal.returns-clause-fault
returns-clause-fault g c =
    let d = c.args.dfa.now in
    let i = c.args.input.now in
    let q = sought d in
    err_had (IsFault (shown q.grouped q.patterns) (search_of q i) (λ memory. ⊥)) (IsFaultOf q i) (fault_had q.grouped q.patterns (search_of q i)) c.find.result
    (asked (λ a hs t. IfErr c.find.result (IsFault hs (search_for a hs t i) (λ memory. ⊥))) c.aim-aim.ensures d.made c.find.ensures.fault)
