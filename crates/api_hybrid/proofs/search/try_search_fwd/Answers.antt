use Rattle.std.proofs.Common.{◌+◌, ◌-◌, ◌*◌, IfErr, IfOk, subst}
use Rattle.rc_text.specs.Text.{high, low}
use Rattle.rc_program.specs.Program.{shown}
use Rattle.rc_program.specs.Sought.{search_for as search_of}
use Rattle.rc_dfa_search.specs.Aims.{search_for}
use Rattle.rc_dfa_search.specs.Faults.{IsFault}
use Rattle.rc_dfa_search.specs.Halves.{IsForwardHalf}
use Rattle.rc_lazy_dfa.specs.Caches.{MayGiveUpEither}
use Rattle.api_hybrid.specs.Faults.{IsFaultOf}
use Rattle.api_hybrid.specs.Views.{sought, regex_kind}
use Rattle.api_hybrid.proofs.Asked.{asked}
use Rattle.api_hybrid.proofs.Had.{clears_had, fault_had}
use Rattle.api_dfa.proofs.Had.{end_had, err_had, ok_had}
use Rattle.api_hybrid.proofs.search.try_search_fwd.Goals as goal

pub returns-clause-found : goal.returns-clause-found
returns-clause-found g c =
    let re = c.args.re.now in
    let i = c.args.input.now in
    let e = c.get_earliest.result in
    subst (λ x. IfOk c.find_end.result (IsForwardHalf (regex_kind re) x (search_of (sought re) i))) c.get_earliest.ensures
    (ok_had (IsForwardHalf (regex_kind re) e (search_of (sought re) i)) (end_had (regex_kind re) e (search_of (sought re) i)) c.find_end.result
    (asked (λ a hs t. IfOk c.find_end.result (IsForwardHalf a.kind a.earliest (search_for a hs t i))) c.aim-aim.ensures re.made c.find_end.ensures.found))

pub returns-clause-fault : goal.returns-clause-fault
returns-clause-fault g c =
    let re = c.args.re.now in
    let i = c.args.input.now in
    let q = sought re in
    let a = c.args.cache.now in
    let b = record a { inner = c.find_end.new.cache } in
    let Given = MayGiveUpEither re.lazy a.inner b.inner ((high i - low i + 4) * (high i - low i + 4)) in
    err_had (IsFault (shown q.grouped q.patterns) (search_of q i) Given) (IsFaultOf re i a b) (fault_had re i a b c.requires.made) c.find_end.result
    (asked (λ x hs t. IfErr c.find_end.result (IsFault hs (search_for x hs t i) Given)) c.aim-aim.ensures re.made c.find_end.ensures.fault)

pub returns-clause-clears : goal.returns-clause-clears
returns-clause-clears g c =
    let a = c.args.cache.now in
    clears_had c.args.re.now c.args.input.now a (record a { inner = c.find_end.new.cache }) c.requires.made c.find_end.ensures.spends
