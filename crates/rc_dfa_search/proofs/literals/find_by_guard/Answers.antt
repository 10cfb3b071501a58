use Rattle.std.proofs.Common.{IfOk, arith, subst}
use Rattle.rc_program.specs.Kinds.{IsAnswerBy}
use Rattle.rc_program.specs.Program.{program}
use Rattle.rc_literals.specs.Guard.{IsGuard}
use Rattle.rc_dfa_search.specs.Aims.{search_for}
use Rattle.rc_dfa_search.proofs.NeedleLemmas.{is_answer, late_goes}
use Rattle.rc_dfa_search.proofs.SettledLemmas.{none_yet}
use Rattle.rc_dfa_search.proofs.ToldLemmas.{kept_same, kept_whole}
use Rattle.rc_dfa_search.proofs.literals.find_by_guard.Goals as goal

pub returns-then-not-goes_by_needles-clause-found : goal.returns-then-not-goes_by_needles-clause-found
returns-then-not-goes_by_needles-clause-found g c hs terminator of guards =
    let s = c.args.input.now in
    subst (λ q. IfOk c.find_between.result (IsAnswerBy c.args.aim.kind c.args.aim.earliest q))
    (kept_whole c.args.aim hs terminator s s c.args.bounds.low (kept_same s) c.requires.bounds.0) (c.find_between.ensures.found hs terminator of)

pub returns-in-Begins-clause-found : goal.returns-in-Begins-clause-found
returns-in-Begins-clause-found g c hs terminator of guards =
    is_answer c.args.aim c.get_anchored.result (search_for c.args.aim hs terminator c.args.input.now) c.find_by_first.result
    (late_goes c.args.aim c.get_anchored.result (c.goes_by_needles.ensures.0 c.if-not-goes_by_needles.false) c.if-aim.false)
    (c.find_by_first.ensures.found hs terminator of (subst (IsGuard (program hs) terminator) c.in-Begins.is guards))

pub returns-clause-found : goal.returns-clause-found
returns-clause-found g c hs terminator of guards =
    let q = search_for c.args.aim hs terminator c.args.input.now in
    is_answer c.args.aim c.get_anchored.result q c.find_by_needles.result
    (late_goes c.args.aim c.get_anchored.result (c.goes_by_needles.ensures.0 c.if-not-goes_by_needles.false) c.if-aim.false)
    (c.find_by_needles.ensures.found hs terminator of guards (none_yet q c.args.bounds.low c.args.bounds.low (omega (arith, c.requires.bounds))))
