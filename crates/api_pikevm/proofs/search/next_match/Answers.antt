use Rattle.std.proofs.Common.{◌∙◌, Some, sym, rules}
use Rattle.rc_build.proofs.Fitted.{engine_none, engine_some}
use Rattle.api_pikevm.proofs.Left.{counted}
use Rattle.api_pikevm.proofs.search.next_match.Goals as goal

pub returns-in_default-clause-left : goal.returns-in_default-clause-left
returns-in_default-clause-left g c =
    engine_none c.args.vm.now.fits c.args.input.now c.args.last (sym c.in_default.is ∙ c.next_match.ensures.found)

pub returns-clause-left : goal.returns-clause-left
returns-clause-left g c =
    engine_some c.args.vm.now.fits c.args.input.now c.set_start.new.self c.args.last c.in-Some.found (search rules)
    (c.set_start.ensures.start ∙ c.end.ensures.value) (sym c.in-Some.is ∙ c.next_match.ensures.found)

pub returns-in_default-clause-counted : goal.returns-in_default-clause-counted
returns-in_default-clause-counted g c =
    let vm = c.args.vm.now in
    let j = c.next_match.new.input in
    counted vm.fits c.args.input.now j c.args.last _ _ _ vm.unanswered c.next_match.ensures.moves c.next_match.ensures.start c.in_default.is
    c.next_match.ensures.counts

pub returns-clause-counted : goal.returns-clause-counted
returns-clause-counted g c =
    let vm = c.args.vm.now in
    let j = c.next_match.new.input in
    counted vm.fits c.args.input.now j c.args.last (Some c.in-Some.found) _ _ vm.unanswered c.next_match.ensures.moves c.next_match.ensures.start c.in-Some.is
    c.next_match.ensures.counts
