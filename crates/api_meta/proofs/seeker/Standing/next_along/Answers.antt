use Rattle.std.proofs.Common.{◌∙◌, refl, rules, sym}
use Rattle.rc_pikevm_search.specs.Moved.{IsMoved}
use Rattle.rc_strategy.proofs.ListLemmas.{list_moved}
use Rattle.api_meta.proofs.Going.{none_left, next_left}
use Rattle.api_meta.proofs.seeker.Standing.next_along.Goals as goal

pub returns-in_default-clause-steps : goal.returns-in_default-clause-steps
returns-in_default-clause-steps g c =
    let f = c.args.self.now in
    (none_left c.args.regex.now c.args.input.now f.last f.is_done (sym c.in_default.is ∙ c.next_along.ensures.found), refl)

pub returns-clause-steps : goal.returns-clause-steps
returns-clause-steps g c =
    let f = c.args.self.now in
    let moves : IsMoved c.args.input.now c.set_start.new.self = search rules in
    (next_left c.args.regex.now c.args.input.now c.set_start.new.self f.last f.is_done c.in-Some.found c.end-2.result c.if-self.false
    (sym c.in-Some.is ∙ c.next_along.ensures.found) moves (c.set_start.ensures.start ∙ c.end.ensures.value) c.end-2.ensures.value)

pub returns-clause-memo : goal.returns-clause-memo
returns-clause-memo g c =
    let moves : IsMoved c.next_along.new.input c.set_start.new.self = search rules in
    list_moved c.args.regex.now.engines c.next_along.new.input c.set_start.new.self c.next_along.new.memo moves c.next_along.ensures.memo
