use Rattle.std.proofs.Common.{◌∙◌, sym, ap, Some}
use Rattle.rc_text.specs.Found.{Found}
use Rattle.rc_program.specs.Programs.{search_of}
use Rattle.rc_pikevm.proofs.RuleLemmas.{answer_is_by, answer_none_by, within_by}
use Rattle.rc_pikevm.proofs.search.find.Goals as goal

pub returns-in_default-clause-found : goal.returns-in_default-clause-found
returns-in_default-clause-found g c =
    sym (answer_none_by c.args.rule (search_of c.args.program.now c.args.input.now) c.in_default.ensures.chosen)

pub new-requires-2 : goal.new-requires-2
new-requires-2 g c =
    (within_by c.args.rule (search_of c.args.program.now c.args.input.now) c.in-Some.end c.choose_in.new.slots
    c.in-Some.ensures.chosen.0 c.in-Some.ensures.chosen.1).1

pub returns-clause-found : goal.returns-clause-found
returns-clause-found g c =
    ap Some (c.new-2.ensures ∙ ap (λ p. let f : Found = record { pattern = p; start = c.in-Some.end.start; end = c.in-Some.end.end } in f) c.in-Some-new.ensures.1)
    ∙ sym (answer_is_by c.args.rule (search_of c.args.program.now c.args.input.now) c.in-Some.end c.choose_in.new.slots
    c.in-Some.ensures.chosen.0 c.in-Some.ensures.chosen.1)

pub returns-clause-bounds : goal.returns-clause-bounds
returns-clause-bounds g c =
    rw c.new-2.ensures
    (within_by c.args.rule (search_of c.args.program.now c.args.input.now) c.in-Some.end c.choose_in.new.slots
    c.in-Some.ensures.chosen.0 c.in-Some.ensures.chosen.1)
