use Rattle.std.proofs.Common.{◌∙◌, [], Some, sym, ap, subst}
use Rattle.rc_text.specs.Found.{Found}
use Rattle.rc_program.specs.Answer.{Search, Chosen, chosen}
use Rattle.rc_program.specs.Programs.{search_of}
use Rattle.rc_pikevm.specs.Found.{IsChosen, IsPickedBy, last_filled}
use Rattle.rc_pikevm.proofs.ReachLemmas.{without_slots}
use Rattle.rc_pikevm.proofs.SearchLemmas.{answer_is, answer_none, within}
use Rattle.rc_pikevm.proofs.reach.find_far.Given.{Over}
use Rattle.rc_pikevm.proofs.reach.find_far.Goals as goal
use Rattle.rc_pikevm.proofs.reach.find_far.Goals.{In-Some}

pub returns-in_default-clause-found : goal.returns-in_default-clause-found
returns-in_default-clause-found g c =
    let s : Search = search_of c.args.program.now c.args.input.now in
    sym (answer_none s (subst (λ r. IsPickedBy last_filled s (chosen s) r c.choose_far-end.new.scratch.found.items) c.in_default.is c.choose_far-end.ensures.chosen))

-- the walk that the search chooses
picked : (g : Over) (c : In-Some g) →
    (w : Chosen) × IsChosen (search_of c.args.program.now c.args.input.now) (chosen (search_of c.args.program.now c.args.input.now)) c.in-Some.end [] w
picked g c =
    let s : Search = search_of c.args.program.now c.args.input.now in
    let p = subst (λ r. IsPickedBy last_filled s (chosen s) r c.choose_far-end.new.scratch.found.items) c.in-Some.is c.choose_far-end.ensures.chosen in
    (p.0, without_slots s (chosen s) c.in-Some.end c.choose_far-end.new.scratch.found.items p.0 p.1)

pub new-requires-2 : goal.new-requires-2
new-requires-2 g c =
    let p = picked g (goal.at.new-requires-2 g c).In-Some in
    (within (search_of c.args.program.now c.args.input.now) c.in-Some.end [] p.0 p.1).1

pub returns-clause-found : goal.returns-clause-found
returns-clause-found g c =
    let p = picked g (goal.at.returns-clause-found g c).In-Some in
    ap Some (c.new-2.ensures ∙ ap (λ p. let f : Found = record { pattern = p; start = c.in-Some.end.start; end = c.in-Some.end.end } in f) c.in-Some-new.ensures.1)
    ∙ sym (answer_is (search_of c.args.program.now c.args.input.now) c.in-Some.end [] p.0 p.1)

pub returns-clause-bounds : goal.returns-clause-bounds
returns-clause-bounds g c =
    let p = picked g (goal.at.returns-clause-bounds g c).In-Some in
    rw c.new-2.ensures (within (search_of c.args.program.now c.args.input.now) c.in-Some.end [] p.0 p.1)
