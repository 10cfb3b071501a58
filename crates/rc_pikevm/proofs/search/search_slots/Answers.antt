use Rattle.std.proofs.Common.{◌≡◌, ◌∙◌, sym, ap, arith, Some}
use Rattle.std.specs.Option.{option_map}
use Rattle.std.proofs.lemmas.Option.{none-some, same_Some}
use Rattle.rc_text.specs.Found.{Found}
use Rattle.rc_program.specs.Answer.{Search}
use Rattle.rc_pikevm.specs.KindSlots.{slots_by}
use Rattle.rc_pikevm.specs.Rules.{kind_of}
use Rattle.rc_program.specs.Programs.{search_of}
use Rattle.rc_pikevm.proofs.RuleLemmas.{answer_is_by, answer_none_by, groups_are_by, within_by}
use Rattle.rc_pikevm.proofs.search.search_slots.Goals as goal

pub returns-in_default-clause-pattern : goal.returns-in_default-clause-pattern
returns-in_default-clause-pattern g c =
    ap (option_map (λ (m : Found). m.pattern))
    (sym (answer_none_by c.args.rule (search_of c.args.program.now c.args.input.now) c.in_default.ensures.chosen))

pub returns-in_default-clause-counted : goal.returns-in_default-clause-counted
returns-in_default-clause-counted g c m e =
    absurd (none-some m
    (sym (answer_none_by c.args.rule (search_of c.args.program.now c.args.input.now) c.in_default.ensures.chosen) ∙ e))

pub returns-clause-pattern : goal.returns-clause-pattern
returns-clause-pattern g c =
    ap Some c.in-Some-new.ensures.1
    ∙ ap (option_map (λ (m : Found). m.pattern))
    (sym (answer_is_by c.args.rule (search_of c.args.program.now c.args.input.now) c.in-Some.end c.choose_in.new.slots
    c.in-Some.ensures.chosen.0 c.in-Some.ensures.chosen.1))

pub returns-clause-slots : goal.returns-clause-slots
returns-clause-slots g c =
    let s : Search = search_of c.args.program.now c.args.input.now in
    groups_are_by c.args.rule s c.in-Some.end c.choose_in.new.slots c.in-Some.ensures.chosen.0 c.in-Some.ensures.chosen.1 c.put_match.new.slots c.put_match.ensures
    ∙ ap (slots_by (kind_of c.args.rule) s) (omega (arith, c.choose_in.auto.slots))

pub returns-clause-counted : goal.returns-clause-counted
returns-clause-counted g c m e =
    let f = same_Some _ _ (sym (answer_is_by c.args.rule (search_of c.args.program.now c.args.input.now) c.in-Some.end
    c.choose_in.new.slots c.in-Some.ensures.chosen.0 c.in-Some.ensures.chosen.1) ∙ e) in
    let start : c.in-Some.end.start ≡ m.start = ap (λ (x : Found). x.start) f in
    let end : c.in-Some.end.end ≡ m.end = ap (λ (x : Found). x.end) f in
    let w = within_by c.args.rule (search_of c.args.program.now c.args.input.now) c.in-Some.end
    c.choose_in.new.slots c.in-Some.ensures.chosen.0 c.in-Some.ensures.chosen.1 in
    omega (arith, start, end, w.1, c.in-Some.ensures.counted)
