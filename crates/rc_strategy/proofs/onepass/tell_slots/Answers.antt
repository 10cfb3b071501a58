use Rattle.std.proofs.Common.{◌∙◌, IfSome, ap, length, subst}
use Rattle.std.proofs.Math.Logic.{∥∥₁_elim}
use denote.Struct.Props.{props}
use Rattle.rc_onepass.specs.Rows.{IsOnePassOf}
use Rattle.rc_strategy.specs.Slots.{MayBeOnePass}
use Rattle.rc_strategy.proofs.SlotLemmas.{length-span, visits_told}
use Rattle.rc_strategy.proofs.onepass.tell_slots.Goals as goal

pub returns-clause-slots : goal.returns-clause-slots
returns-clause-slots g c told s c' of may content over =
    ∥∥₁_elim may (hlevel props)
    (λ (single : MayBeOnePass s.places c.args.onepass.now).
    visits_told s c' c.args.found (length c.args.slots.now) c.put_span.new.slots c.set_groups.new.slots of over c.put_span.ensures
    (c.set_groups.ensures.slots told s c' (subst (λ o. IfSome o (IsOnePassOf s.places)) c.in-Some.is single) content over)
    (c.set_groups.ensures.long ∙ ap (λ xs. length xs) c.put_span.ensures ∙ length-span c.args.found (length c.args.slots.now)))
