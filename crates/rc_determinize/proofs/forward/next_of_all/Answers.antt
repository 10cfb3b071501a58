use Rattle.std.proofs.Common.{◌≡◌, ◌∙◌, sym, ap, subst, length, reverse, refl, ◌↔◌}
use Rattle.std.proofs.lemmas.List.{reverse-reverse}
use Rattle.rc_utf8.specs.Places.{places_of}
use Rattle.rc_determinize.specs.Places.{state_of}
use Rattle.rc_determinize.specs.Sides.{out_over}
use Rattle.rc_determinize.specs.Machine.{IsGathered}
use Rattle.rc_determinize.specs.Sparse.{Members}
use Rattle.rc_determinize.specs.Steps.{HasPlace, AreBelow}
use Rattle.rc_determinize.proofs.GatherLemmas.{collected}
use Rattle.rc_determinize.proofs.forward.next_of_all.Goals as goal
use Rattle.rc_determinize.proofs.forward.next_of_all.Goals.{In_ok-stack_up}

turned : (c : In_ok-stack_up) → reverse c.stack_up.new.stack.items ≡ c.args.from.now.list.items
turned c = ap (λ l. reverse l) c.in_ok-stack_up.ensures ∙ reverse-reverse c.deref.result.now ∙ c.deref.ensures.value

pub gather-requires-clause-below : goal.gather-requires-clause-below
gather-requires-clause-below c =
    subst (λ l. AreBelow (length c.args.places.now) l) (sym (turned (goal.at.gather-requires-clause-below c).In_ok-stack_up)) c.requires.below

pub returns-clause-next : goal.returns-clause-next
returns-clause-next c =
    let e = ap (λ (m : Members). m.items) c.add_root.ensures in
    collected (places_of c.args.places.now) c.args.root (state_of c.args.from.now) c.args.sides
    (state_of (record { list = c.rise_to.new.list; beside = c.args.sides.far; goes_on = c.args.from.now.goes_on; matched = c.in_ok-matched.matched }))
    c.gather.new.listed.items
    (subst (λ l. IsGathered (out_over (places_of c.args.places.now) c.args.from.now.beside c.args.sides) (places_of c.args.places.now) l c.gather.new.listed.items c.in_ok-matched.matched)
    (turned (goal.at.returns-clause-next c).In_ok-stack_up) c.in_ok-matched.ensures.step)
    c.in_ok-rise_to.ensures.rising
    (λ q. subst (λ l. HasPlace q c.rise_to.new.list.items ↔ HasPlace q l) e (c.in_ok-rise_to.ensures.members q))
    refl refl
