use Rattle.std.proofs.Common.{◌≡◌, ◌∙◌, ◌↔◌, ℕ, sym, ap, subst, length, reverse}
use Rattle.std.proofs.lemmas.List.{reverse-reverse}
use Rattle.std.proofs.lemmas.Result.{IfOk-weaker}
use Rattle.rc_utf8.specs.Places.{places_of}
use Rattle.rc_determinize.specs.Sides.{out_over}
use Rattle.rc_determinize.specs.Sets.{ComesBy}
use Rattle.rc_determinize.specs.Steps.{HasPlace, AreBelow}
use Rattle.rc_determinize.proofs.forward.ends_here.Goals as goal
use Rattle.rc_determinize.proofs.forward.ends_here.Goals.{In_ok-stack_up}

turned : (c : In_ok-stack_up) → reverse c.stack_up.new.stack.items ≡ c.args.from.now.list.items
turned c = ap (λ l. reverse l) c.in_ok-stack_up.ensures ∙ reverse-reverse c.deref.result.now ∙ c.deref.ensures.value

pub gather-requires-clause-below : goal.gather-requires-clause-below
gather-requires-clause-below c =
    subst (λ l. AreBelow (length c.args.places.now) l) (sym (turned (goal.at.gather-requires-clause-below c).In_ok-stack_up)) c.requires.below

pub returns-clause-ends : goal.returns-clause-ends
returns-clause-ends c =
    let places = places_of c.args.places.now in
    let beside = c.args.from.now.beside in
    let entered = c.gather.new.entered.items in
    let list = c.args.from.now.list.items in
    let here = λ (q : ℕ). subst (λ l. HasPlace q entered ↔ ComesBy (out_over places beside c.args.sides) l q)
    (turned (goal.at.returns-clause-ends c).In_ok-stack_up) (c.in_ok-gather.ensures.entered q) in
    IfOk-weaker c.matches_of.result _ _
    (λ x h q. (λ i. let k = (h q).0 i in ((here q).0 k.0, k.1), λ i. (h q).1 ((here q).1 i.0, i.1)))
    c.matches_of.ensures
