use Rattle.std.proofs.Common.{◌≡◌, ◌∙◌, refl, sym, ap, subst, length, reverse}
use Rattle.std.proofs.lemmas.List.{reverse-reverse}
use Rattle.rc_utf8.specs.Places.{places_of}
use Rattle.rc_determinize.specs.Sides.{out_over}
use Rattle.rc_determinize.specs.Sparse.{Members}
use Rattle.rc_determinize.specs.States.{is_match, root_if}
use Rattle.rc_determinize.specs.Steps.{AreBelow, Adds, IsStep}
use Rattle.rc_determinize.proofs.OpenLemmas.{add_adds}
use Rattle.rc_determinize.proofs.forward.next_preferred.Goals as goal
use Rattle.rc_determinize.proofs.forward.next_preferred.Goals.{In_ok-stack_up}

turned : (c : In_ok-stack_up) → reverse c.stack_up.new.stack.items ≡ c.args.from.now.list.items
turned c = ap (λ l. reverse l) c.in_ok-stack_up.ensures ∙ reverse-reverse c.deref.result.now ∙ c.deref.ensures.value

pub follow-requires-clause-below : goal.follow-requires-clause-below
follow-requires-clause-below c =
    subst (λ l. AreBelow (length c.args.places.now) l) (sym (turned (goal.at.follow-requires-clause-below c).In_ok-stack_up)) c.requires.below

pub returns-clause-next : goal.returns-clause-next
returns-clause-next c = record {
  next = c.follow.new.listed.items;
  is_step =
      subst (λ l. IsStep (out_over (places_of c.args.places.now) c.args.from.now.beside c.args.sides) (is_match (places_of c.args.places.now)) l c.follow.new.listed.items c.in_ok-matched.matched)
      (turned (goal.at.returns-clause-next c).In_ok-stack_up) c.in_ok-matched.ensures.step;
  goes_on = c.goes_on-goes_on.ensures;
  joined =
      subst (λ l. Adds c.follow.new.listed.items (root_if c.goes_on-goes_on.result c.args.root) l)
      (sym (ap (λ (m : Members). m.items) c.add_root.ensures) ∙ sym c.in_ok-copy_to.ensures)
      (add_adds c.follow.new.listed.items (root_if c.goes_on-goes_on.result c.args.root));
  beside = refl;
}
