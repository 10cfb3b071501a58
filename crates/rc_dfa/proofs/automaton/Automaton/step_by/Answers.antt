use Rattle.std.proofs.Common.{length, ap, subst, sym, ◌∙◌}
use Rattle.std.proofs.lemmas.List.{length-map}
use Rattle.std.proofs.lemmas.Result.{IfOk-weaker}
use Rattle.rc_utf8.specs.Places.{place_of, places_of}
use Rattle.rc_determinize.specs.Kinds.{IsNextByOver, bound_of}
use Rattle.rc_determinize.specs.Places.{state_of}
use Rattle.rc_determinize.specs.Sets.{IsNextOfAllOver}
use Rattle.rc_determinize.specs.Steps.{AreBelow}
use Rattle.rc_determinize.specs.Backward.{IsPriorOver}
use Rattle.rc_dfa.specs.Machine.{LeadsOver, entry_bound}
use Rattle.rc_dfa.specs.Automata.{machine_of, direction_of}
use Rattle.rc_dfa.proofs.AutomatonLemmas.{is_reversed, as_many, is_inside}
use Rattle.rc_dfa.proofs.automaton.Automaton.step_by.Goals as goal

pub next_by-requires-clause-below : goal.next_by-requires-clause-below
next_by-requires-clause-below c =
    subst (λ n. AreBelow (bound_of c.args.self.now.kind n) c.args.from.now.list.items)
    (length-map c.args.self.now.places.items place_of ∙ sym (ap length c.deref.ensures.value))
    (subst (λ d. AreBelow (entry_bound (direction_of c.args.self.now.kind d) (length (places_of c.args.self.now.places.items))) c.args.from.now.list.items)
    c.in-Forwards.is c.requires.below)

pub prior-requires-clause-edges : goal.prior-requires-clause-edges
prior-requires-clause-edges c = is_inside c.args.self.now

pub prior-requires-clause-roots : goal.prior-requires-clause-roots
prior-requires-clause-roots c =
    subst (λ es. AreBelow (length c.args.self.now.reversed.into.items) es) (sym c.deref-in-Backwards.ensures.value)
    (subst (λ n. AreBelow n c.args.self.now.entries.items) (sym (as_many c.args.self.now)) c.args.self.now.entered)

pub prior-requires-clause-below : goal.prior-requires-clause-below
prior-requires-clause-below c =
    subst (λ n. AreBelow n c.args.from.now.list.items) (length-map c.args.self.now.places.items place_of ∙ sym (as_many c.args.self.now))
    (subst (λ d. AreBelow (entry_bound (direction_of c.args.self.now.kind d) (length (places_of c.args.self.now.places.items))) c.args.from.now.list.items)
    c.in-Backwards.is c.requires.below)

pub returns-in-Forwards-clause-leads : goal.returns-in-Forwards-clause-leads
returns-in-Forwards-clause-leads c =
    let a = c.args.self.now in
    IfOk-weaker c.next_by.result _ _
    (λ x h. subst (λ d. LeadsOver (machine_of a d) (state_of c.args.from.now) c.args.sides (state_of c.next_by.new.to)) (sym c.in-Forwards.is)
    (subst (λ ps. IsNextByOver a.kind (places_of ps) 0 (state_of c.args.from.now) c.args.sides (state_of c.next_by.new.to)) c.deref.ensures.value h))
    c.next_by.ensures.next

pub returns-in-Backwards-clause-leads : goal.returns-in-Backwards-clause-leads
returns-in-Backwards-clause-leads c =
    let a = c.args.self.now in
    IfOk-weaker c.prior.result _ _
    (λ x h. subst (λ d. LeadsOver (machine_of a d) (state_of c.args.from.now) c.args.sides (state_of c.prior.new.to)) (sym c.in-Backwards.is)
    (subst (λ es. IsPriorOver (places_of a.places.items) es (state_of c.args.from.now) c.args.sides (state_of c.prior.new.to)) c.deref-in-Backwards.ensures.value
    (h (places_of a.places.items) (is_reversed a))))
    c.prior.ensures.prior

pub next_by-requires-in-Overlapping-clause-below : goal.next_by-requires-in-Overlapping-clause-below
next_by-requires-in-Overlapping-clause-below c =
    subst (λ n. AreBelow n c.args.from.now.list.items)
    (length-map c.args.self.now.places.items place_of ∙ sym (ap length c.deref-in-Overlapping.ensures.value))
    (subst (λ d. AreBelow (entry_bound (direction_of c.args.self.now.kind d) (length (places_of c.args.self.now.places.items))) c.args.from.now.list.items)
    c.in-Overlapping.is c.requires.below)

pub returns-in-Overlapping-clause-leads : goal.returns-in-Overlapping-clause-leads
returns-in-Overlapping-clause-leads c =
    let a = c.args.self.now in
    IfOk-weaker c.next_by-in-Overlapping.result _ _
    (λ x h. subst (λ d. LeadsOver (machine_of a d) (state_of c.args.from.now) c.args.sides (state_of c.next_by-in-Overlapping.new.to)) (sym c.in-Overlapping.is)
    (subst (λ ps. IsNextOfAllOver (places_of ps) 0 (state_of c.args.from.now) c.args.sides (state_of c.next_by-in-Overlapping.new.to))
    c.deref-in-Overlapping.ensures.value h))
    c.next_by-in-Overlapping.ensures.next
