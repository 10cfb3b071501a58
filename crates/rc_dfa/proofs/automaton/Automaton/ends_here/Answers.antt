use Rattle.std.proofs.Common.{◌∙◌, ◌↔◌, ℕ, ap, length, sym, subst}
use Rattle.std.proofs.lemmas.List.{length-map}
use Rattle.std.proofs.lemmas.Result.{IfOk-weaker}
use Rattle.rc_utf8.specs.Places.{place_of, places_of}
use Rattle.rc_determinize.specs.Places.{state_of}
use Rattle.rc_determinize.specs.Sets.{EndsOver}
use Rattle.rc_determinize.specs.Steps.{AreBelow, HasPlace}
use Rattle.rc_dfa.proofs.automaton.Automaton.ends_here.Goals as goal

pub ends_here-requires-clause-below : goal.ends_here-requires-clause-below
ends_here-requires-clause-below c =
    subst (λ n. AreBelow n c.args.from.now.list.items) (length-map c.args.self.now.places.items place_of ∙ sym (ap length c.deref.ensures.value)) c.requires.below

pub returns-clause-ends : goal.returns-clause-ends
returns-clause-ends c =
    let a = c.args.self.now in
    IfOk-weaker c.ends_here.result _ _
    (λ x h. subst (λ y. (q : ℕ) → HasPlace q c.ends_here.new.ends.items ↔ EndsOver (places_of a.places.items) (state_of c.args.from.now) y q) c.sides_of-sides.ensures
    (subst (λ ps. (q : ℕ) → HasPlace q c.ends_here.new.ends.items ↔ EndsOver (places_of ps) (state_of c.args.from.now) c.sides_of-sides.result q)
    c.deref.ensures.value h))
    c.ends_here.ensures.ends
