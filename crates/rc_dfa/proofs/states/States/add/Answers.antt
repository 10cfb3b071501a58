use Rattle.std.proofs.Common.{◌≡◌, ◌∙◌, List, ◌++◌, ◌∷◌, [], length, map, ap, refl, rules, arith}
use Rattle.std.proofs.lemmas.List.{length-map}
use Rattle.std.proofs.lemmas.List.Elements.{same_from_all_zip}
use Rattle.rc_determinize.specs.declared.state.State.{State}
use Rattle.rc_determinize.specs.Places.{state_of}
use Rattle.rc_dfa.specs.Keys.{key_of, IsAbsent}
use Rattle.rc_dfa.proofs.NumberLemmas.{one_more, added}
use Rattle.rc_dfa.proofs.states.States.add.Goals as goal
use Rattle.rc_dfa.proofs.states.States.add.Goals.{After-push_reserved}

longer : (c : After-push_reserved) → map state_of c.push_reserved.new.self.items ≡ map state_of c.self.inside.list.items ++ state_of c.args.state.now ∷ []
longer c =
    let s = c.args.state.now in
    let copy : State = record { list = c.in_ok-list.list; beside = s.beside; goes_on = s.goes_on; matched = s.matched } in
    let same : copy.list.items ≡ s.list.items = same_from_all_zip _ _ _ c.in_ok-list.ensures.cases.0 (λ x y h. search rules) in
    added c.self.inside.list.items c.push_reserved.new.self.items copy s
    (c.push_reserved.ensures.items ∙ ap (λ (xs : List State). xs ++ copy ∷ []) c.in_ok-try_reserve.ensures.items) same refl refl refl

pub invariant_of-self-2 : goal.invariant_of-self-2
invariant_of-self-2 c =
    let a = c.self.inside in
    let states = map state_of a.list.items in
    let s = state_of c.args.state.now in
    let absent : IsAbsent states s = rw c.self.view_is c.requires in
    let key : c.in_ok-key.key.items ≡ key_of s = same_from_all_zip _ _ _ c.in_ok-key.ensures.cases.0 (λ x y h. search rules) ∙ c.in_ok-write_key.ensures in
    let next : c.len.result ≡ length states = omega (arith, c.len.ensures, c.in_ok-try_reserve.ensures.len, a.list.ok.0, length-map a.list.items state_of) in
    rw (longer (goal.at.invariant_of-self-2 c).After-push_reserved)
    (one_more states a.numbers c.insert.new.self c.in_ok-key.key s c.len.result c.self.invariant absent key next c.in_ok-insert.ensures.updates.0)

pub returns-clause-added : goal.returns-clause-added
returns-clause-added c = longer (goal.at.returns-clause-added c).After-push_reserved ∙ ap (λ xs. xs ++ state_of c.args.state.now ∷ []) c.self.view_is
