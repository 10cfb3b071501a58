use Rattle.std.proofs.Common.{◌↔◌, ℕ, sym, subst}
use Rattle.rc_determinize.specs.Places.{state_of}
use Rattle.rc_determinize.specs.Sets.{EndsHere}
use Rattle.rc_determinize.specs.Steps.{HasPlace}
use Rattle.rc_dfa.specs.Automata.{machine_of}
use Rattle.rc_dfa.specs.declared.automaton.Direction.TheVariants.{Overlapping}
use Rattle.rc_lazy_dfa.specs.Stores.{frame_of}
use Rattle.rc_lazy_dfa.proofs.RowLemmas.{row_state}
use Rattle.rc_lazy_dfa.proofs.StepLemmas.{below_by}
use Rattle.rc_lazy_dfa.proofs.WhichLemmas.{ends_added, ends_each}
use Rattle.rc_lazy_dfa.proofs.which.Ends.insert.Goals as goal

pub ends_here-requires-clause-below : goal.ends_here-requires-clause-below
ends_here-requires-clause-below g c =
    below_by g.f (frame_of c.args.automaton.now Overlapping) (state_of c.get-from.result.now) c.requires.0 (c.requires.1.0.held.within.each _ _ c.get-from.ensures)

pub returns-then-not-insert_all-clause-adds : goal.returns-then-not-insert_all-clause-adds
returns-then-not-insert_all-clause-adds g c = λ s r.
    let is = row_state g.f c.args.self.now.half.store c.requires.1.0.held c.args.row s r (state_of c.get-from.result.now) c.get-from.ensures in
    ends_added c.args.automaton.now g.f (state_of c.get-from.result.now) s c.args.beside c.deref.result.now c.requires.0 is
    (subst (λ xs. (q : ℕ) → HasPlace q xs ↔ EndsHere (machine_of c.args.automaton.now Overlapping).setting (state_of c.get-from.result.now) c.args.beside q)
    (sym c.deref.ensures.value) c.in_ok-ends_here.ensures.ends) c.args.set.now c.insert_all.new.set c.insert_all.ensures.adds

pub returns-clause-adds : goal.returns-clause-adds
returns-clause-adds g c = λ s r.
    let is = row_state g.f c.args.self.now.half.store c.requires.1.0.held c.args.row s r (state_of c.get-from.result.now) c.get-from.ensures in
    ends_added c.args.automaton.now g.f (state_of c.get-from.result.now) s c.args.beside c.deref.result.now c.requires.0 is
    (subst (λ xs. (q : ℕ) → HasPlace q xs ↔ EndsHere (machine_of c.args.automaton.now Overlapping).setting (state_of c.get-from.result.now) c.args.beside q)
    (sym c.deref.ensures.value) c.in_ok-ends_here.ensures.ends) c.args.set.now c.insert_all.new.set c.insert_all.ensures.adds

pub returns-clause-each : goal.returns-clause-each
returns-clause-each g c = λ s r.
    let is = row_state g.f c.args.self.now.half.store c.requires.1.0.held c.args.row s r (state_of c.get-from.result.now) c.get-from.ensures in
    ends_each c.args.automaton.now g.f (state_of c.get-from.result.now) s c.args.beside c.deref.result.now c.requires.0 is
    (subst (λ xs. (q : ℕ) → HasPlace q xs ↔ EndsHere (machine_of c.args.automaton.now Overlapping).setting (state_of c.get-from.result.now) c.args.beside q)
    (sym c.deref.ensures.value) c.in_ok-ends_here.ensures.ends) c.insert_all.new.set (c.insert_all.ensures.each c.if-not-insert_all.false)
