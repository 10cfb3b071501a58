use Rattle.rc_dfa.specs.Automata.{machine_of}
use Rattle.rc_dfa.specs.declared.automaton.Direction.TheVariants.{Overlapping}
use Rattle.rc_lazy_dfa.proofs.SetLemmas.{AreInserted}
use Rattle.rc_lazy_dfa.proofs.which.insert_all.Given as goal

abbrev pub invariant-loop-place : goal.invariant-loop-place
invariant-loop-place l = AreInserted (machine_of l.automaton Overlapping).setting.places l.places l.fn.set l.set l.place-index
