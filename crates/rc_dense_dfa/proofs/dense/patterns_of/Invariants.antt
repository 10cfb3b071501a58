use Rattle.std.proofs.Common.{◌≡◌, length}
use Rattle.rc_dfa.specs.declared.automaton.Direction.TheVariants.{Forwards}
use Rattle.rc_dfa.specs.Automata.{machine_of}
use Rattle.rc_dense_dfa.proofs.PatternLemmas.{AreOfFirst}
use Rattle.rc_dense_dfa.proofs.dense.patterns_of.Given as goal

abbrev pub invariant-loop-place : goal.invariant-loop-place
invariant-loop-place l = record {
  len : length l.patterns.items ≡ l.place;
  first : AreOfFirst (machine_of l.automaton Forwards).setting.places l.patterns.items;
}
