use Rattle.rc_dfa.specs.declared.automaton.Direction.TheVariants.{Overlapping}
use Rattle.rc_lazy_dfa.specs.Stores.{frame_of}
use Rattle.rc_lazy_dfa.proofs.which.Ends.search.Given as goal

abbrev pub ghost-go : goal.ghost-go
ghost-go g a = record {
  frame = frame_of a.automaton.now Overlapping;
  seen = a.input.now;
  from = a.from;
  bound = a.end;
  anchored = a.anchored.now;
  old = a.set.now;
}
