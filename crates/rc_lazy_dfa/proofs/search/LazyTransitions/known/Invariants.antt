use Rattle.rc_lazy_dfa.specs.Courses.{direction_of}
use Rattle.rc_lazy_dfa.specs.Stores.{frame_of}
use Rattle.rc_lazy_dfa.proofs.search.LazyTransitions.known.Given as goal

abbrev pub ghost-known : goal.ghost-known
ghost-known g a = frame_of a.automaton.now (direction_of g.W.Way.BACKWARDS)
