use Rattle.rc_lazy_dfa.specs.Courses.{direction_of}
use Rattle.rc_lazy_dfa.specs.Stores.{frame_of}
use Rattle.rc_lazy_dfa.proofs.search.LazyTransitions.next_over.Given as goal

abbrev pub ghost-next : goal.ghost-next
ghost-next g a = frame_of a.automaton.now (direction_of g.W.Way.BACKWARDS)
