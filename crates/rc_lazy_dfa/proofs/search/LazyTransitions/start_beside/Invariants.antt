use Rattle.rc_lazy_dfa.specs.Courses.{direction_of}
use Rattle.rc_lazy_dfa.specs.Stores.{frame_of}
use Rattle.rc_lazy_dfa.proofs.search.LazyTransitions.start_beside.Given as goal

abbrev pub ghost-begin : goal.ghost-begin
ghost-begin g a = frame_of a.automaton.now (direction_of g.W.Way.BACKWARDS)
