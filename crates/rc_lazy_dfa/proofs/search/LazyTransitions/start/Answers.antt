use Rattle.std.proofs.Common.{◌∙◌, true≢false, ap, sym, subst}
use Rattle.rc_dfa.specs.Machine.{Begins, IsAsked}
use Rattle.rc_dfa.specs.Automata.{machine_of}
use Rattle.rc_table_search.specs.Views.{IsStart}
use Rattle.rc_table_search.specs.Refusals.{is_memory}
use Rattle.rc_lazy_dfa.specs.Courses.{MayGiveUp, direction_of, frame_in, view_of}
use Rattle.rc_lazy_dfa.specs.Stores.{IsKnown, IsRefused, frame_of}
use Rattle.rc_lazy_dfa.proofs.SearchLemmas.{err_so, ok_so, refused_may, start_says}
use Rattle.rc_lazy_dfa.proofs.search.LazyTransitions.start.Goals as goal

pub returns-then-not-is_asked-clause-cell : goal.returns-then-not-is_asked-clause-cell
returns-then-not-is_asked-clause-cell g c = record {
  is_row = λ never. absurd (true≢false never);
  begins = λ m same asked.
      let yes_it_is = (c.is_asked.ensures (direction_of g.W.Way.BACKWARDS)).1 (subst (λ k. IsAsked k c.args.anchored) (sym same) asked) in
      absurd (true≢false (sym yes_it_is ∙ c.if-not-is_asked.true));
}

pub begin-requires : goal.begin-requires
begin-requires g c = (
  ap (λ d. frame_of c.args.self.now.automaton d) c.direction.ensures,
  (c.requires.cache, ((c.is_asked.ensures (direction_of g.W.Way.BACKWARDS)).0 c.if-not-is_asked.false, c.requires.byte)),
)

pub returns-clause-cell : goal.returns-clause-cell
returns-clause-cell g c =
    let l = c.args.self.now in
    let backwards = g.W.Way.BACKWARDS in
    ok_so
    (IsKnown (frame_in l backwards) c.begin.new.self.store.states c.args.beside (Begins (machine_of l.automaton (direction_of backwards)) c.args.anchored c.args.beside))
    (IsStart (view_of l backwards) c.begin.new.self c.args.anchored c.args.beside)
    (start_says l backwards c.args.cache.now c.begin.new.self c.begin.ensures.half.held c.args.anchored c.args.beside) c.begin.result c.begin.ensures.begins

pub returns-clause-refused : goal.returns-clause-refused
returns-clause-refused g c =
    let f = frame_in c.args.self.now g.W.Way.BACKWARDS in
    err_so (IsRefused f c.args.cache.now.store c.begin.new.self.store) (λ e. MayGiveUp f c.args.cache.now.store c.begin.new.self.store 1 (is_memory e))
    (refused_may f c.args.cache.now.store c.begin.new.self.store) c.begin.result c.begin.ensures.refused
