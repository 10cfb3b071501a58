use Rattle.std.proofs.Common.{◌∙◌, true≢false, ap, sym, subst}
use Rattle.rc_dfa.specs.Machine.{IsAsked}
use Rattle.rc_table_search.specs.Views.{IsStartBeside}
use Rattle.rc_table_search.specs.Refusals.{is_memory}
use Rattle.rc_lazy_dfa.specs.Courses.{MayGiveUp, direction_of, frame_in, view_of}
use Rattle.rc_lazy_dfa.specs.Stores.{BeginsByLetter, IsKnownBy, IsRefused, frame_of}
use Rattle.rc_lazy_dfa.proofs.SearchLemmas.{err_so, ok_so, refused_may, start_beside_says}
use Rattle.rc_lazy_dfa.proofs.search.LazyTransitions.start_beside.Goals as goal

pub returns-then-not-is_asked-clause-cell : goal.returns-then-not-is_asked-clause-cell
returns-then-not-is_asked-clause-cell g c = λ reads. record {
  is_row = λ never. absurd (true≢false never);
  begins = λ m same asked.
      let yes_it_is = (c.is_asked.ensures (direction_of g.W.Way.BACKWARDS)).1 (subst (λ k. IsAsked k c.args.anchored) (sym same) asked) in
      absurd (true≢false (sym yes_it_is ∙ c.if-not-is_asked.true));
}

pub begin-requires : goal.begin-requires
begin-requires g c = (
  ap (λ d. frame_of c.args.self.now.automaton d) c.direction.ensures,
  (
    c.requires.cache,
    ((c.is_asked.ensures (direction_of g.W.Way.BACKWARDS)).0 c.if-not-is_asked.false, c.letter_of-letter.ensures.read),
  ),
)

pub returns-clause-cell : goal.returns-clause-cell
returns-clause-cell g c = λ reads.
    let l = c.args.self.now in
    let backwards = g.W.Way.BACKWARDS in
    let f = frame_in l backwards in
    ok_so (IsKnownBy f c.begin.new.self.store.states c.letter_of-letter.result (BeginsByLetter f c.args.anchored c.letter_of-letter.result))
    (IsStartBeside (view_of l backwards) backwards c.begin.new.self c.args.anchored c.args.symbol)
    (λ cell k. start_beside_says l backwards c.args.cache.now c.begin.new.self c.begin.ensures.half.held c.args.anchored c.args.symbol cell
    (subst (λ y. IsKnownBy f c.begin.new.self.store.states y (BeginsByLetter f c.args.anchored y) cell) (c.letter_of-letter.ensures.symbol reads) k)) c.begin.result c.begin.ensures.begins

pub returns-clause-refused : goal.returns-clause-refused
returns-clause-refused g c =
    let f = frame_in c.args.self.now g.W.Way.BACKWARDS in
    err_so (IsRefused f c.args.cache.now.store c.begin.new.self.store) (λ e. MayGiveUp f c.args.cache.now.store c.begin.new.self.store 1 (is_memory e))
    (refused_may f c.args.cache.now.store c.begin.new.self.store) c.begin.result c.begin.ensures.refused
