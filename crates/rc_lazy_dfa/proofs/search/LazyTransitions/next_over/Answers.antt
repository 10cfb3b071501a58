use Rattle.std.proofs.Common.{subst, ap}
use Rattle.rc_determinize.specs.States.{State}
use Rattle.rc_table_search.specs.Views.{IsStepOver}
use Rattle.rc_table_search.specs.Refusals.{is_memory}
use Rattle.rc_lazy_dfa.specs.Courses.{MayGiveUp, frame_in, view_of}
use Rattle.rc_lazy_dfa.specs.Stores.{IsKnownBy, IsRefused, IsRow, LeadsByLetter, frame_of}
use Rattle.rc_lazy_dfa.proofs.SearchLemmas.{err_so, ok_so, refused_may, step_over_says}
use Rattle.rc_lazy_dfa.proofs.search.LazyTransitions.next_over.Goals as goal

pub next-requires : goal.next-requires
next-requires g c = (
  ap (λ d. frame_of c.args.self.now.automaton d) c.direction.ensures,
  (c.requires.cache, (c.requires.row, c.letter_of-letter.ensures.read)),
)

pub returns-clause-cell : goal.returns-clause-cell
returns-clause-cell g c = λ reads.
    let l = c.args.self.now in
    let backwards = g.W.Way.BACKWARDS in
    let f = frame_in l backwards in
    ok_so
    (λ cell. (s : State) → IsRow f.width c.args.cache.now.store.states c.args.row s →
    IsKnownBy f c.next.new.self.store.states c.letter_of-letter.result (LeadsByLetter f s c.letter_of-letter.result) cell)
    (IsStepOver (view_of l backwards) backwards c.args.cache.now c.next.new.self c.args.row c.args.symbol)
    (λ cell k. step_over_says l backwards c.args.cache.now c.next.new.self c.next.ensures.half.held c.args.row c.args.symbol cell c.requires.row
    (λ s r. subst (λ y. IsKnownBy f c.next.new.self.store.states y (LeadsByLetter f s y) cell) (c.letter_of-letter.ensures.symbol reads) (k s r))) c.next.result c.next.ensures.leads

pub returns-clause-refused : goal.returns-clause-refused
returns-clause-refused g c =
    let f = frame_in c.args.self.now g.W.Way.BACKWARDS in
    err_so (IsRefused f c.args.cache.now.store c.next.new.self.store) (λ e. MayGiveUp f c.args.cache.now.store c.next.new.self.store 1 (is_memory e))
    (refused_may f c.args.cache.now.store c.next.new.self.store) c.next.result c.next.ensures.refused
