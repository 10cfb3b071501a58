use Rattle.std.proofs.Common.{Some}
use Rattle.rc_determinize.specs.States.{State}
use Rattle.rc_dfa.specs.Automata.{machine_of}
use Rattle.rc_dfa.specs.Machine.{Leads}
use Rattle.rc_table_search.specs.Views.{IsStep}
use Rattle.rc_table_search.specs.Refusals.{is_memory}
use Rattle.rc_lazy_dfa.specs.Courses.{MayGiveUp, direction_of, frame_in, view_of}
use Rattle.rc_lazy_dfa.specs.Stores.{IsKnown, IsRefused, IsRow}
use Rattle.rc_lazy_dfa.proofs.SearchLemmas.{err_so, ok_so, refused_may, step_says}
use Rattle.rc_lazy_dfa.proofs.search.LazyTransitions.next.Goals as goal

pub returns-clause-cell : goal.returns-clause-cell
returns-clause-cell g c =
    let l = c.args.self.now in
    let backwards = g.W.Way.BACKWARDS in
    let f = frame_in l backwards in
    ok_so
    (λ cell. (s : State) → IsRow f.width c.args.cache.now.store.states c.args.row s →
    IsKnown f c.next.new.self.store.states (Some c.args.byte) (Leads (machine_of l.automaton (direction_of backwards)) s (Some c.args.byte)) cell)
    (IsStep (view_of l backwards) c.args.cache.now c.next.new.self c.args.row c.args.byte)
    (λ cell. step_says l backwards c.args.cache.now c.next.new.self c.next.ensures.half.held c.args.row c.args.byte cell c.requires.row) c.next.result c.next.ensures.leads

pub returns-clause-refused : goal.returns-clause-refused
returns-clause-refused g c =
    let f = frame_in c.args.self.now g.W.Way.BACKWARDS in
    err_so (IsRefused f c.args.cache.now.store c.next.new.self.store) (λ e. MayGiveUp f c.args.cache.now.store c.next.new.self.store 1 (is_memory e))
    (refused_may f c.args.cache.now.store c.next.new.self.store) c.next.result c.next.ensures.refused
