use Rattle.std.proofs.Common.{None, false, refl, sym, subst}
use Rattle.rc_table_search.specs.Walks.{Reaches}
use Rattle.rc_lazy_dfa.specs.Courses.{frame_in}
use Rattle.rc_lazy_dfa.specs.Halves.{IsPlace}
use Rattle.rc_lazy_dfa.specs.declared.store.Store.{Store}
use Rattle.rc_lazy_dfa.proofs.SearchLemmas.{place_here, row_here, same_store, told}
use Rattle.rc_lazy_dfa.proofs.TableLemmas.{are_rows}
use Rattle.rc_lazy_dfa.proofs.search.LazyTransitions.run.Goals as goal

pub run-place-requires-clause-rows : goal.run-place-requires-clause-rows
run-place-requires-clause-rows g c = are_rows c.args.cache.now.store c.classes-classes.result.now

pub run-place-requires-clause-row : goal.run-place-requires-clause-row
run-place-requires-clause-row g c =
    row_here (frame_in c.args.self.now g.W.Way.BACKWARDS) c.args.cache.now.store c.classes-classes.result.now c.args.row c.requires.cache.held
    c.classes-classes.ensures.value c.requires.row

pub returns-clause-same : goal.returns-clause-same
returns-clause-same g c = same_store c.args.self.now g.W.Way.BACKWARDS c.args.cache.now c.serve.new.self c.serve.ensures.store c.serve.ensures.scratch

pub returns-clause-row : goal.returns-clause-row
returns-clause-row g c =
    let f = frame_in c.args.self.now g.W.Way.BACKWARDS in
    subst (λ (s : Store). IsPlace f s c.run-place.result.1.row) (sym c.serve.ensures.store)
    (place_here f c.args.cache.now.store c.classes-classes.result.now c.run-place.result.1.row c.requires.cache.held c.run-place.ensures.row)

pub returns-clause-run : goal.returns-clause-run
returns-clause-run g c =
    let store = c.args.cache.now.store in record {
      cells = store.cells.items;
      classes = c.classes-classes.result.now;
      told = told c.args.self.now g.W.Way.BACKWARDS c.args.cache.now c.requires.cache.held store.cells.items c.classes-classes.result.now refl c.classes-classes.ensures.value;
      reaches = λ m s has. subst (λ k. Reaches (record {
        backwards = g.W.Way.BACKWARDS;
        leaps = false;
        cells = store.cells.items;
        classes = c.classes-classes.result.now;
        piece = c.args.piece.now;
        start = c.args.start;
        from = k;
        first = c.args.row;
        before = None;
      }) c.run-place.result.0 c.run-place.result.1.row c.run-place.result.1.noted) c.first-from.ensures c.run-place.ensures.reaches;
    }
