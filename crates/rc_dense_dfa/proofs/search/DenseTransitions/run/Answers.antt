use Rattle.std.proofs.Common.{◌≡◌, ◌*◌, ◌/◌, ◌∙◌, None, true, length, ap, sym, subst}
use Rattle.rc_table_search.specs.Walks.{Reaches, Walk, first_of}
use Rattle.rc_table_search.proofs.RunLemmas.{reaches_on}
use Rattle.rc_dense_dfa.specs.Searches.{InRow, table_by}
use Rattle.rc_dense_dfa.specs.declared.table.Table.{Table}
use Rattle.rc_dense_dfa.proofs.MarkLemmas.{row_number}
use Rattle.rc_dense_dfa.proofs.SearchLemmas.{told_here}
use Rattle.rc_dense_dfa.proofs.TableLemmas.{are_rows}
use Rattle.rc_dense_dfa.proofs.search.DenseTransitions.run.Goals as goal

pub pass-from-requires : goal.pass-from-requires
pass-from-requires g c = subst (λ (t : Table). InRow t c.args.row) (sym c.table_in-table.ensures) c.requires.row

pub run-requires-clause-rows : goal.run-requires-clause-rows
run-requires-clause-rows g c = are_rows c.table_in-table.result.now c.as_slice-classes.result.now

pub run-requires-clause-row : goal.run-requires-clause-row
run-requires-clause-row g c = record {
  same = c.as_slice-classes.ensures.value;
  within = subst (λ (t : Table). InRow t c.args.row) (sym c.table_in-table.ensures) c.requires.row;
}

pub returns-clause-row : goal.returns-clause-row
returns-clause-row g c = subst (λ (t : Table). InRow t c.run.result.1.row) c.table_in-table.ensures c.run.ensures.row.within

pub returns-clause-run : goal.returns-clause-run
returns-clause-run g c =
    let d = c.args.self.now in
    let t = c.table_in-table.result.now in
    let same = c.table_in-table.ensures in
    let w : Walk = record {
      backwards = g.W.Way.BACKWARDS;
      leaps = true;
      cells = t.cells.items;
      classes = t.classes.items;
      piece = c.args.piece.now;
      start = c.args.start;
      from = first_of g.W.Way.BACKWARDS (length c.args.piece.now);
      first = c.args.row;
      before = None;
    } in
    let on = subst (λ xs. Reaches (record {
      backwards = g.W.Way.BACKWARDS;
      leaps = true;
      cells = t.cells.items;
      classes = xs;
      piece = c.args.piece.now;
      start = c.args.start;
      from = c.pass-from.result;
      first = c.args.row;
      before = None;
    }) c.run.result.0 c.run.result.1.row c.run.result.1.noted) c.as_slice-classes.ensures.value c.run.ensures.reaches in record {
      cells = t.cells.items;
      classes = t.classes.items;
      told = told_here d g.W.Way.BACKWARDS c.args._cache.now t.cells.items t.classes.items (ap (λ (t : Table). t.cells.items) same) (ap (λ (t : Table). t.classes.items) same);
      reaches = λ m s has.
          let e = has.is_row.2 in
          let at = subst (λ (t : Table). c.args.row / t.width * t.width ≡ c.args.row) (sym same)
          (ap (λ k. k * (table_by g.W.Way.BACKWARDS d).width) (row_number (table_by g.W.Way.BACKWARDS d) c.args.row has.is_row.0 e) ∙ sym e) in
          reaches_on w c.pass-from.result c.args.row None (c.pass-from.ensures.reaches c.args.start at) c.run.result.0 c.run.result.1.row c.run.result.1.noted on;
    }
