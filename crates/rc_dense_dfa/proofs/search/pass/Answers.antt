use Rattle.std.proofs.Common.{◌≡◌, ◌*◌, ◌/◌, ◌∙◌, None, false, true, length, refl, sym, subst, arith}
use Rattle.rc_table_search.specs.Walks.{Reaches, Walk, begun, first_of}
use Rattle.rc_dense_dfa.specs.Cells.{met}
use Rattle.rc_dense_dfa.specs.Exits.{AreExitsOf}
use Rattle.rc_dense_dfa.proofs.ExitLemmas.{passed}
use Rattle.rc_dense_dfa.proofs.search.pass.Goals as goal

pub returns-clause-reaches : goal.returns-clause-reaches
returns-clause-reaches g c = λ start at.
    let d = c.args.table.now in
    let row = c.args.row in
    let forwards : g.W.Way.BACKWARDS ≡ false = sym c.BACKWARDS.ensures ∙ c.if-BACKWARDS.false in
    let w : Walk = record {
      backwards = false;
      leaps = true;
      cells = d.cells.items;
      classes = d.classes.items;
      piece = c.args.piece.now;
      start = start;
      from = 0;
      first = row;
      before = None;
    } in
    let are = subst (λ k. AreExitsOf met d.classes.items d.cells.items k c.exits_at.result) at
    (subst (AreExitsOf met d.classes.items d.cells.items (row / d.width * d.width)) (sym c.exits_at.ensures) (d.passed (row / d.width))) in
    subst (λ k. Reaches (record {
      backwards = k;
      leaps = true;
      cells = d.cells.items;
      classes = d.classes.items;
      piece = c.args.piece.now;
      start = start;
      from = first_of k (length c.args.piece.now);
      first = row;
      before = None;
    }) c.first_exit.result row None) (sym forwards)
    (passed d w refl refl refl refl c.requires refl (λ n. let fits = c.type_inv.piece n in omega (arith, fits)) c.exits_at.result c.first_exit.result are
    c.first_exit.ensures.within c.first_exit.ensures.passed)

pub returns-then-BACKWARDS-clause-reaches : goal.returns-then-BACKWARDS-clause-reaches
returns-then-BACKWARDS-clause-reaches g c = λ start at.
    subst (λ k. Reaches (record {
      backwards = g.W.Way.BACKWARDS;
      leaps = true;
      cells = c.args.table.now.cells.items;
      classes = c.args.table.now.classes.items;
      piece = c.args.piece.now;
      start = start;
      from = first_of g.W.Way.BACKWARDS (length c.args.piece.now);
      first = c.args.row;
      before = None;
    }) k c.args.row None) (sym c.first-place.ensures) begun
