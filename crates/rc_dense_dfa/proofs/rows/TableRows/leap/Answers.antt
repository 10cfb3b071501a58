use Rattle.std.proofs.Common.{◌≡◌, ◌+◌, ◌<◌, ℕ, Option, true, false, length, refl, sym, subst, arith}
use Rattle.rc_table_search.specs.Walks.{Walk, Reaches, begun}
use Rattle.rc_dense_dfa.specs.Cells.{row_of}
use Rattle.rc_dense_dfa.specs.Searches.{InRow}
use Rattle.rc_dense_dfa.proofs.LeapLemmas.{leapt_over}
use Rattle.rc_dense_dfa.proofs.rows.TableRows.leap.Goals as goal
use Rattle.rc_dense_dfa.proofs.rows.TableRows.leap.Goals.{After-row_of}

abbrev walk : After-row_of → Option (ℕ × ℕ) → Walk
walk c noted = record {
  backwards = false;
  leaps = true;
  cells = c.args.self.now.cells.items;
  classes = c.args._classes.now;
  piece = c.args.piece.now;
  start = c.args.start;
  from = c.args.from;
  first = c.args.row;
  before = noted;
}

went : (c : After-row_of) (noted : Option (ℕ × ℕ)) → InRow c.args.self.now (row_of c.cell_of-cell.result)
    × Reaches (walk c noted) (c.args.from + c.first_outside-passed.result) (row_of c.cell_of-cell.result) noted
went c noted =
    let d = c.args.self.now in
    let leap = c.in-Some.leap.now in
    let n = c.first_outside-passed.result in
    let y = leapt_over d (walk c noted) c.in_ok-end.end leap.row leap.other leap.stays.flags refl refl refl c.requires.row.same c.requires.row.within
    (λ k. let fits = c.type_inv.piece k in omega (arith, fits)) c.in_ok-end.ensures.0 c.in_ok-end.ensures.1 c.in-Some.ensures.here c.in-Some.ensures.stays n
    (omega (arith, c.if-passed-eq0.false)) c.first_outside-passed.ensures.within c.first_outside-passed.ensures.passed in
    let is = sym c.cell_of-cell.ensures.value in (
      subst (λ cell. InRow d (row_of cell)) is y.0,
      subst (λ cell. Reaches (walk c noted) (c.args.from + n) (row_of cell) noted) is y.1,
    )

pub returns-clause-row : goal.returns-clause-row
returns-clause-row c =
    let d = (goal.at.returns-clause-row c).After-row_of in
    record { same = c.requires.row.same; within = subst (λ r. InRow c.args.self.now r) (sym c.row_of.ensures) (went d Rattle.std.proofs.Common.None).0 }

pub returns-clause-reaches : goal.returns-clause-reaches
returns-clause-reaches c = λ noted.
    let d = (goal.at.returns-clause-reaches c).After-row_of in
    subst (λ r. Reaches (walk d noted) (c.args.from + c.first_outside-passed.result) r noted) (sym c.row_of.ensures) (went d noted).1

pub returns-in_default-clause-reaches : goal.returns-in_default-clause-reaches
returns-in_default-clause-reaches c = λ noted. begun

pub returns-then-passed-eq0-clause-reaches : goal.returns-then-passed-eq0-clause-reaches
returns-then-passed-eq0-clause-reaches c = λ noted. begun
