use Rattle.std.proofs.Common.{◌∙◌, ◌<◌, length, ap, arith}
use Rattle.std.proofs.lemmas.Result.{err_from_is_err_and}
use Rattle.rc_dfa.specs.Automata.{samples_of}
use Rattle.rc_dense_dfa.proofs.FillLemmas.{longer, refused_by, grows_on, row_more, cell_of}
use Rattle.rc_dense_dfa.proofs.maker.Maker.row.Goals as goal

pub cell-requires : goal.cell-requires
cell-requires g c =
    let i = c.loop-byte.invariant in
    let l = longer c.args.self.now.names.states c.loop-byte.self.names.states i.grows.kept in
    let n = c.requires.1.1.0 in
    (c.requires.0, (i.maker, omega (arith, l, n)))

pub returns-in_err-cell-clause-refused : goal.returns-in_err-cell-clause-refused
returns-in_err-cell-clause-refused g c =
    let p = err_from_is_err_and c.from_residual.result c.from_residual.ensures.1 in
    rw (p.1, p.2) (refused_by g.m c.args.self.now.names c.loop-byte.self.names _ c.loop-byte.invariant.grows c.in_err-cell.ensures.refused)

pub loop-byte-preserved : goal.loop-byte-preserved
loop-byte-preserved g c =
    let i = c.loop-byte.invariant in
    let old = c.loop-byte.self.names in
    let new = c.cell.new.self.names in
    let samples = samples_of c.args.automaton.now in
    let e = c.in_ok-cell.ensures in
    let l = longer c.args.self.now.names.states old.states i.grows.kept in
    let n = c.requires.1.1.0 in
    let inside : c.args.number < length old.states = omega (arith, l, n) in
    let size = ap length c.samples-byte-items.ensures in
    let below : c.loop-byte.byte-index < length samples = omega (arith, size) in
    record {
      maker = e.maker;
      grows = grows_on c.args.self.now.names old new i.grows e.grows;
      rows = rw c.in_ok-push.ensures.items (row_more g.m samples old.states new.states c.args.number c.loop-byte.byte-index c.in_ok-cell.cell c.loop-byte.cells.items
          e.grows.kept inside below i.rows
          (cell_of g.m samples c.samples-byte-items.result.now old.states new.states new.width c.args.number c.loop-byte.byte-index c.in_ok-cell.cell
          c.samples-byte-items.ensures inside e.grows.kept (e.grows.width ∙ i.grows.width ∙ c.requires.1.1.1.0) e.cell));
    }
