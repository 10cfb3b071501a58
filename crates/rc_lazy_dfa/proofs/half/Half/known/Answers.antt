use Rattle.std.proofs.Common.{arith}
use Rattle.rc_lazy_dfa.proofs.StepLemmas.{cell_inside, cell_says, column_by, letter_by}
use Rattle.rc_lazy_dfa.proofs.half.Half.known.Goals as goal

pub column-column-requires-clause-letter : goal.column-column-requires-clause-letter
column-column-requires-clause-letter g c = letter_by g.f c.args.automaton.now c.args.direction c.args.letter c.requires.0 c.requires.1.1.1

pub overflow_add-row : goal.overflow_add-row
overflow_add-row g c =
    let at = cell_inside g.f c.args.self.now.store c.args.row c.requires.1.0.held c.requires.1.1.0 c.column-column.result c.args.letter c.requires.1.1.1
    (column_by g.f c.args.automaton.now c.args.direction c.args.self.now.store.width c.column-column.result c.args.letter c.requires.0 c.requires.1.0.held.width
    c.column-column.ensures) in
    omega (arith, at.1)

pub index-requires : goal.index-requires
index-requires g c =
    let at = cell_inside g.f c.args.self.now.store c.args.row c.requires.1.0.held c.requires.1.1.0 c.column-column.result c.args.letter c.requires.1.1.1
    (column_by g.f c.args.automaton.now c.args.direction c.args.self.now.store.width c.column-column.result c.args.letter c.requires.0 c.requires.1.0.held.width
    c.column-column.ensures) in
    let size = c.args.self.now.store.cells.ok.0 in
    omega (arith, at.0, size)

pub returns : goal.returns
returns g c = λ ne s r.
    cell_says g.f c.args.self.now.store c.args.row c.column-column.result c.index.result.now c.index.result.now c.args.letter s c.requires.1.0.held c.requires.1.1.1
    (column_by g.f c.args.automaton.now c.args.direction c.args.self.now.store.width c.column-column.result c.args.letter c.requires.0 c.requires.1.0.held.width
    c.column-column.ensures) c.index.ensures ne r
