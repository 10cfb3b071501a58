use Rattle.std.proofs.Common.{false, true, slice_index_or, ◌+◌, ◌-◌, sym, subst, refl, arith}
use Rattle.rc_dfa.specs.Symbols.{symbol_of}
use Rattle.rc_dfa.specs.declared.symbols.Tagged.{Tagged}
use Rattle.rc_program.specs.Sought.{text_of}
use Rattle.rc_symbols.specs.Symbols.{IsSymbolAt}
use Rattle.rc_table_search.proofs.BesideLemmas.{symbol_begins}
use Rattle.rc_table_search.proofs.OverLemmas.{beside_here}
use Rattle.rc_table_search.proofs.ScalarLemmas.{symbol_found}
use Rattle.rc_table_search.proofs.inside.start_by_symbol.Goals as goal

pub returns-clause-cell : goal.returns-clause-cell
returns-clause-cell g c = λ seen bound start piece within.
    let v = g.T.Transitions.view c.args.table.now false in
    let place = c.args.place in
    let low = c.requires.place.0 in
    let byte = slice_index_or c.args.piece.now (place - 1) 0 in
    let high = piece.high in
    let there = beside_here true seen start place byte c.args.piece.now piece.is c.requires.place.1 low refl in
    let B : Tagged → Type 0 = λ t. (terminator : _) → IsSymbolAt (text_of terminator seen) (start + place - 1) (symbol_of (record { byte = byte; tagged = t })) in
    symbol_begins _ v (g.met.T.Transitions.lawful c.args.table.now false) false seen c.start_beside.new.cache c.args.anchored (start + place) c.in-Ok.cell
    (record { byte = byte; tagged = c.tag-tagged.result }) c.requires.reads (λ _. omega (arith, low))
    (subst B (sym c.tag-tagged.ensures)
    (λ terminator. symbol_found true terminator seen start place (place - 1) byte c.args.piece.now c.in_ok-scalar.scalar piece.low (omega (arith, high, within)) piece.is
    c.requires.place.1 low refl c.requires.past c.in_ok-scalar.ensures.whole c.in_ok-scalar.ensures.has there))
    (c.in-Ok.ensures.cell c.requires.reads)
