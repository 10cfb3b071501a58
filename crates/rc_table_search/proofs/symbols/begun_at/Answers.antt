use Rattle.std.proofs.Common.{◌∙◌, ◌+◌, ◌≤◌, length, ap, arith}
use Rattle.rc_text.specs.declared.types.Span.{Span}
use Rattle.rc_text.specs.Text.{slice_end}
use Rattle.rc_table_search.specs.Decodes.{first_of_scalar}
use Rattle.rc_table_search.proofs.SymbolLemmas.{after_kept, after_piece}
use Rattle.rc_table_search.proofs.symbols.begun_at.Goals as goal

pub returns-then-piece-ge4-clause-tagged : goal.returns-then-piece-ge4-clause-tagged
returns-then-piece-ge4-clause-tagged g c =
    let s = c.args.input.now in
    let piece = c.piece_from-piece.result.now in
    let four : 4 ≤ length piece = omega (arith, c.if-piece-ge4.true) in
    let end = ap (λ (x : Span). x.end) c.get_slice_span.ensures in
    let within : c.args.at + length piece ≤ slice_end s = omega (arith, c.piece_from-piece.ensures.within, c.min-end.ensures, end, four) in
    c.begun.ensures ∙ ap first_of_scalar (after_piece s c.args.at c.requires.low c.requires.high piece c.piece_from-piece.ensures.bytes within four)

pub returns-clause-tagged : goal.returns-clause-tagged
returns-clause-tagged g c =
    rw (c.around.ensures.bytes, c.around.ensures.place) at c.begun-2.ensures
    ∙ ap first_of_scalar
    (after_kept c.args.input.now c.args.at c.requires.low c.requires.high c.piece_from-piece.follows.lender-at-none c.piece_from-piece.follows.holds-at-none)
