use Rattle.std.proofs.Common.{◌∙◌, ◌-◌, ◌≤◌, length, ap, arith}
use Rattle.rc_text.specs.declared.types.Span.{Span}
use Rattle.rc_table_search.specs.Decodes.{last_of_scalar}
use Rattle.rc_table_search.proofs.SymbolLemmas.{before_kept, before_piece}
use Rattle.rc_table_search.proofs.symbols.ended_at.Goals as goal

pub returns-then-piece-ge4-clause-tagged : goal.returns-then-piece-ge4-clause-tagged
returns-then-piece-ge4-clause-tagged g c =
    let s = c.args.input.now in
    let piece = c.piece_before-piece.result.now in
    let four : 4 ≤ length piece = omega (arith, c.if-piece-ge4.true) in
    let start = ap (λ (x : Span). x.start) c.get_slice_span.ensures in
    let within : length piece ≤ c.args.at - s.slice.start = omega (arith, c.piece_before-piece.ensures.short, c.max-start.ensures, start, four) in
    c.ended.ensures ∙ ap last_of_scalar (before_piece s c.args.at c.requires.low c.requires.high piece c.piece_before-piece.ensures.bytes within four)

pub returns-clause-tagged : goal.returns-clause-tagged
returns-clause-tagged g c =
    rw (c.around.ensures.bytes, c.around.ensures.place) at c.ended-2.ensures
    ∙ ap last_of_scalar
    (before_kept c.args.input.now c.args.at c.requires.low c.requires.high c.piece_before-piece.follows.lender-at-none c.piece_before-piece.follows.holds-at-none)
