use Rattle.std.proofs.Common.{◌≡◌, ◌+◌, ◌-◌, ◌<◌, ◌≤◌, ◌∙◌, length, slice_range, sym, subst, ap, arith}
use Rattle.rc_text.specs.declared.types.Span.{Span}
use Rattle.rc_text.specs.Text.{slice_end}
use Rattle.rc_program.specs.Sought.{text_of}
use Rattle.rc_symbols.specs.Symbols.{IsSymbolAt}
use Rattle.rc_dfa.specs.Symbols.{symbol_of}
use Rattle.rc_table_search.proofs.ScalarLemmas.{symbol_in}
use Rattle.rc_table_search.proofs.symbols.ended_in_piece.Goals as goal

pub returns-clause-symbol : goal.returns-clause-symbol
returns-clause-symbol g c terminator =
    let s = c.args.input.now in
    let at = c.args.at in
    let piece = c.piece_before-piece.result.now in
    let p = at + 1 - length piece in
    let begin = ap (λ (x : Span). x.start) c.get_slice_span.ensures in
    let from = c.max-start.ensures in
    let less = c.saturating_sub.ensures in
    let short = c.piece_before-piece.ensures.short in
    let inside = c.requires.low in
    let below = c.requires.high in
    let some : 0 < length piece = c.piece_before-piece.ensures.some (omega (arith, from, less, begin, inside)) in
    let low : s.slice.start ≤ p = omega (arith, short, from, begin, inside) in
    let end : at + 1 ≡ p + length piece = omega (arith, short) in
    let high : p + length piece ≤ slice_end s = omega (arith, short, below) in
    let is : piece ≡ slice_range s.content p (p + length piece) = c.piece_before-piece.ensures.bytes ∙ ap (slice_range s.content p) end in
    subst (λ k. IsSymbolAt (text_of terminator s) at (symbol_of (record { byte = c.args.byte; tagged = k }))) (sym c.tag.ensures)
    (symbol_in terminator s p piece low high is c.in_ok-scalar.scalar c.in_ok-scalar.ensures.whole (length piece - 1) at c.args.byte c.in_ok-scalar.ensures.has
    (omega (arith, some)) c.requires.past (omega (arith, some, short)) c.requires.there)
