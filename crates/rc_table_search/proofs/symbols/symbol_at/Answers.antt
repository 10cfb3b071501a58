use Rattle.std.proofs.Common.{◌+◌, ◌∙◌, sym, subst, ap, refl, arith}
use Rattle.rc_text.specs.Text.{bytes_after, bytes_before}
use Rattle.rc_program.specs.Scalars.{scalar_at, scalar_before}
use Rattle.rc_program.specs.Sought.{text_of}
use Rattle.rc_symbols.specs.Symbols.{IsSymbolAt}
use Rattle.rc_dfa.specs.Symbols.{symbol_of}
use Rattle.rc_table_search.proofs.SymbolLemmas.{begun_here, behind_kept, ended_here}
use Rattle.rc_table_search.specs.Decodes.{last_of_scalar}
use Rattle.rc_table_search.proofs.symbols.symbol_at.Goals as goal

pub returns-then-byte-lt192-clause-symbol : goal.returns-then-byte-lt192-clause-symbol
returns-then-byte-lt192-clause-symbol g c terminator =
    let s = c.args.input.now in
    let same = behind_kept s c.ended_in_piece.new.input c.ended_in_piece.ensures.keeps (c.args.at + 1) in
    let tagged = c.ended_at-tagged.ensures.tagged ∙ ap (λ bs. last_of_scalar (scalar_before bs)) same in
    subst (λ k. IsSymbolAt (text_of terminator s) c.args.at (symbol_of (record { byte = c.args.byte; tagged = k }))) (sym tagged)
    (ended_here (text_of terminator s) c.args.at c.args.byte c.requires.low c.requires.high (omega arith) c.requires.there
    (scalar_before (bytes_before s (c.args.at + 1))) c.requires.past c.if-byte-lt192.true refl)

pub returns-clause-symbol : goal.returns-clause-symbol
returns-clause-symbol g c terminator =
    let s = c.args.input.now in
    subst (λ k. IsSymbolAt (text_of terminator s) c.args.at (symbol_of (record { byte = c.args.byte; tagged = k }))) (sym c.begun_at-tagged.ensures.tagged)
    (begun_here (text_of terminator s) c.args.at c.args.byte c.requires.low c.requires.high (omega arith) c.requires.there
    (scalar_at (bytes_after s c.args.at)) c.if-byte-lt192.false refl)
