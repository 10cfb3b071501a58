use Rattle.std.proofs.Common.{sym, subst, ◌∙◌}
use Rattle.rc_pattern.specs.Meaning.{meaning}
use Rattle.rc_parser.specs.Settings.{settings_of}
use Rattle.rc_full_parser.specs.declared.marks.Piece.TheVariants.{Byte}
use Rattle.rc_full_parser.specs.Pieces.{IsPiece}
use Rattle.rc_full_parser.proofs.AtomLemmas.{high_piece, low_piece}
use Rattle.rc_full_parser.proofs.pieces.byte.Goals as goal

pub returns-then-is_high : goal.returns-then-is_high
returns-then-is_high c =
    let s = settings_of c.args.config in
    let f = c.args.flags in
    subst (IsPiece s f (Byte c.args.byte)) (sym c.leaf.ensures)
    (high_piece s f c.args.byte (meaning c.in_ok-literal.field-0) (sym c.is_high.ensures ∙ c.if-is_high.true) (sym c.get_utf8.ensures ∙ c.if-get_utf8.false)
    c.in_ok-literal.ensures.meaning)

pub returns : goal.returns
returns c =
    let s = settings_of c.args.config in
    let f = c.args.flags in
    subst (IsPiece s f (Byte c.args.byte)) (sym c.leaf-2.ensures)
    (low_piece s f c.args.byte (meaning c.in_ok-character.field-0) (sym c.is_high.ensures ∙ c.if-is_high.false) c.in_ok-character.ensures.reads)
