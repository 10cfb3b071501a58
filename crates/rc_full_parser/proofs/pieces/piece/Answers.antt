use Rattle.std.proofs.Common.{sym, subst}
use Rattle.rc_pattern.specs.Meaning.{meaning}
use Rattle.rc_tokens.specs.Said as sense
use Rattle.rc_parser.specs.Settings.{settings_of}
use Rattle.rc_parser.specs.Pieces.{sense_part}
use Rattle.rc_parser.specs.View.{part}
use Rattle.rc_full_parser.specs.declared.marks.Piece.TheVariants.{Character, Dot, Asserts}
use Rattle.rc_full_parser.specs.Pieces.{IsPiece}
use Rattle.rc_full_parser.specs.View.{Gives}
use Rattle.rc_full_parser.proofs.AtomLemmas.{gives_by, character_piece, dot_piece, no_dot, assertion_piece}
use Rattle.rc_full_parser.proofs.pieces.piece.Goals as goal

pub returns-in_ok-character-in-Character : goal.returns-in_ok-character-in-Character
returns-in_ok-character-in-Character c =
    let s = settings_of c.args.config in
    let f = c.args.flags in
    subst (λ k. IsPiece s f k (part c.leaf.result)) (sym c.in-Character.is)
    (subst (IsPiece s f (Character c.in-Character.c)) (sym c.leaf.ensures)
    (character_piece s f c.in-Character.c (meaning c.in_ok-character-in-Character.field-0) c.in_ok-character-in-Character.ensures.reads))

pub returns-in-Dot : goal.returns-in-Dot
returns-in-Dot c =
    let s = settings_of c.args.config in
    let f = c.args.flags in
    subst (λ k. Gives c.dot.result (IsPiece s f k) part) (sym c.in-Dot.is)
    (gives_by c.dot.result (sense_part s f sense.Dot) (IsPiece s f Dot) part (λ q h. dot_piece s f q h) (λ h q. no_dot s f h q) c.dot.ensures)

pub returns-in-Asserts : goal.returns-in-Asserts
returns-in-Asserts c =
    let s = settings_of c.args.config in
    let f = c.args.flags in
    subst (λ k. IsPiece s f k (part c.assertion.result)) (sym c.in-Asserts.is)
    (subst (IsPiece s f (Asserts c.in-Asserts.assertion)) (sym c.assertion.ensures) (assertion_piece s f c.in-Asserts.assertion))
