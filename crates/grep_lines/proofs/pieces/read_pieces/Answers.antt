use Rattle.std.proofs.Common.{◌≡◌, ◌+◌, ◌∙◌, IfSome, arith, inl, inr}
use Rattle.grep_lines.specs.Pieces.{TellsPiece, TellsRest}
use Rattle.grep_lines.specs.declared.pieces.Behind.{Behind}
use Rattle.grep_lines.specs.declared.pieces.Behind.TheVariants.{End, More, Terminator}
use Rattle.grep_lines.proofs.PieceLemmas.{tells_ended, tells_last, tells_more}
use Rattle.grep_lines.proofs.pieces.read_pieces.Goals as goal

-- the last piece was told
pub returns-in-Terminator-clause-told : goal.returns-in-Terminator-clause-told
returns-in-Terminator-clause-told g c =
    let stop = c.args.terminator in
    let old = g.R.Read.remaining c.args.reader.now in
    let mid = g.R.Read.remaining c.loop.reader in
    let left = g.R.Read.remaining c.next_piece.new.reader in
    let before = g.P.LinePieces.was_told c.args.pieces.now in
    let after = g.P.LinePieces.was_told c.next_piece.new.pieces in
    let sum : c.loop.len + c.in_ok-piece.piece.len ≡ c.in-Some.sum = omega (arith, c.in-Some.ensures) in
    let told : (behind : Behind) → c.in_ok-piece.piece.behind ≡ behind → IfSome old (λ text. TellsPiece stop before after text left (record { len = c.in-Some.sum; behind = behind })) =
    tells_more stop before (g.P.LinePieces.was_told c.loop.pieces) after mid left c.loop.len c.in_ok-piece.piece old c.loop.invariant.told c.in_ok-piece.ensures.told c.in-Some.sum sum in
    elim c.in-Terminator.is as (λ _. IfSome old (λ text. TellsRest stop before after text left c.in-Some.sum)) [
      | inl is ↦ tells_ended stop before after left c.in-Some.sum old (told Terminator is)
      | inr is ↦ tells_last stop before after left c.in-Some.sum old (told End is)
    ]

-- a piece more was
pub loop-preserved : goal.loop-preserved
loop-preserved g c = record {
  told =
      tells_more c.args.terminator (g.P.LinePieces.was_told c.args.pieces.now) (g.P.LinePieces.was_told c.loop.pieces) (g.P.LinePieces.was_told c.next_piece.new.pieces)
      (g.R.Read.remaining c.loop.reader) (g.R.Read.remaining c.next_piece.new.reader) c.loop.len c.in_ok-piece.piece (g.R.Read.remaining c.args.reader.now)
      c.loop.invariant.told c.in_ok-piece.ensures.told c.in-Some.sum (omega (arith, c.in-Some.ensures)) More c.in-More.is;
  same = c.next_piece.ensures.same ∙ c.loop.invariant.same;
}
