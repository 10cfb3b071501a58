use Rattle.std.proofs.Common.{◌≡◌, IfSome}
use Rattle.grep_lines.specs.Pieces.{TellsPiece}
use Rattle.grep_lines.specs.declared.pieces.Behind.TheVariants.{More}
use Rattle.grep_lines.proofs.pieces.read_pieces.Given as goal

-- the pieces so far were told
abbrev pub invariant-loop : goal.invariant-loop
invariant-loop g l = record {
  told :
      IfSome (g.R.Read.remaining l.initial.reader)
      (λ text. TellsPiece l.fn.terminator (g.P.LinePieces.was_told l.initial.pieces) (g.P.LinePieces.was_told l.pieces) text (g.R.Read.remaining l.reader)
      (record { len = l.len; behind = More }));
  same : g.P.LinePieces.tests l.pieces ≡ g.P.LinePieces.tests l.initial.pieces;
}
