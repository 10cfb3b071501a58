use Rattle.std.proofs.Common.{◌≡◌, ◌<◌, ◌^◌, length, take}
use Rattle.rc_text.specs.Joined.{joined}
use Rattle.rc_pieces.specs.Pieces.{chunks_of}
use Rattle.rc_pieces.proofs.slices.total_of.Given as goal

abbrev pub invariant-loop-piece : goal.invariant-loop-piece
invariant-loop-piece g l = record {
  sum : l.total ≡ length (joined (take l.piece-index (chunks_of g.T.Piece.bytes l.pieces)));
  fits : l.total < 2 ^ 64;
}
