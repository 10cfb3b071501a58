use Rattle.std.proofs.Common.{◌≡◌, ◌<◌, ◌+◌, take}
use Rattle.rc_text.specs.Joined.{joined}
use Rattle.rc_pieces.specs.Pieces.{chunks_of}
use Rattle.rc_pieces.proofs.slices.last_filled.Given as goal

abbrev pub invariant-loop-index : goal.invariant-loop-index
invariant-loop-index g l = record {
  below : l.index < l.to;
  after : joined (take l.to (chunks_of g.T.Piece.bytes l.pieces)) ≡ joined (take (l.index + 1) (chunks_of g.T.Piece.bytes l.pieces));
}

abbrev pub decreases-loop-index : goal.decreases-loop-index
decreases-loop-index g l = l.index
