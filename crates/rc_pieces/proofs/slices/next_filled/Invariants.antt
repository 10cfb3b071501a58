use Rattle.std.proofs.Common.{◌≡◌, ◌-◌, length, take, drop}
use Rattle.rc_text.specs.Joined.{joined}
use Rattle.rc_pieces.specs.Pieces.{chunks_of}
use Rattle.rc_pieces.proofs.slices.next_filled.Given as goal

abbrev pub invariant-loop-index : goal.invariant-loop-index
invariant-loop-index g l = record {
  before : joined (take l.index (chunks_of g.T.Piece.bytes l.pieces)) ≡ joined (take l.from (chunks_of g.T.Piece.bytes l.pieces));
  after : joined (drop l.index (chunks_of g.T.Piece.bytes l.pieces)) ≡ joined (drop l.from (chunks_of g.T.Piece.bytes l.pieces));
}

abbrev pub decreases-loop-index : goal.decreases-loop-index
decreases-loop-index g l = length l.pieces - l.index
