use Rattle.std.proofs.Common.{◌<◌, ◌+◌, length, ◌∙◌, arith}
use Rattle.rc_text.specs.Joined.{IsChunk}
use Rattle.rc_text.proofs.Joins.{chunk_shows}
use Rattle.rc_text.proofs.Moves.{some_after, next_is}
use Rattle.rc_pieces.specs.Pieces.{chunks_of}
use Rattle.rc_pieces.proofs.Chunks.{length-chunks_of, chunk_at-get}
use Rattle.rc_pieces.proofs.slices.SliceCursor.next.Goals as goal

pub next_filled-index-requires : goal.next_filled-index-requires
next_filled-index-requires g c =
    let s = c.args.self.now in
    some_after (chunks_of g.T.Piece.bytes s.pieces.now) s.index s.offset s.chunk.now s.is_chunk s.total s.counted c.if-end-self.false

pub invariant_of-self : goal.invariant_of-self
invariant_of-self g c =
    let s = c.args.self.now in
    let b = g.T.Piece.bytes in
    let xs = s.pieces.now in
    let cs = chunks_of b xs in
    let i = c.next_filled-index.result in
    let filled = c.next_filled-index.ensures in
    let within : i < length xs = rw (← length-chunks_of b xs) filled.within in
    let at : IsChunk cs i (s.offset + length s.chunk.now) c.bytes-chunk.result.now =
    rw (c.bytes-chunk.ensures ∙ chunk_at-get b xs i c.index-self-index.result within) (next_is cs s.index s.offset s.chunk.now s.is_chunk i filled) in
    record {
      within = omega arith;
      counted = s.counted;
      is_chunk = at;
      shows = chunk_shows cs _ _ _ at s.shows.small;
    }
