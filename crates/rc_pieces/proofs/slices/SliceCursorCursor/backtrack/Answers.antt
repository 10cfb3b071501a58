use Rattle.std.proofs.Common.{◌<◌, ◌-◌, length, ◌∙◌, arith}
use Rattle.rc_text.specs.Joined.{IsChunk, IsLastFilled}
use Rattle.rc_text.proofs.Joins.{chunk_shows}
use Rattle.rc_text.proofs.Moves.{last_is}
use Rattle.rc_pieces.specs.Pieces.{chunks_of}
use Rattle.rc_pieces.proofs.Chunks.{chunk_at-get}
use Rattle.rc_pieces.proofs.slices.SliceCursorCursor.backtrack.Goals as goal

pub invariant_of-self : goal.invariant_of-self
invariant_of-self g c =
    let s = c.args.self.now in
    let b = g.T.Piece.bytes in
    let xs = s.pieces.now in
    let cs = chunks_of b xs in
    let i = c.last_filled-index.result in
    let last = c.bytes-chunk.result.now in
    let within : i < length xs = omega (arith, c.last_filled-index.ensures.within, s.within) in
    let filled : IsLastFilled cs s.index i last =
    rw (c.bytes-chunk.ensures ∙ chunk_at-get b xs i c.index-self-index.result within) c.last_filled-index.ensures in
    let at : IsChunk cs i (s.offset - length last) last = last_is cs s.index s.offset s.chunk.now s.is_chunk i last filled in
    record {
      within = omega arith;
      counted = s.counted;
      is_chunk = at;
      shows = chunk_shows cs _ _ _ at s.shows.small;
    }
