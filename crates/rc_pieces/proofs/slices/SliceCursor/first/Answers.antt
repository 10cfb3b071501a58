use Rattle.std.proofs.Common.{◌<◌, [], length, rules, arith}
use Rattle.rc_text.specs.Joined.{IsChunk}
use Rattle.rc_text.proofs.Joins.{chunk_shows}
use Rattle.rc_text.proofs.Moves.{no_bytes}
use Rattle.rc_pieces.specs.Pieces.{chunks_of}
use Rattle.rc_pieces.proofs.Chunks.{length-chunks_of, chunk_at-piece, first_filled}
use Rattle.rc_pieces.proofs.slices.SliceCursor.first.Goals as goal

pub invariant_of-result : goal.invariant_of-result
invariant_of-result g c =
    let cs = chunks_of g.T.Piece.bytes c.args.pieces.now in
    let at : IsChunk cs 0 0 [] = no_bytes cs (omega arith) in
    record {
      within = search rules;
      counted = c.requires.counted;
      is_chunk = at;
      shows = chunk_shows cs 0 0 [] at (omega arith);
    }

pub invariant_of-result-2 : goal.invariant_of-result-2
invariant_of-result-2 g c =
    let b = g.T.Piece.bytes in
    let xs = c.args.pieces.now in
    let cs = chunks_of b xs in
    let i = c.next_filled-index.result in
    let filled = c.next_filled-index.ensures in
    let within : i < length xs = rw (← length-chunks_of b xs) filled.within in
    let at : IsChunk cs i 0 c.bytes-chunk.result.now =
    rw (c.bytes-chunk.ensures, chunk_at-piece b xs i c.index-pieces-index.result c.index-pieces-index.is within) (first_filled cs i filled) in
    record {
      within = omega arith;
      counted = c.requires.counted;
      is_chunk = at;
      shows = chunk_shows cs i 0 c.bytes-chunk.result.now at (omega arith);
    }
