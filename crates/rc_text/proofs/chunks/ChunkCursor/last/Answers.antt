use Rattle.std.proofs.Common.{[], rules, arith}
use Rattle.rc_text.specs.Joined.{IsChunk}
use Rattle.rc_text.proofs.Joins.{chunk_shows}
use Rattle.rc_text.proofs.Moves.{no_bytes, last_filled_is}
use Rattle.rc_text.proofs.chunks.ChunkCursor.last.Goals as goal

pub invariant_of-result : goal.invariant_of-result
invariant_of-result c =
    let xs = c.args.chunks.now in
    let at : IsChunk xs 0 0 [] = no_bytes xs (omega arith) in
    record {
      within = search rules;
      counted = c.requires.counted;
      is_chunk = at;
      shows = chunk_shows xs 0 0 [] at (omega arith);
    }

pub invariant_of-result-2 : goal.invariant_of-result-2
invariant_of-result-2 c =
    let xs = c.args.chunks.now in
    let i = c.last_filled-index.result.0 in
    let filled = c.last_filled-index.ensures in
    let at = last_filled_is xs i c.args.total _ c.requires.counted filled in
    record {
      within = search rules;
      counted = c.requires.counted;
      is_chunk = at;
      shows = chunk_shows xs _ _ _ at (omega arith);
    }
