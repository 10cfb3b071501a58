use Rattle.std.proofs.Common.{◌-◌, arith, length}
use Rattle.rc_text.specs.Joined.{IsChunk, IsLastFilled}
use Rattle.rc_text.proofs.Joins.{chunk_shows}
use Rattle.rc_text.proofs.Moves.{last_is}
use Rattle.text_chunks.proofs.cursor.TextCursorCursor.backtrack.Goals as goal

pub invariant_of-self : goal.invariant_of-self
invariant_of-self c =
    let s = c.args.self.now in
    let xs = s.text.now in
    let i = c.last_filled-index.result in
    let last = c.get-chunk.result.now in
    let filled : IsLastFilled xs s.index i last = rw c.get-chunk.ensures.bytes c.last_filled-index.ensures in
    let at : IsChunk xs i (s.offset - length last) last = last_is xs s.index s.offset s.chunk.now s.is_chunk i last filled in
    record {
      within = omega (arith, filled.within, s.within);
      is_chunk = at;
      shows = chunk_shows xs _ _ _ at s.shows.small;
    }
