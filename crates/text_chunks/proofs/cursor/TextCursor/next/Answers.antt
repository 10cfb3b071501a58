use Rattle.std.proofs.Common.{◌+◌, arith, length}
use Rattle.rc_text.specs.Joined.{IsChunk}
use Rattle.rc_text.proofs.Joins.{chunk_shows}
use Rattle.rc_text.proofs.Moves.{next_is, some_after}
use Rattle.text_chunks.proofs.cursor.TextCursor.next.Goals as goal

pub overflow_add-self : goal.overflow_add-self
overflow_add-self c = omega (arith, c.args.self.now.within, c.len.ensures.few)

pub next_filled-index-requires : goal.next_filled-index-requires
next_filled-index-requires c =
    let s = c.args.self.now in
    some_after s.text.now s.index s.offset s.chunk.now s.is_chunk c.len.result c.len.ensures.value c.if-end-len.false

pub invariant_of-self : goal.invariant_of-self
invariant_of-self c =
    let s = c.args.self.now in
    let xs = s.text.now in
    let i = c.next_filled-index.result in
    let filled = c.next_filled-index.ensures in
    let at : IsChunk xs i (s.offset + length s.chunk.now) c.get.result.now =
    rw c.get.ensures.bytes (next_is xs s.index s.offset s.chunk.now s.is_chunk i filled) in
    record {
      within = omega (arith, filled.within);
      is_chunk = at;
      shows = chunk_shows xs _ _ _ at s.shows.small;
    }
