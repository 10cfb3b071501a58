use Rattle.std.proofs.Common.{[], arith}
use Rattle.rc_text.specs.Joined.{IsChunk}
use Rattle.rc_text.proofs.Joins.{chunk_shows}
use Rattle.rc_text.proofs.Moves.{no_bytes}
use Rattle.text_chunks.proofs.Shown.{place_chunk}
use Rattle.text_chunks.proofs.cursor.TextCursor.last.Goals as goal

pub invariant_of-result : goal.invariant_of-result
invariant_of-result c =
    let xs = c.args.text.now in
    let at : IsChunk xs 0 0 [] = no_bytes xs (omega (arith, c.len-total.ensures.value, c.if-total-eq0.true)) in
    record {
      within = omega arith;
      is_chunk = at;
      shows = chunk_shows xs 0 0 [] at (omega (arith, c.len-total.ensures.value, c.len-total.ensures.small));
    }

pub invariant_of-result-2 : goal.invariant_of-result-2
invariant_of-result-2 c =
    let xs = c.args.text.now in
    let place = c.place_of-index in
    let at : IsChunk xs place.result.0 place.result.1 c.get.result.now =
    rw c.get.ensures.bytes (place_chunk xs _ place.result.0 place.result.1 place.ensures.at place.ensures.begin) in
    record {
      within = omega (arith, place.ensures.at.within);
      is_chunk = at;
      shows = chunk_shows xs _ _ _ at (omega (arith, c.len-total.ensures.value, c.len-total.ensures.small));
    }
