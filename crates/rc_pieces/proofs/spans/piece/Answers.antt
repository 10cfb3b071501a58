use Rattle.std.proofs.Common.{◌≡◌, ◌+◌, ◌≤◌, ◌⊎◌, inl, inr, length, arith}
use Rattle.std.proofs.lemmas.Bool.{cases_lt}
use Rattle.rc_text.specs.Piece.{Shows}
use Rattle.rc_text.proofs.Pieces.{piece_from_is}
use Rattle.rc_pieces.proofs.spans.piece.Goals as goal

pub returns-clause-bytes : goal.returns-clause-bytes
returns-clause-bytes g c =
    let content = g.C.Cursor.content c.args.cursor.now in
    let chunk = c.chunk-chunk.result.now in
    let offset = c.offset-offset.result in
    let from = c.min-from.result in
    let to = c.max-to.result in
    let shows : Shows content offset chunk = rw (c.offset-offset.ensures.value, c.chunk-chunk.ensures.value) c.chunk-chunk.ensures.shows in
    let ordered : from ≤ to = omega arith in
    let within : to ≤ length chunk = omega arith in
    let starts : (from ≡ to) ⊎ (c.args.at ≡ offset + from) =
    elim (cases_lt c.args.at (offset + length chunk)) [ inl h ↦ inr (omega arith) | inr h ↦ inl (omega arith) ] in
    piece_from_is content chunk offset from to shows ordered within c.args.at starts
