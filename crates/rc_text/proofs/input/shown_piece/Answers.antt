use Rattle.std.proofs.Common.{◌≡◌, ◌-◌, ◌≤◌, ℕ, inr, length, slice_range, ap, arith}
use Rattle.rc_text.specs.Piece.{Shows}
use Rattle.rc_text.proofs.Ranges.{length-slice_range}
use Rattle.rc_text.proofs.Pieces.{piece_from_is}
use Rattle.rc_text.proofs.input.shown_piece.Goals as goal

pub returns : goal.returns
returns g c =
    let content = c.args.input.now.content in
    let chunk = c.chunk-chunk.result.now in
    let offset = c.chunk_offset-offset.result in
    let from : ℕ = c.args.p - offset in
    let to = c.max-to.result in
    let shows : Shows content offset chunk = rw (c.chunk_offset-offset.ensures.value, c.chunk-chunk.ensures.value) c.chunk-chunk.ensures.shows in
    let at : offset ≡ c.args.input.now.offset = c.chunk_offset-offset.ensures.value in
    let size : length chunk ≡ length c.args.input.now.chunk = ap length c.chunk-chunk.ensures.value in
    let low = c.requires.low in
    let high = c.requires.high in
    let ordered : from ≤ to = omega arith in
    let within : to ≤ length chunk = omega arith in
    let long : length (slice_range chunk from to) ≡ to - from = length-slice_range chunk from to within in
    record {
      bytes = piece_from_is content chunk offset from to shows ordered within c.args.p (inr (omega arith));
      within = omega (arith, shows.within, long);
      some = λ a. omega (arith, long);
    }
