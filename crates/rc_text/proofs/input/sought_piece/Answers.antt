use Rattle.std.proofs.Common.{◌≡◌, ◌+◌, ◌-◌, ◌<◌, ◌≤◌, ◌⊎◌, inl, inr, length, slice_range, ap, refl, arith}
use Rattle.std.proofs.lemmas.Bool.{cases_lt}
use Rattle.rc_text.specs.Piece.{Shows}
use Rattle.rc_text.proofs.Ranges.{length-slice_range}
use Rattle.rc_text.proofs.Pieces.{piece_from_is}
use Rattle.rc_text.proofs.input.sought_piece.Goals as goal

pub returns : goal.returns
returns g c =
    let content = c.args.input.now.content in
    let chunk = c.chunk-chunk.result.now in
    let offset = c.chunk_offset-offset.result in
    let from = c.min-from.result in
    let to = c.max-to.result in
    let p = c.args.p in
    let moved = c.move_to.ensures in
    let shows : Shows content offset chunk = rw (c.chunk_offset-offset.ensures.value, c.chunk-chunk.ensures.value, ← moved.keeps.content) moved.shows in
    let at : offset ≡ c.move_to.new.input.offset = c.chunk_offset-offset.ensures.value in
    let size : length chunk ≡ length c.move_to.new.input.chunk = ap length c.chunk-chunk.ensures.value in
    let ordered : from ≤ to = omega arith in
    let within : to ≤ length chunk = omega arith in
    let long : length (slice_range chunk from to) ≡ to - from = length-slice_range chunk from to within in
    let low : p < length content → offset ≤ p = λ h. omega (arith, (moved.there h).low) in
    let high : p < length content → p < offset + length chunk = λ h. omega (arith, (moved.there h).high) in
    let starts : (from ≡ to) ⊎ (p ≡ offset + from) =
    elim (cases_lt p (length content)) [ inl h ↦ inr (omega (arith, low h, high h)) | inr h ↦ inl (omega (arith, shows.within)) ] in (
      (refl, λ _. tt, moved.keeps),
      record {
        after = tt;
        bytes = piece_from_is content chunk offset from to shows ordered within p starts;
        within = elim (cases_lt p (length content)) [ inl h ↦ omega (arith, low h, high h, shows.within, long) | inr h ↦ omega (arith, long, shows.within) ];
        some = λ a b. omega (arith, low b, high b, long);
      },
    )
