-- An input over a whole content.
use Rattle.std.proofs.Common.{◌≡◌, length, refl, arith}
use Rattle.rc_text.specs.Text.{Searched}
use Rattle.rc_text.specs.declared.types.Anchored.TheVariants.{No}
use Rattle.live_matches.specs.Live.{IsWhole}

pub whole_input : (s : Searched) → s.span.start ≡ 0 → s.span.end ≡ length s.content → s.slice.start ≡ 0 → s.slice.end ≡ 18446744073709551615 →
    s.anchored ≡ No → IsWhole s
whole_input s start end first last free = record {
  start = start;
  over = record { same = λ q. rw (start, end, first, last, free) refl; room = omega (arith, end) };
}
