-- What an input shows of the sides of a position.
use Rattle.std.proofs.Common.{◌≡◌, ℕ, ◌-◌, ◌≤◌, List, length, take, drop, ap, ap₂, ◌∙◌, refl, arith, length-drop}
use Rattle.std.proofs.lemmas.List.{take_all}
use Rattle.rc_pattern.specs.declared.hir.Look.{Look}
use Rattle.rc_text.specs.Text.{Searched, Keeps, slice_end, around_bytes_at, around_place_at, bytes_before, bytes_after}
use Rattle.rc_text.proofs.Arounds.{around-before, around-after}
use Rattle.rc_program.specs.Text.{holds}
use Rattle.rc_program.specs.Looks.{side_before, side_after, holds_between}
use Rattle.rc_program.specs.Sought.{text_of}
use Rattle.rc_program.proofs.SideLemmas.{side_before-drop, side_after-take}

whole_rest : (k : ℕ) (xs : List ℕ) → take (length xs - k) (drop k xs) ≡ drop k xs
whole_rest k xs = let e = length-drop k xs in take_all (length xs - k) (drop k xs) (omega (arith, e))

-- the bytes around a position in the slice decide what holds there
pub holds_around : (s : Searched) (terminator : ℕ) (look : Look) (p : ℕ) → s.slice.start ≤ p → p ≤ slice_end s →
    holds_between terminator (side_before (take (around_place_at s p) (around_bytes_at s p)))
    (side_after (take (length (around_bytes_at s p) - around_place_at s p) (drop (around_place_at s p) (around_bytes_at s p)))) look
    ≡ holds (text_of terminator s) look p
holds_around s terminator look p low high =
    ap₂ (λ b a. holds_between terminator b a look)
    (ap side_before (around-before s p low high) ∙ side_before-drop 4 (bytes_before s p) (omega arith))
    (ap side_after (whole_rest (around_place_at s p) (around_bytes_at s p) ∙ around-after s p low high) ∙ side_after-take 4 (bytes_after s p) (omega arith))

-- an input sees the same text wherever it stands
pub same_text : (s t : Searched) (terminator : ℕ) → Keeps s t → text_of terminator t ≡ text_of terminator s
same_text s t terminator k = rw (k.content, k.slice) refl
