-- What an input shows of its text.
use Rattle.std.proofs.Common.{◌≡◌, ℕ, ◌+◌, ◌-◌, ◌<◌, ◌≤◌, List, [], ◌∷◌, ◌++◌, length, take, drop, Some, None, inl, inr, sym, ap, ap₂, ◌∙◌, refl, arith, slice_range, slice_get, length-drop, length-take, min, set}
use Rattle.std.proofs.lemmas.Bool.{cases_lt}
use Rattle.std.proofs.lemmas.List.{take_all, take-take, take_more_set}
use Rattle.std.proofs.lemmas.Option.{none-some, same_Some}
use Rattle.rc_pattern.specs.declared.hir.Look.{Look}
use Rattle.rc_text.specs.Text.{Searched, Keeps, slice_end, around_bytes_at, around_place_at, bytes_before, bytes_after}
use Rattle.rc_text.proofs.Arounds.{around-before, around-after}
use Rattle.rc_text.proofs.Ranges.{slice_range-add_one}
use Rattle.rc_program.proofs.WayLemmas.{scalar_at_short}
use Rattle.rc_program.specs.Text.{holds}
use Rattle.rc_program.specs.Looks.{side_before, side_after, holds_between}
use Rattle.rc_program.specs.Sought.{text_of}
use Rattle.rc_program.specs.Scalars.{scalar_at}
use Rattle.rc_program.specs.Program.{over_byte, Way}
use Rattle.rc_program.proofs.SideLemmas.{side_before-drop, side_after-take, scalar_at-take}

whole_rest : (k : ℕ) (xs : List ℕ) → take (length xs - k) (drop k xs) ≡ drop k xs
whole_rest k xs = let e = length-drop k xs in take_all (length xs - k) (drop k xs) (omega (arith, e))

-- the bytes around a position in the slice decide what holds there
pub holds_around : (s : Searched) (terminator : ℕ) (look : Look) (p : ℕ) → s.slice.start ≤ p → p ≤ slice_end s →
    holds_between terminator (side_before (take (around_place_at s p) (around_bytes_at s p)))
    (side_after (take (length (around_bytes_at s p) - around_place_at s p) (drop (around_place_at s p) (around_bytes_at s p)))) look
    ≡ holds (text_of terminator s) look p
holds_around s terminator look p low high =
    ap₂ (λ b a. holds_between terminator b a look)
    (ap side_before (around-before s p low high) ∙ side_before-drop 4 (bytes_before s p) (omega arith))
    (ap side_after (whole_rest (around_place_at s p) (around_bytes_at s p) ∙ around-after s p low high) ∙ side_after-take 4 (bytes_after s p) (omega arith))

-- an input sees the same text wherever it stands
pub same_text : (s t : Searched) (terminator : ℕ) → Keeps s t → text_of terminator t ≡ text_of terminator s
same_text s t terminator k = rw (k.content, k.slice) refl

pub over_none : (f : ℕ → List Way) (bs : List ℕ) → None ≡ slice_get bs 0 → over_byte f bs ≡ []
over_none f [] e = refl
over_none f (b ∷ bs) e = absurd (none-some b e)

pub over_some : (f : ℕ → List Way) (bs : List ℕ) (b : ℕ) → Some b ≡ slice_get bs 0 → over_byte f bs ≡ f b
over_some f [] b e = absurd (none-some b (sym e))
over_some f (c ∷ bs) b e = ap f (sym (same_Some b c e))

-- one more byte was read
pub reads_more : (content bytes : List ℕ) (p i b : ℕ) → take i bytes ≡ slice_range content p (p + i) → i < length bytes →
    Some b ≡ slice_get content (p + i) → take (i + 1) (set bytes i b) ≡ slice_range content p (p + (i + 1))
reads_more content bytes p i b e l h =
    let n : p + (i + 1) ≡ p + i + 1 = omega arith in
    take_more_set bytes i b l ∙ ap (λ xs. xs ++ b ∷ []) e ∙ sym (slice_range-add_one content p (p + i) b (omega arith) (sym h))
    ∙ ap (λ k. slice_range content p k) (sym n)

pub first_four : (content : List ℕ) (p hi : ℕ) → scalar_at (slice_range content p (p + min (hi - p) 4)) ≡ scalar_at (slice_range content p hi)
first_four content p hi =
    let rest = drop p content in
    let few : hi - p < 4 → length (take (hi - p) rest) ≤ 4 = λ h. let e = length-take (hi - p) rest in omega (arith, e, h) in
    let n : p + min (hi - p) 4 - p ≡ min (hi - p) 4 = omega arith in
    let same : take (min (hi - p) 4) rest ≡ take 4 (take (hi - p) rest) =
    elim (cases_lt (hi - p) 4) [
      | inl h ↦ let k : min (hi - p) 4 ≡ hi - p = omega (arith, h) in ap (λ n. take n rest) k ∙ sym (take_all 4 (take (hi - p) rest) (few h))
      | inr h ↦ let k : min (hi - p) 4 ≡ 4 = omega (arith, h) in ap (λ n. take n rest) k ∙ sym (take-take 4 (hi - p) rest h)
    ] in
    ap scalar_at (ap (λ k. take k rest) n ∙ same) ∙ scalar_at-take 4 (take (hi - p) rest) (omega arith)

-- a scalar ahead doesn't go past hi
pub scalar_within : (content : List ℕ) (p hi c n : ℕ) → Some (c, n) ≡ scalar_at (slice_range content p hi) → p ≤ hi → p + n ≤ hi
scalar_within content p hi c n e h =
    let short = (scalar_at_short (slice_range content p hi)).takes (c, n) (sym e) in
    let l = length-take (hi - p) (drop p content) in
    omega (arith, short.1, l, h)
