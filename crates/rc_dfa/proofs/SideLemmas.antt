-- The bytes on the two sides of a position, and those of a piece.
use Rattle.std.proofs.Common.{◌≡◌, ℕ, ◌+◌, ◌-◌, ◌<◌, ◌≤◌, List, length, Some, None, min, slice_get, slice_range, slice_index_or, inl, inr, sym, subst, ap, ◌∙◌, arith}
use Rattle.std.proofs.lemmas.Bool.{cases_lt}
use Rattle.std.proofs.lemmas.Option.{slice_get-get_or, slice_get_past}
use Rattle.rc_text.specs.declared.types.Span.{Span}
use Rattle.rc_text.specs.Text.{Searched, Keeps, slice_end}
use Rattle.rc_text.proofs.Ranges.{slice_get-slice_range}
use Rattle.rc_program.specs.Sought.{text_of}
use Rattle.rc_determinize.proofs.TextLemmas.{byte_ahead, byte_behind, none_ahead}
use Rattle.rc_dfa.specs.Runs.{ahead_at, behind_at}

-- what stands ahead, where the slice goes on
pub ahead_is : (s : Searched) (at : ℕ) → at ≤ slice_end s → at < s.slice.end → slice_get s.content at ≡ ahead_at (text_of 0 s) at
ahead_is s at high lt =
    elim (cases_lt at (length s.content)) [
      | inl h ↦
          let x = slice_get-get_or s.content at 0 h in
          x ∙ sym (byte_ahead (text_of 0 s) at (slice_index_or s.content at 0) (omega (arith, h, lt)) x)
      | inr h ↦
          let e : slice_end s ≡ at = omega (arith, h, high) in
          slice_get_past s.content at h ∙ sym (subst (λ n. ahead_at (text_of 0 s) n ≡ None) e (none_ahead (text_of 0 s)))
    ]

-- what stands behind, where the slice began before
pub behind_is : (s : Searched) (at : ℕ) → at ≤ slice_end s → s.slice.start < at → slice_get s.content (at - 1) ≡ behind_at (text_of 0 s) at
behind_is s at high lt =
    let h : at - 1 < length s.content = omega (arith, high, lt) in
    let x = slice_get-get_or s.content (at - 1) 0 h in
    let e : at - 1 + 1 ≡ at = omega (arith, lt) in
    x ∙ sym (subst (λ n. behind_at (text_of 0 s) n ≡ Some (slice_index_or s.content (at - 1) 0)) e
    (byte_behind (text_of 0 s) (at - 1) (slice_index_or s.content (at - 1) 0) (omega (arith, lt)) x))

-- the byte at k of a piece is that of the content
pub byte_of_piece : (content piece : List ℕ) (start k : ℕ) → piece ≡ slice_range content start (start + length piece) → k < length piece →
    slice_get content (start + k) ≡ Some (slice_index_or piece k 0)
byte_of_piece content piece start k is lt =
    sym (slice_get-slice_range content start (start + length piece) k (omega (arith, lt)))
    ∙ subst (λ xs. slice_get xs k ≡ Some (slice_index_or piece k 0)) is (slice_get-get_or piece k 0 lt)

-- the same in an input of which only the chunk and the position changed
pub ahead_kept : (s t : Searched) (at : ℕ) → Keeps s t → ahead_at (text_of 0 t) at ≡ ahead_at (text_of 0 s) at
ahead_kept s t at k =
    ap (λ xs. ahead_at (record { content = xs; slice_start = t.slice.start; slice_end = min t.slice.end (length xs); terminator = 0 }) at) k.content
    ∙ ap (λ (p : Span). ahead_at (record { content = s.content; slice_start = p.start; slice_end = min p.end (length s.content); terminator = 0 }) at) k.slice

pub behind_kept : (s t : Searched) (at : ℕ) → Keeps s t → behind_at (text_of 0 t) at ≡ behind_at (text_of 0 s) at
behind_kept s t at k =
    ap (λ xs. behind_at (record { content = xs; slice_start = t.slice.start; slice_end = min t.slice.end (length xs); terminator = 0 }) at) k.content
    ∙ ap (λ (p : Span). behind_at (record { content = s.content; slice_start = p.start; slice_end = min p.end (length s.content); terminator = 0 }) at) k.slice
