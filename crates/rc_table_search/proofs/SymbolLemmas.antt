-- The symbol of a byte past ASCII, by the bytes that lead up to it or go on from it.
use Rattle.std.proofs.Common.{◌≡◌, ℕ, ◌+◌, ◌-◌, ◌<◌, ◌≤◌, List, [], ◌∷◌, ◌++◌, length, take, drop, Option, Some, None, nat_le, nat_lt, slice_get, slice_range, ⊎_elim, refl, sym, ap, ap₂, ◌∙◌, arith, length-append, length-drop}
use Rattle.std.specs.Option.{option_map}
use Rattle.std.proofs.lemmas.Bool.{and_parts, cases_lt, ltb-true}
use Rattle.std.proofs.lemmas.List.{drop_at, take-take, take_all}
use Rattle.rc_text.proofs.Ranges.{slice_range-append}
use Rattle.rc_text.specs.Text.{Keeps, Searched, slice_end, around_bytes_at, around_place_at, bytes_before, bytes_after}
use Rattle.rc_text.proofs.Arounds.{around-before, around-after}
use Rattle.rc_program.specs.Looks.{side_before, side_after, is_word_scalar}
use Rattle.rc_program.specs.Scalars.{scalar_at, scalar_before}
use Rattle.rc_program.specs.Text.{Text, behind, beyond}
use Rattle.rc_program.proofs.SideLemmas.{scalar_at-take, scalar_before-drop}
use Rattle.rc_symbols.specs.Symbols.{tag_of, IsSymbolAt}
use Rattle.rc_symbols.proofs.SymbolLemmas.{some, nothing_shuts, symbol_law}
use Rattle.rc_symbols.proofs.ReaderLemmas.{reader_law}
use Rattle.rc_dfa.specs.Symbols.{opens_of, shuts_of, symbol_of}
use Rattle.rc_table_search.specs.Decodes.{first_of_scalar, last_of_scalar}

-- what a scalar tells, as a tag
first_opens : (o : Option (ℕ × ℕ)) → option_map is_word_scalar (option_map (λ (s : ℕ × ℕ). s.0) o) ≡ opens_of (first_of_scalar o)
first_opens None = refl
first_opens (Some s) = refl

first_shuts : (o : Option (ℕ × ℕ)) → shuts_of (first_of_scalar o) ≡ None
first_shuts None = refl
first_shuts (Some s) = refl

last_shuts : (o : Option ℕ) → option_map is_word_scalar o ≡ shuts_of (last_of_scalar o)
last_shuts None = refl
last_shuts (Some c) = refl

last_opens : (o : Option ℕ) → opens_of (last_of_scalar o) ≡ None
last_opens None = refl
last_opens (Some c) = refl

tag_ahead : (bs : List ℕ) → tag_of (side_after bs) ≡ opens_of (first_of_scalar (scalar_at bs))
tag_ahead [] = refl
tag_ahead (b ∷ bs) = first_opens (scalar_at (b ∷ bs))

tag_behind : (bs : List ℕ) → tag_of (side_before bs) ≡ shuts_of (last_of_scalar (scalar_before bs))
tag_behind [] = refl
tag_behind (b ∷ bs) = last_shuts (scalar_before (b ∷ bs))

module _ (t : Text) (i b : ℕ) (low : t.slice_start ≤ i) (high : i < t.slice_end) (bounded : t.slice_end ≤ length t.content)
    (there : slice_get t.content i ≡ Some b) where
  begins_none : 128 ≤ b → b < 192 → scalar_at (beyond t i) ≡ None
  begins_none past next = reader_law.decodes t i b low there (⊎_elim (λ l. omega (arith, past, l)) (λ h. let g = h.0 in omega (arith, next, g)))

  ends_none : 192 ≤ b → scalar_before (behind t (i + 1)) ≡ None
  ends_none past =
      nothing_shuts t (i + 1) (omega (arith, high)) (omega (arith, high, bounded))
      (λ j c n is e.
      let more = some t j c n is in
      ⊎_elim
      (λ before.
      let goes_on = symbol_law.other t i j c n b (record { is = is; begins = omega (arith, before); ends = omega (arith, e) }) before there in
      let below = ltb-true b 192 (and_parts (nat_le 128 b) (nat_lt b 192) goes_on).1 in omega (arith, below, past))
      (λ here.
      let one : n ≡ 1 = omega (arith, here, more, e) in
      let same : j ≡ i = omega (arith, here, more, e) in
      let small = (symbol_law.first t j c n b is (ap (slice_get t.content) same ∙ there)).1.1 one in
      omega (arith, small, past))
      (cases_lt j i))

  -- the byte goes on with a scalar
  pub ended_here : (o : Option ℕ) → 128 ≤ b → b < 192 → scalar_before (behind t (i + 1)) ≡ o →
      IsSymbolAt t i (symbol_of (record { byte = b; tagged = last_of_scalar o }))
  ended_here o past next e = record {
    inside = (low, high);
    byte = there;
    opens = last_opens o ∙ sym (tag_ahead (beyond t i) ∙ ap (λ k. opens_of (first_of_scalar k)) (begins_none past next));
    shuts = sym (tag_behind (behind t (i + 1)) ∙ ap (λ k. shuts_of (last_of_scalar k)) e);
  }

  -- it doesn't
  pub begun_here : (o : Option (ℕ × ℕ)) → 192 ≤ b → scalar_at (beyond t i) ≡ o →
      IsSymbolAt t i (symbol_of (record { byte = b; tagged = first_of_scalar o }))
  begun_here o past e = record {
    inside = (low, high);
    byte = there;
    opens = sym (tag_ahead (beyond t i) ∙ ap (λ k. opens_of (first_of_scalar k)) e);
    shuts = first_shuts o ∙ sym (tag_behind (behind t (i + 1)) ∙ ap (λ k. shuts_of (last_of_scalar k)) (ends_none past));
  }

-- an input of which only the chunk and the position changed has the same bytes before a position
pub behind_kept : (s now : Searched) → Keeps s now → (p : ℕ) → bytes_before now p ≡ bytes_before s p
behind_kept s now keeps p = rw (keeps.content, keeps.slice) refl

-- the bytes around a position decide both
module _ (s : Searched) (p : ℕ) (low : s.slice.start ≤ p) (high : p ≤ slice_end s) where
  after_around : scalar_at (drop (around_place_at s p) (around_bytes_at s p)) ≡ scalar_at (bytes_after s p)
  after_around = ap scalar_at (around-after s p low high) ∙ scalar_at-take 4 (bytes_after s p) (omega arith)

  before_around : scalar_before (take (around_place_at s p) (around_bytes_at s p)) ≡ scalar_before (bytes_before s p)
  before_around = ap scalar_before (around-before s p low high) ∙ scalar_before-drop 4 (bytes_before s p) (omega arith)

  -- as an input shows them of which only the chunk and the position changed
  module _ (now : Searched) (keeps : Keeps s now) where
    bytes_kept : around_bytes_at now p ≡ around_bytes_at s p
    bytes_kept = rw (keeps.content, keeps.slice) refl

    place_kept : around_place_at now p ≡ around_place_at s p
    place_kept = rw keeps.slice refl

    pub after_kept : scalar_at (take (length (around_bytes_at now p) - around_place_at now p) (drop (around_place_at now p) (around_bytes_at now p)))
        ≡ scalar_at (bytes_after s p)
    after_kept =
        let bytes = around_bytes_at s p in
        let place = around_place_at s p in
        let size = length-drop place bytes in
        ap₂ (λ xs k. scalar_at (take (length xs - k) (drop k xs))) bytes_kept place_kept
        ∙ ap scalar_at (take_all (length bytes - place) (drop place bytes) (omega (arith, size))) ∙ after_around

    pub before_kept : scalar_before (take (around_place_at now p) (around_bytes_at now p)) ≡ scalar_before (bytes_before s p)
    before_kept = ap₂ (λ xs k. scalar_before (take k xs)) bytes_kept place_kept ∙ before_around

  -- and so do four of a piece
  pub after_piece : (piece : List ℕ) → piece ≡ slice_range s.content p (p + length piece) → p + length piece ≤ slice_end s → 4 ≤ length piece →
      scalar_at piece ≡ scalar_at (bytes_after s p)
  after_piece piece is within four =
      let short : p + length piece - p ≤ slice_end s - p = omega (arith, within) in
      let size : p + length piece - p ≡ length piece = omega arith in
      ap scalar_at (is ∙ sym (take-take (p + length piece - p) (slice_end s - p) (drop p s.content) short))
      ∙ scalar_at-take (p + length piece - p) (bytes_after s p) (omega (arith, size, four))

  pub before_piece : (piece : List ℕ) → piece ≡ slice_range s.content (p - length piece) p → length piece ≤ p - s.slice.start → 4 ≤ length piece →
      scalar_before piece ≡ scalar_before (bytes_before s p)
  before_piece piece is within four =
      let front = slice_range s.content s.slice.start (p - length piece) in
      let all : front ++ piece ≡ bytes_before s p =
      ap (λ xs. front ++ xs) is ∙ slice_range-append s.content s.slice.start (p - length piece) p (omega (arith, within, four)) (omega arith) in
      let size = length-append front piece in
      sym (ap scalar_before (sym all) ∙ sym (scalar_before-drop (length piece) (front ++ piece) four)
      ∙ ap scalar_before (drop_at front piece (length (front ++ piece) - length piece) (omega (arith, size))))
