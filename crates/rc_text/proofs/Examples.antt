-- Worked rows of the definitions.
use Rattle.std.proofs.Common.{◌≡◌, ℕ, List, [], ◌∷◌, true, false, Some, None, refl, codes}
use Rattle.std.specs.Borrow.{Bor}
use Rattle.rc_text.specs.Joined.{joined, chunk_at}
use Rattle.rc_text.specs.Plain.{is_anchored, only_pattern}
use Rattle.rc_text.specs.Text.{Searched, low, high, slice_end, is_boundary, bytes_before, bytes_after, last_bytes, around_bytes_at, around_place_at}
use Rattle.rc_text.specs.declared.types.Anchored.TheVariants.{No, Yes, Pattern}

abbrev chunk : List ℕ → Bor (List ℕ)
chunk bytes = record { ref_ptr = (0, 0); now = bytes }

-- chunks ab, an empty one, cde
abbrev chunks : List (Bor (List ℕ))
chunks = chunk (codes "ab") ∷ chunk [] ∷ chunk (codes "cde") ∷ []

whole : (joined chunks ≡ codes "abcde") × (chunk_at chunks 2 ≡ codes "cde") × (chunk_at chunks 3 ≡ [])
whole = (refl, refl, refl)

-- a text in chunks abc, def, gh, with the slice 1 to 7, at position 4
abbrev sample : Searched
sample = record {
  content = codes "abcdefgh";
  chunk = codes "def";
  offset = 3;
  position = 4;
  span = record { start = 4; end = 9 };
  slice = record { start = 1; end = 7 };
  anchored = No;
  earliest = false;
}

bounds : (low sample ≡ 4) × (high sample ≡ 7) × (slice_end sample ≡ 7)
bounds = (refl, refl, refl)

around_the_middle : (around_bytes_at sample 4 ≡ codes "bcdefg") × (around_place_at sample 4 ≡ 3)
around_the_middle = (refl, refl)

around_the_start : (around_bytes_at sample 1 ≡ codes "bcde") × (around_place_at sample 1 ≡ 0)
around_the_start = (refl, refl)

around_the_end : (around_bytes_at sample 7 ≡ codes "defg") × (around_place_at sample 7 ≡ 4)
around_the_end = (refl, refl)

outside : (around_bytes_at sample 0 ≡ []) × (around_place_at sample 8 ≡ 0)
outside = (refl, refl)

before_and_after : (bytes_before sample 6 ≡ codes "bcdef") × (bytes_after sample 6 ≡ codes "g") × (last_bytes 4 (bytes_before sample 6) ≡ codes "cdef")
before_and_after = (refl, refl, refl)

-- the letter é, C3 A9
boundaries : (is_boundary (195 ∷ 169 ∷ []) 0 ≡ true) × (is_boundary (195 ∷ 169 ∷ []) 1 ≡ false) × (is_boundary (195 ∷ 169 ∷ []) 2 ≡ true)
boundaries = (refl, refl, refl)

anchorings : (is_anchored No ≡ false) × (only_pattern Yes ≡ None) × (only_pattern (Pattern 7) ≡ Some 7)
anchorings = (refl, refl, refl)
