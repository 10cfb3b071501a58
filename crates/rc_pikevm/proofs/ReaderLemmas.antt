-- How many places read.
use Rattle.std.proofs.Common.{◌≡◌, ℕ, ◌+◌, ◌<◌, List, ◌∷◌, length, drop, ap, ap₂, sym, ◌∙◌, add-one, slice_index_or, if◌then◌else◌}
use Rattle.std.proofs.Math.Seq.{drop-cons}
use Rattle.rc_program.specs.Places.{place_of, places_of}
use Rattle.rc_program.specs.declared.place.Place as code
use Rattle.rc_pikevm.specs.Readers.{reader_count, reads}

-- the places from i on are the one at i and those after it
pub readers_from : (places : List code.Place) (i : ℕ) (q : code.Place) → i < length places → q ≡ slice_index_or places i q →
    reader_count (places_of (drop i places))
    ≡ (if reads (place_of q) then 1 + reader_count (places_of (drop (i + 1) places)) else reader_count (places_of (drop (i + 1) places)))
readers_from places i q low item =
    ap (λ ps. reader_count (places_of ps)) (drop-cons places i q low ∙ ap₂ (λ p k. p ∷ drop k places) (sym item) (sym (add-one i)))
