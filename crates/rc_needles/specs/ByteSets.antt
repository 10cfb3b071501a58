-- Only proofs use this file.
-- Byte sets: what a search for the first byte outside passes.
use Rattle.std.specs.Prelude.{◌≡◌, ℕ, ◌<◌, Bool, false, IsTrue, List, slice_index_or}
use Rattle.rc_needles.specs.Teddies.{buckets}
use Rattle.rc_needles.specs.declared.teddy.Sift.{Sift}

-- The tables take each byte that has no flag.
abbrev pub TakesOutside : List Bool → Sift → Type 0
TakesOutside flags t = (byte : ℕ) → byte < 256 → slice_index_or flags byte false ≡ false → 0 < buckets t byte

-- The first n bytes of the piece have a flag.
abbrev pub AreInside : List Bool → List ℕ → ℕ → Type 0
AreInside flags piece n = (k : ℕ) → k < n → IsTrue (slice_index_or flags (slice_index_or piece k 0) false)
