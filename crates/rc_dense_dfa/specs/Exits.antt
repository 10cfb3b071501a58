-- Only proofs use this file.
-- Acceleration: the bytes that lead away from a row.
use Rattle.std.specs.Prelude.{◌≡◌, ℕ, ◌+◌, ◌<◌, ◌≢◌, Bool, true, false, IsTrue, List, All, slice_index_or}
use Rattle.memchr.specs.Find.{is_byte, is_byte2, is_byte3}
use Rattle.rc_dense_dfa.specs.Cells.{quit, row_of}
use Rattle.rc_dense_dfa.specs.declared.exits.Exits.{Exits}
use Rattle.rc_dense_dfa.specs.declared.leaps.Leap.{Leap}
use Rattle.rc_dense_dfa.specs.declared.exits.Exits.TheVariants.{Zero, One, Two, Three, Many}

abbrev pub is_exit : Exits → ℕ → Bool
is_exit Zero b = false
is_exit (One x) b = is_byte x b
is_exit (Two x y) b = is_byte2 x y b
is_exit (Three x y z) b = is_byte3 x y z b
is_exit Many b = true

-- The cell of the byte names the row itself, and is below the mark.
abbrev pub Stays : ℕ → List ℕ → List ℕ → ℕ → ℕ → Type 0
Stays mark classes cells row b =
    (slice_index_or cells (row + slice_index_or classes b 0) quit < mark) × (row_of (slice_index_or cells (row + slice_index_or classes b 0) quit) ≡ row)

-- Each other byte stays.
abbrev pub AreExitsOf : ℕ → List ℕ → List ℕ → ℕ → Exits → Type 0
AreExitsOf mark classes cells row exits = (b : ℕ) → b < 256 → is_exit exits b ≡ false → Stays mark classes cells row b

-- The cell of a row to which the byte leads.
abbrev pub cell_by : List ℕ → List ℕ → ℕ → ℕ → ℕ
cell_by classes cells row b = slice_index_or cells (row + slice_index_or classes b 0) quit

-- The byte's cells in the two rows name the same one of the two, and are below the mark.
pub record StaysAmong (mark : ℕ) (classes cells : List ℕ) (row other b : ℕ) : Type 0 where
  pub below : cell_by classes cells row b < mark
  pub below_too : cell_by classes cells other b < mark
  pub same : row_of (cell_by classes cells row b) ≡ row_of (cell_by classes cells other b)
  pub among : row_of (cell_by classes cells row b) ≢ row → row_of (cell_by classes cells row b) ≡ other

-- Each byte whose flag says that it stays does.
abbrev pub AreStays : ℕ → List ℕ → List ℕ → ℕ → ℕ → List Bool → Type 0
AreStays mark classes cells row other stays = (b : ℕ) → IsTrue (slice_index_or stays b false) → StaysAmong mark classes cells row other b

abbrev pub AreLeaps : ℕ → List ℕ → List ℕ → List Leap → Type 0
AreLeaps mark classes cells leaps = All (λ (leap : Leap). AreStays mark classes cells leap.row leap.other leap.stays.flags) leaps
