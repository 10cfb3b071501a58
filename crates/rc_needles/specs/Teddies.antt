-- Only proofs use this file.
-- Teddy: what its tables let through.
use Rattle.std.specs.Prelude.{◌≡◌, ℕ, ◌+◌, ◌/◌, ◌%◌, ◌<◌, List, bit_and, length, slice_index}
use Rattle.rc_needles.specs.Tables.{numbered}
use Rattle.rc_needles.specs.declared.teddy.Sift.{Sift}
use Rattle.rc_needles.specs.declared.teddy.Teddy.{Teddy}
use Rattle.rc_needles.specs.declared.teddy.Begun.{Begun}

-- A vector of 16 numbers: the one at k is f k.
pub record AreLanes (v : List ℕ) (f : ℕ → ℕ) : Type 0 where
  pub long : length v ≡ 16
  pub each : (k : ℕ) → k < 16 → slice_index v k ≡ f k

-- The buckets that take the byte.
abbrev pub buckets : Sift → ℕ → ℕ
buckets t byte = bit_and (slice_index t.low (byte % 16)) (slice_index t.high (byte / 16))

-- The buckets that take three bytes, one after another.
abbrev pub sifted : Teddy → ℕ → ℕ → ℕ → ℕ
sifted s a b c = bit_and (buckets s.first a) (bit_and (buckets s.second b) (buckets s.third c))

-- Of n indices, a function says at which a bucket takes the three bytes from there on. The number
-- that it has at k is for the index that is as far behind `at` as k is above `back`.
abbrev pub AreMarked : Teddy → List ℕ → ℕ → ℕ → ℕ → (ℕ → ℕ) → Type 0
AreMarked s piece back n at marks = (k place : ℕ) → k < n → place + back ≡ at + k →
    0 < sifted s (slice_index piece place) (slice_index piece (place + 1)) (slice_index piece (place + 2)) → 0 < marks k

-- A vector of the buckets that take each of the 16 bytes of a piece before an index, if there are
-- as many.
pub record AreTaken (t : Sift) (piece : List ℕ) (end : ℕ) (v : List ℕ) : Type 0 where
  pub long : length v ≡ 16
  pub each : (k place : ℕ) → k < 16 → place + 16 ≡ end + k → slice_index v k ≡ buckets t (slice_index piece place)

-- Those that take them as the first byte of a needle, and as the second.
pub record HaveBegun (s : Teddy) (piece : List ℕ) (end : ℕ) (b : Begun) : Type 0 where
  pub first : AreTaken s.first piece end b.first
  pub second : AreTaken s.second piece end b.second

-- The byte may be at the index of a text that begins with the needle.
abbrev pub MayStand : List ℕ → ℕ → ℕ → Type 0
MayStand needle at byte = at < length needle → byte ≡ slice_index needle at

-- A bucket takes each three bytes with which a text may begin that begins with the needle.
abbrev pub IsSifted : Teddy → List ℕ → Type 0
IsSifted s needle = (a b c : ℕ) → a < 256 → b < 256 → c < 256 → MayStand needle 0 a → MayStand needle 1 b → MayStand needle 2 c → 0 < sifted s a b c

-- A bucket takes each of the needles.
abbrev pub AreSifted : Teddy → List (List ℕ) → Type 0
AreSifted s needles = (n : ℕ) → n < length needles → IsSifted s (numbered needles n)
