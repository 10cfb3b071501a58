-- Only proofs use this file.
-- Bloom filter: bits for the first three bytes of needles.
use Rattle.std.specs.Prelude.{◌≡◌, ℕ, ◌+◌, ◌*◌, ◌/◌, ◌%◌, ◌^◌, ◌<◌, ◌≤◌, ◌==◌, Bool, true, List, length, slice_index}
use Rattle.rc_needles.specs.Teddies.{MayStand}
use Rattle.rc_needles.specs.Tables.{Agrees, numbered}

-- Which word has the bits of two bytes.
abbrev pub word_of : ℕ → ℕ → ℕ
word_of a b = a % 64 * 32 + b % 32

-- The bit of three bytes is set.
unfoldable pub opens : List ℕ → ℕ → ℕ → ℕ → Bool
opens words a b c = slice_index words (word_of a b) / 2 ^ (c % 32) % 2 == 1

-- The bit is set of each three bytes with which a text may begin that begins with the needle.
pub record IsOpened (words : List ℕ) (needle : List ℕ) : Type 0 where
  pub long : 2 ≤ length needle
  pub each : (c : ℕ) → c < 256 → MayStand needle 2 c → opens words (slice_index needle 0) (slice_index needle 1) c ≡ true

-- There is a word for each two bytes.
abbrev pub AreWhole : List ℕ → Type 0
AreWhole words = length words ≡ 2048

-- If there is a word for each two bytes, a needle that has its bits occurs at no index from the
-- first up to the second, excluded.
abbrev pub ArePassed : List ℕ → List ℕ → ℕ → ℕ → Type 0
ArePassed words piece from to = (needle : List ℕ) → (AreWhole words → IsOpened words needle) → (k : ℕ) → from ≤ k → k < to → ¬ Agrees piece needle k

-- If there is a word for each two bytes, each of the needles has its bits.
abbrev pub AreOpened : List ℕ → List (List ℕ) → Type 0
AreOpened words needles = AreWhole words → (n : ℕ) → n < length needles → IsOpened words (numbered needles n)
