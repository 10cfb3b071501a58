-- First-byte table: what a prefilter keeps of its needles.
use Rattle.std.specs.Prelude.{◌≡◌, ℕ, ◌+◌, ◌<◌, ◌≤◌, List, [], length, drop, map, Some, slice_get, slice_index, slice_index_or, Vec}

-- The needles as lists.
abbrev pub needles_in : {Y : Type 0} → List (Vec ℕ Y) → List (List ℕ)
needles_in vs = map (λ v. v.items) vs

-- The needle of a number.
abbrev pub numbered : List (List ℕ) → ℕ → List ℕ
numbered needles k = slice_index_or needles k []

-- The needle begins with the byte.
abbrev pub BeginsWithByte : List ℕ → ℕ → Type 0
BeginsWithByte needle b = slice_get needle 0 ≡ Some b

-- r is the first number from `from` on of a needle that begins with b, or how many needles there
-- are.
pub record IsNextWith (needles : List (List ℕ)) (b from r : ℕ) : Type 0 where
  pub low : from ≤ r
  pub high : r ≤ length needles
  pub begins : r < length needles → BeginsWithByte (numbered needles r) b
  pub none_between : (k : ℕ) → from ≤ k → k < r → ¬ BeginsWithByte (numbered needles k) b

-- No needle is empty.
abbrev pub AreSome : List (List ℕ) → Type 0
AreSome needles = (k : ℕ) → k < length needles → 0 < length (numbered needles k)

-- For each byte, the first needle that begins with it.
abbrev pub AreHeads : List (List ℕ) → ℕ → List ℕ → Type 0
AreHeads needles from heads = (b : ℕ) → b < 256 → IsNextWith needles b from (slice_index heads b)

-- For each needle from a number on, the next one that begins with the same byte.
abbrev pub AreNexts : List (List ℕ) → ℕ → List ℕ → Type 0
AreNexts needles from nexts =
    (k b : ℕ) → from ≤ k → k < length needles → BeginsWithByte (numbered needles k) b → IsNextWith needles b (k + 1) (slice_index nexts k)

-- The piece from the index k on and a needle have the same bytes, as far as both go.
abbrev pub Agrees : List ℕ → List ℕ → ℕ → Type 0
Agrees piece needle k = (i : ℕ) → i < length needle → k + i < length piece → slice_index piece (k + i) ≡ slice_index needle i

-- The index k of a piece belongs to no needle that starts `offset` bytes earlier, however the
-- content goes on.
abbrev pub IsRuledOut : List (List ℕ) → ℕ → List ℕ → ℕ → Type 0
IsRuledOut needles offset piece k = (n : ℕ) → n < length needles → ¬ Agrees piece (drop offset (numbered needles n)) k

-- There are needles, and none is empty.
abbrev pub IsUsable : List (List ℕ) → Type 0
IsUsable needles = (0 < length needles) × AreSome needles
