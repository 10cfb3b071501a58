-- Only proofs use this file.
-- Failure function: where a search for one needle goes on if a byte differs.
use Rattle.std.specs.Prelude.{◌≡◌, ◌≢◌, ℕ, ◌+◌, ◌-◌, ◌<◌, ◌≤◌, List, length, slice_index}

-- The text has the needle's first k bytes from s on.
abbrev pub HasPrefixAt : List ℕ → ℕ → List ℕ → ℕ → Type 0
HasPrefixAt text s needle k = (i : ℕ) → i < k → slice_index text (s + i) ≡ slice_index needle i

-- Proper border: the needle's first j bytes begin and end with its first k bytes, and k is less
-- than j.
pub record IsBorder (needle : List ℕ) (j k : ℕ) : Type 0 where
  pub short : k < j
  pub repeats : HasPrefixAt needle (j - k) needle k

-- k is the length of the longest proper border of the needle's first j bytes.
pub record IsLongestBorder (needle : List ℕ) (j k : ℕ) : Type 0 where
  pub is_border : IsBorder needle j k
  pub longest : (l : ℕ) → IsBorder needle j l → l ≤ k

-- r is one more than the length of the longest proper border of the needle's first j bytes behind
-- which another byte stands than behind those bytes. If there is none, r is 0.
pub record IsFailure (needle : List ℕ) (j r : ℕ) : Type 0 where
  pub is_border : 0 < r → IsBorder needle j (r - 1)
  pub differs : 0 < r → slice_index needle (r - 1) ≢ slice_index needle j
  pub longest : (k : ℕ) → IsBorder needle j k → r ≤ k → slice_index needle k ≡ slice_index needle j

-- The needle's failure function, as far as the list goes.
abbrev pub AreFailures : List ℕ → List ℕ → Type 0
AreFailures needle failures = (j : ℕ) → j < length failures → IsFailure needle j (slice_index failures j)

-- The needle's failure function.
abbrev pub IsFailureFunction : List ℕ → List ℕ → Type 0
IsFailureFunction needle failures = (length failures ≡ length needle) × AreFailures needle failures

-- Of a text that ends with the needle's first `state` bytes and then has these bytes: of the
-- needle's prefixes that start there or later, the longest with which it ends has `next` bytes.
pub record GoesOn (needle : List ℕ) (state : ℕ) (bytes : List ℕ) (len next : ℕ) : Type 0 where
  pub within : state + len ≤ length needle
  pub high : next ≤ state + len
  pub ends : (text : List ℕ) (s : ℕ) → HasPrefixAt text s needle state → HasPrefixAt text (s + state) bytes len →
      HasPrefixAt text (s + (state + len - next)) needle next
  pub longest : (text : List ℕ) (s d : ℕ) → HasPrefixAt text s needle state → HasPrefixAt text (s + state) bytes len → d + next < state + len →
      ¬ HasPrefixAt text (s + d) needle (state + len - d)
