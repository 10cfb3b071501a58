-- Chunks one above another, and how many bytes are below each.
use Rattle.std.specs.Prelude.{◌≡◌, ℕ, ◌+◌, ◌<◌, ◌≤◌, List, ◌++◌, get_or, length, reverse, take}
use Rattle.std.specs.Borrow.{Bor}
use Rattle.rc_text.specs.Joined.{chunk_at, joined}

-- for each chunk the number of bytes below it, and of all
pub record IsPile (chunks : List (Bor (List ℕ))) (below : List ℕ) (len : ℕ) : Type 0 where
  pub as_many : length below ≡ length chunks
  pub each : (k : ℕ) → k < length chunks → get_or below k 0 ≡ length (joined (take k chunks))
  pub all : len ≡ length (joined chunks)

-- the chunk at the index has the byte with this number
pub record IsAt (chunks : List (Bor (List ℕ))) (at index : ℕ) : Type 0 where
  pub within : index < length chunks
  pub low : length (joined (take index chunks)) ≤ at
  pub high : at < length (joined (take index chunks)) + length (chunk_at chunks index)

-- Chunks went from the top of a pile to that of another: with the first one turned over onto the second, all is as it was.
abbrev pub Moves : (from_old to_old from_new to_new : List (Bor (List ℕ))) → Type 0
Moves from_old to_old from_new to_new = to_new ++ reverse from_new ≡ to_old ++ reverse from_old
