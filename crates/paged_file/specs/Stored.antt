-- What of a file can be read, and what a read gives.
use Rattle.std.specs.Prelude.{◌≡◌, ℕ, ◌≤◌, Bool, true, false, if◌then◌else◌, List, drop, length, nat_le, take, Option, Some, None}
use Rattle.paged_file.specs.declared.pages.ReadFault.{ReadFault}

-- A file, as it can be read.
pub record Stored : Type 0 where
  -- the bytes that can be read: all, or those before the first place that can't be
  pub bytes : List ℕ
  -- none follow them
  pub is_whole : Bool

-- a file of these bytes that can't be read from the place on
abbrev pub cut : List ℕ → ℕ → Stored
cut bytes at = if nat_le at (length bytes) then record { bytes = take at bytes; is_whole = false } else record { bytes = bytes; is_whole = true }

-- what a read behind the bytes that can be read meets
abbrev pub fault_of : Stored → Option ReadFault
fault_of s = if s.is_whole then None else Some (record { offset = length s.bytes })

-- A read of the page at a place gave n bytes.
pub record Gives (s : Stored) (at : ℕ) (page : List ℕ) (n : ℕ) : Type 0 where
  pub within : n ≤ length page
  -- as many as there are and fit
  pub bytes : take n page ≡ take (length page) (drop at s.bytes)
  -- there is none only where the file ends
  pub end : n ≡ 0 → s.is_whole ≡ true

-- A read of the page at a place failed.
pub record Fails (s : Stored) (at : ℕ) (f : ReadFault) : Type 0 where
  pub past : length s.bytes ≤ at
  pub fault : fault_of s ≡ Some f
