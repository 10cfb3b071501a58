-- Settings as their bytes, of which there may be fewer than are known, or more.
use Rattle.std.specs.Prelude.{◌≡◌, ℕ, ◌+◌, Bool, true, ◌==◌, List, [], ◌∷◌, drop, slice_get, unwrap_or}
use Rattle.std.specs.List.{list_all}
use Rattle.core.specs.Int.{from_le_bytes, w64}
use Rattle.searcher.specs.declared.settings.Settings.{Settings}

-- a byte of the settings; 0 behind the last
abbrev pub byte_in : List ℕ → ℕ → ℕ
byte_in bytes at = unwrap_or (slice_get bytes at) 0

-- the number in the eight bytes from a place on, the least byte first
abbrev pub word_in : List ℕ → ℕ → ℕ
word_in bytes at = from_le_bytes w64 (
    byte_in bytes at ∷ byte_in bytes (at + 1) ∷ byte_in bytes (at + 2) ∷ byte_in bytes (at + 3)
    ∷ byte_in bytes (at + 4) ∷ byte_in bytes (at + 5) ∷ byte_in bytes (at + 6) ∷ byte_in bytes (at + 7) ∷ [])

-- the settings with these bytes
abbrev pub settings_in : List ℕ → Settings
settings_in bytes = record {
  case_insensitive = byte_in bytes 0;
  multi_line = byte_in bytes 1;
  dot_matches_new_line = byte_in bytes 2;
  crlf = byte_in bytes 3;
  swap_greed = byte_in bytes 4;
  bytes = byte_in bytes 5;
  any_bytes = byte_in bytes 6;
  split_characters = byte_in bytes 7;
  kind = byte_in bytes 8;
  size_limit = word_in bytes 16;
  cache_capacity = word_in bytes 24;
  full = word_in bytes 32;
}

-- each byte behind the 40 that are known is 0
abbrev pub is_known : List ℕ → Bool
is_known bytes = list_all (λ b. b == 0) (drop 40 bytes)

abbrev pub IsKnown : List ℕ → Type 0
IsKnown bytes = is_known bytes ≡ true
