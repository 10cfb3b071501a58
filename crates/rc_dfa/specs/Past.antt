-- Only proofs use this file.
-- Columns of the bytes past ASCII, in tables that read symbols.
use Rattle.std.specs.Prelude.{◌≡◌, ℕ, ◌+◌, ◌*◌, ◌-◌, ◌<◌, List, length, slice_index}
use Rattle.rc_dfa.specs.Samples.{class_count}

-- The column of the byte's symbol with no tag.
abbrev pub column_past : List ℕ → ℕ → ℕ
column_past classes b = class_count classes + 5 * (slice_index classes b - slice_index classes 128)

-- These are those columns, by the bytes.
pub record AreColumns (classes columns : List ℕ) : Type 0 where
  pub long : length columns ≡ 256
  pub each : (b : ℕ) → b < 256 → slice_index columns b ≡ column_past classes b
