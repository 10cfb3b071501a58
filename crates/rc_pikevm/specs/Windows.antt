-- Only proofs use this file.
-- Look-around window: what it shows of a text.
use Rattle.std.specs.Prelude.{◌≡◌, ℕ, ◌+◌, ◌≤◌, ◌⊎◌, min, take, slice_range}
use Rattle.rc_text.specs.Text.{Searched, slice_end}
use Rattle.rc_pikevm.specs.declared.window.Window.{Window}

-- It shows the slice's bytes from its start on, as many as fit.
pub record IsWindow (s : Searched) (w : Window) : Type 0 where
  pub low : s.slice.start ≤ w.start
  pub bytes : take w.len w.bytes ≡ slice_range s.content w.start (w.start + w.len)
  pub end : w.start + w.len ≡ min (w.start + 64) (slice_end s)

-- It shows the four bytes before `at`, as far as the slice has them.
pub record IsBegun (s : Searched) (at : ℕ) (w : Window) : Type 0 where
  pub below : w.start ≤ at
  pub four : (w.start ≡ s.slice.start) ⊎ (w.start + 4 ≤ at)

-- It shows the four bytes after `at`, as far as the slice has them.
pub record IsAround (s : Searched) (at : ℕ) (w : Window) : Type 0 where
  pub above : at ≤ w.start + w.len
  pub four : (w.start + w.len ≡ slice_end s) ⊎ (at + 4 ≤ w.start + w.len)
