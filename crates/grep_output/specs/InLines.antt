-- Only proofs use this file.
-- Matches that lie in one line.
use Rattle.std.specs.Prelude.{◌≡◌, ◌≢◌, ℕ, ◌<◌, ◌≤◌, List, Some, slice_get}
use Rattle.rc_text.specs.declared.types.Span.{Span}

-- the span has no newline
abbrev pub LiesInLine : List ℕ → Span → Type 0
LiesInLine text s = (k : ℕ) → s.start ≤ k → k < s.end → slice_get text k ≢ Some 10
