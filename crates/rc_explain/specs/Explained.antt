-- What is said of the text of a pattern.
use Rattle.std.specs.Prelude.{ℕ, ◌≤◌, List, IsCharBoundary}
use Rattle.rc_pattern.specs.Re.{Re}
use Rattle.rc_tokens.specs.Text.{Characters}
use Rattle.rc_parser.specs.Settings.{Settings}
use Rattle.rc_syntax.specs.Reads.{Reads}
use Rattle.rc_text.specs.declared.types.Span.{Span}

-- the grammar reads a pattern from the text
abbrev pub IsRead : Settings → Characters → Type 0
IsRead s text = (re : Re) × Reads s text re

-- the grammar reads none
abbrev pub IsUnread : Settings → Characters → Type 0
IsUnread s text = (re : Re) → Reads s text re → ⊥

-- the span is a part of the text, and splits no character
pub record IsWithin (span : Span) (text : List ℕ) : Type 0 where
  pub in_order : span.start ≤ span.end
  pub starts : IsCharBoundary text span.start
  pub ends : IsCharBoundary text span.end
