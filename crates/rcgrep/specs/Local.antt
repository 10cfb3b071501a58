-- Only proofs and the contracts of private functions use this file.
-- Which patterns match a line of a text alike, by itself and where it stands.
use Rattle.std.specs.Prelude.{◌≡◌, ◌≢◌, ℕ, ◌<◌, ◌≤◌, Bool, false, true, IsTrue, List, All, length, Option, None, Some, is_some, slice_index, slice_range}
use Rattle.rc_text.specs.Found.{Found}
use Rattle.rc_text.specs.declared.types.MatchKind.TheVariants.{LeftmostFirst}
use Rattle.rc_pattern.specs.Re.{Re}
use Rattle.rc_pattern.specs.Properties.{has_look, is_zero, minimum_len}
use Rattle.rc_pattern.specs.WellFormed.{HasBounds}
use Rattle.rc_pattern.specs.declared.hir.Look.{Look}
use Rattle.rc_pattern.specs.declared.hir.Look.TheVariants.{Start, End, StartCRLF, EndCRLF}
use Rattle.rc_program.specs.Answer.{answer}
use Rattle.rc_program.specs.Sought.{Sought, search_for}
use Rattle.api_meta.specs.Views.{regex_kind, sought}
use Rattle.api_meta.specs.declared.regex.Regex.{Regex}
use Rattle.regex_cursor.specs.Output.{whole}
use Rattle.grep_lines.specs.Lines.{AreLinesOf}

-- A newline beside a position says the same to the assertion as that nothing stands there, where lines end at LF.
abbrev pub is_line_look : Look → Bool
is_line_look Start = false
is_line_look End = false
is_line_look StartCRLF = false
is_line_look EndCRLF = false
is_line_look l = true

-- each assertion in the pattern is such a one
abbrev pub HasLineLooks : Re → Type 0
HasLineLooks h = (l : Look) → IsTrue (has_look h l) → IsTrue (is_line_look l)

-- each assertion in the pattern is such a one, and it spells no empty text
pub record IsLocalPattern (h : Re) : Type 0 where
  pub looks : HasLineLooks h
  pub some : is_zero (minimum_len h) ≡ false

-- Each pattern that is sought is such a one, and lines end at LF.
pub record IsLocal (q : Sought) : Type 0 where
  pub bounded : All HasBounds q.patterns
  pub local : All IsLocalPattern q.patterns
  pub terminator : q.terminator ≡ 10

-- It seeks the preferred match of such patterns.
pub record IsLocalRegex (r : Regex) : Type 0 where
  pub kind : regex_kind r ≡ LeftmostFirst
  pub local : IsLocal (sought r)

-- where the match begins, or the end
abbrev pub start_or : ℕ → Option Found → ℕ
start_or end None = end
start_or end (Some m) = m.start

-- The first newline from a match's start on stands at the place, and the match lies before it.
pub record IsLineEndOf (text : List ℕ) (start end place : ℕ) : Type 0 where
  pub order : start ≤ place
  pub behind : end ≤ place
  pub within : place < length text
  pub ended : slice_index text place ≡ 10
  pub first : (k : ℕ) → start ≤ k → k < place → slice_index text k ≢ 10

-- It does so of a match that is there.
abbrev pub IsLineEnd : List ℕ → Option Found → ℕ → Type 0
IsLineEnd text None place = ⊥
IsLineEnd text (Some m) place = IsLineEndOf text m.start m.end place

-- no line of a text that ends before its first match has a match
abbrev pub LocalLaw : Type 0
LocalLaw = (q : Sought) (text : List ℕ) (start end : ℕ) → IsLocal q → length text < 18446744073709551616 → start ≤ end → AreLinesOf 10 text start end →
    end < start_or (length text) (answer (search_for q (whole text))) → is_some (answer (search_for q (whole (slice_range text start end)))) ≡ false
