-- What is searched of a text, and what can't be.
use Rattle.std.specs.Prelude.{ℕ, ◌+◌, ◌<◌, ◌≤◌, ◌^◌, List, false, if◌then◌else◌, IsUtf8, length, min}
use Rattle.std.specs.Borrow.{Bor}
use Rattle.rc_text.specs.Joined.{IsTooLong, chunk_at, joined}
use Rattle.rc_text.specs.Text.{Searched}
use Rattle.rc_text.specs.declared.types.Anchored.{Anchored}
use Rattle.rc_text.specs.declared.types.Anchored.TheVariants.{No, Yes}
use Rattle.searcher.specs.Flags.{is_on}
use Rattle.searcher.specs.declared.answers.Bounds.{Bounds}
use Rattle.searcher.specs.declared.answers.Fault.{Fault}
use Rattle.searcher.specs.declared.answers.Fault.TheVariants.{Outside, TooLong}
use Rattle.searcher.specs.declared.answers.Refusal.{Refusal}
use Rattle.searcher.specs.declared.answers.Refusal.TheVariants.{Build, Memory, NoKind, NotUtf8, TooMany}

-- the whole text in one chunk, searched from `start` to `end`, or to the text's end where that comes first
abbrev pub in_range : List ℕ → ℕ → ℕ → Searched
in_range text start end = record {
  content = text;
  chunk = text;
  offset = 0;
  position = 0;
  span = record { start = start; end = end };
  slice = record { start = 0; end = 18446744073709551615 };
  anchored = No;
  earliest = false;
}

-- the same, where a match has to begin at `start`
abbrev pub at_start : List ℕ → ℕ → ℕ → Searched
at_start text start end = record (in_range text start end) { anchored = Yes }

-- how a search with this flag is anchored
abbrev pub anchoring : ℕ → Anchored
anchoring flag = if is_on flag then Yes else No

-- the text within bounds
abbrev pub in_bounds : List ℕ → Bounds → Searched
in_bounds text b = record (in_range text b.start b.end) { anchored = anchoring b.anchored }

-- the range begins where the text has a place for it, and not behind its end
abbrev pub IsInside : List (Bor (List ℕ)) → ℕ → ℕ → Type 0
IsInside chunks start end = start ≤ min end (length (joined chunks))

-- A search gives no answer: the range begins behind its end or the text's, or else the chunks are too long.
abbrev pub IsFault : List (Bor (List ℕ)) → ℕ → ℕ → Fault → Type 0
IsFault chunks start end TooLong = IsTooLong chunks × IsInside chunks start end
IsFault chunks start end Outside = min end (length (joined chunks)) < start

-- neither of them applies
pub record IsServed (chunks : List (Bor (List ℕ))) (start end : ℕ) : Type 0 where
  pub fits : length (joined chunks) + 1 < 2 ^ 64
  pub inside : IsInside chunks start end

-- each text is UTF-8
abbrev pub AreTexts : List (Bor (List ℕ)) → Type 0
AreTexts texts = (k : ℕ) → k < length texts → IsUtf8 (chunk_at texts k)

-- the text with this number isn't UTF-8, and those before it are
pub record IsBroken (texts : List (Bor (List ℕ))) (p : ℕ) : Type 0 where
  pub before : (k : ℕ) → k < p → IsUtf8 (chunk_at texts k)
  pub here : ¬ IsUtf8 (chunk_at texts p)

-- some of these bytes are no text, or memory was refused
abbrev pub IsNotText : List (Bor (List ℕ)) → Refusal → Type 0
IsNotText texts NoKind = ⊥
IsNotText texts TooMany = ⊥
IsNotText texts (NotUtf8 p) = IsBroken texts p
IsNotText texts (Build e) = ⊥
IsNotText texts Memory = Unit {0}
