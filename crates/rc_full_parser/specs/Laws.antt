-- Only proofs use this file.
-- What holds of all that the full grammar reads.
use Rattle.std.specs.Prelude.{◌≡◌, ◌↔◌, ◌<◌, ℕ, Bool, true, false, not, ◌&&◌, ◌==◌, List, [], ◌∷◌, Option, Some, None}
use Rattle.rc_pattern.specs.Re.{Re}
use Rattle.rc_pattern.specs.WellFormed.{IsWellFormed}
use Rattle.rc_tokens.specs.Text.{Characters, each}
use Rattle.rc_tokens.specs.Marks as stated
use Rattle.rc_tokens.specs.Marks.{Mark, stands, bar, setting, opens, closes, repeats, escape_says}
use Rattle.rc_tokens.specs.declared.tokens.Escape.{Escape}
use Rattle.rc_tokens.specs.declared.tokens.Escape.TheVariants as says
use Rattle.rc_parser.specs.Settings.{Settings}
use Rattle.rc_parser.specs.Grammar as parser
use Rattle.rc_full_parser.specs.Grammar.{Reads}
use Rattle.rc_full_parser.specs.Machine.{start, Leads}

-- no text is read as two patterns
abbrev pub PatternsInOneWay : Type 0
PatternsInOneWay = (s : Settings) (text : Characters) (a b : Re) → Reads s text a → Reads s text b → a ≡ b

-- A text is read as the pattern to which its marks lead.
abbrev pub PatternsByMarks : Type 0
PatternsByMarks = (s : Settings) (text : Characters) (re : Re) → Reads s text re
    ↔ ((depth : ℕ) × Leads s (start s) text (record { re = re; depth = depth }))

-- what is read is well-formed, where the line terminator is a byte
abbrev pub PatternsAreWellFormed : Type 0
PatternsAreWellFormed = (s : Settings) (text : Characters) (re : Re) → s.line_terminator < 256 → Reads s text re → IsWellFormed re

-- ---- what both grammars read alike

abbrev pub is_no_class : Option Escape → Bool
is_no_class None = true
is_no_class (Some (says.Character c)) = true
is_no_class (Some (says.Byte b)) = true
is_no_class (Some (says.Perl p)) = false
is_no_class (Some (says.Assertion a)) = true

-- i isn't among the flags
abbrev pub keeps_case : Characters → Bool
keeps_case f = each (λ c. not (c == 105)) f

-- the atom of a list is no Perl class
abbrev pub is_plain : stated.Atom → Bool
is_plain (stated.plain c) = true
is_plain (stated.escaped e) = is_no_class (escape_says e)

abbrev pub are_plain : List stated.Atom → Bool
are_plain [] = true
are_plain (x ∷ xs) = is_plain x && are_plain xs

-- the mark is no Perl class and has none, and neither sets nor clears the flag i
abbrev pub is_shared : Mark → Bool
is_shared (stands (stated.character c)) = true
is_shared (stands stated.dot) = true
is_shared (stands stated.caret) = true
is_shared (stands stated.dollar) = true
is_shared (stands (stated.escape e)) = is_no_class (escape_says e)
is_shared (stands (stated.brackets negated bracket xs)) = are_plain xs
is_shared bar = true
is_shared (setting f) = keeps_case f
is_shared (opens stated.capturing) = true
is_shared (opens (stated.naming p name)) = true
is_shared (opens (stated.flagging f)) = keeps_case f
is_shared closes = true
is_shared (repeats o) = true

abbrev pub AreShared : List Mark → Type 0
AreShared [] = Unit {0}
AreShared (m ∷ ms) = (is_shared m ≡ true) × AreShared ms

-- A text that both grammars read, and that has no Perl class and no flag i or x, both read alike.
abbrev pub SharedPatternsAlike : Type 0
SharedPatternsAlike = (s : Settings) (text : Characters) (a b : Re) → s.ignore_whitespace ≡ false → s.case_insensitive ≡ false →
    (r : parser.Reads s text a) → AreShared (parser.marks r.body) → Reads s text b → a ≡ b
