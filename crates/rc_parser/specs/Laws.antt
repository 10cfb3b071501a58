-- What holds of all that is read.
use Rattle.std.specs.Prelude.{◌≡◌, ◌<◌, ℕ, Bool, true, not, encode_utf8_all}
use Rattle.rc_pattern.specs.Re.{Re}
use Rattle.rc_pattern.specs.Meaning.{literal_of}
use Rattle.rc_pattern.specs.WellFormed.{IsWellFormed}
use Rattle.rc_tokens.specs.Text.{Characters, each}
use Rattle.rc_tokens.specs.Marks.{is_special}
use Rattle.rc_parser.specs.Settings.{Settings, default_settings}
use Rattle.rc_parser.specs.Grammar.{Reads}

-- No text is read as two patterns.
abbrev pub OneLaw : Type 0
OneLaw = (s : Settings) (text : Characters) (a b : Re) → Reads s text a → Reads s text b → a ≡ b

-- what is read is well-formed, where the line terminator is a byte
abbrev pub WellFormedLaw : Type 0
WellFormedLaw = (s : Settings) (text : Characters) (re : Re) → s.line_terminator < 256 → Reads s text re → IsWellFormed re

-- the character is none of `\.+*?()|[{^$`
abbrev pub is_ordinary : ℕ → Bool
is_ordinary c = not (is_special c)

-- a text without special characters is read as its UTF-8 bytes
abbrev pub PlainLaw : Type 0
PlainLaw = (text : Characters) → each is_ordinary text ≡ true → Reads default_settings text (literal_of (encode_utf8_all text))
