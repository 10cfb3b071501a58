-- What holds of all that is read, by either grammar.
use Rattle.std.specs.Prelude.{◌≡◌, ◌↔◌, ◌<◌}
use Rattle.rc_pattern.specs.Re.{Re}
use Rattle.rc_pattern.specs.WellFormed.{IsWellFormed}
use Rattle.rc_tokens.specs.Text.{Characters}
use Rattle.rc_parser.specs.Settings.{Settings}
use Rattle.rc_parser.specs.Grammar as stated
use Rattle.rc_parser.specs.declared.config.Grammar.TheVariants.{Stated}
use Rattle.rc_syntax.specs.Reads.{Reads}

-- No text is read as two patterns.
abbrev pub OneLaw : Type 0
OneLaw = (s : Settings) (text : Characters) (a b : Re) → Reads s text a → Reads s text b → a ≡ b

-- what is read is well-formed, where the line terminator is a byte
abbrev pub WellFormedLaw : Type 0
WellFormedLaw = (s : Settings) (text : Characters) (re : Re) → s.line_terminator < 256 → Reads s text re → IsWellFormed re

-- with the stated grammar set, what is read is what that grammar reads
abbrev pub StatedLaw : Type 0
StatedLaw = (s : Settings) (text : Characters) (re : Re) → s.grammar ≡ Stated → Reads s text re ↔ stated.Reads s text re
