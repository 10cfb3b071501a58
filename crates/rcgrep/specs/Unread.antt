-- Why texts weren't read as patterns.
use Rattle.std.specs.Prelude.{ℕ, List}
use Rattle.rc_pattern.specs.declared.syntax.Error.{Error}
use Rattle.rc_parser.specs.Settings.{Settings}
use Rattle.rc_build.specs.TextRefusals.{IsFirstUnread}
use Rattle.rcgrep.specs.declared.patterns.Unread.{Unread}
use Rattle.rcgrep.specs.declared.patterns.Unread.TheVariants.{Memory, Text}

-- the text with this number is the first from which no pattern is read, or memory was refused
abbrev pub IsUnread : Settings → List (List ℕ) → Unread → Type 0
IsUnread s texts (Text p) = (e : Error) × IsFirstUnread s texts p e
IsUnread s texts Memory = Unit {0}
