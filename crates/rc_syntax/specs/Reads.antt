-- What the text of a pattern is read as, by the grammar that is set.
use Rattle.rc_pattern.specs.Re.{Re}
use Rattle.rc_tokens.specs.Text.{Characters}
use Rattle.rc_parser.specs.Settings.{Settings}
use Rattle.rc_parser.specs.Grammar as stated
use Rattle.rc_parser.specs.declared.config.Grammar.{Grammar}
use Rattle.rc_parser.specs.declared.config.Grammar.TheVariants.{Stated, Full}
use Rattle.rc_full_parser.specs.Grammar as full

abbrev pub ReadsBy : Grammar → Settings → Characters → Re → Type 0
ReadsBy Stated s text re = stated.Reads s text re
ReadsBy Full s text re = full.Reads s text re

-- The text is read as `re` by the grammar of the settings.
abbrev pub Reads : Settings → Characters → Re → Type 0
Reads s text re = ReadsBy s.grammar s text re
