-- By which grammar patterns are read.
use Rattle.std.specs.Prelude.{Bool, false, true}
use Rattle.rc_parser.specs.Settings.{Settings, default_settings}
use Rattle.rc_parser.specs.declared.config.Grammar.{Grammar}
use Rattle.rc_parser.specs.declared.config.Grammar.TheVariants.{Full, Stated}

-- the full grammar, unless the stated one is asked for
abbrev pub grammar_of : (is_stated : Bool) → Grammar
grammar_of true = Stated
grammar_of false = Full

abbrev pub syntax_settings : (is_stated folds_case by_line : Bool) → Settings
syntax_settings is_stated folds_case by_line =
    record default_settings { grammar = grammar_of is_stated; case_insensitive = folds_case; multi_line = by_line }
