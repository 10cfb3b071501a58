-- The settings of a reader of patterns.
use Rattle.std.specs.Prelude.{ℕ, Bool, true, false}
use Rattle.rc_parser.specs.declared.config.Config.{Config}
use Rattle.rc_parser.specs.declared.config.Grammar.{Grammar}
use Rattle.rc_parser.specs.declared.config.Grammar.TheVariants.{Stated}
use Rattle.rc_parser.specs.declared.flags.Flags.{Flags}

pub record Settings : Type 0 where
  pub grammar : Grammar
  pub unicode : Bool
  pub utf8 : Bool
  pub case_insensitive : Bool
  pub multi_line : Bool
  pub dot_matches_new_line : Bool
  pub crlf : Bool
  -- a byte
  pub line_terminator : ℕ
  pub swap_greed : Bool
  pub nest_limit : ℕ
  -- what only the full grammar heeds: the flag x at the start, octal escapes, and `{,n}` for `{0,n}`
  pub ignore_whitespace : Bool
  pub octal : Bool
  pub empty_min : Bool

abbrev pub default_settings : Settings
default_settings = record {
  grammar = Stated;
  unicode = true;
  utf8 = true;
  case_insensitive = false;
  multi_line = false;
  dot_matches_new_line = false;
  crlf = false;
  line_terminator = 10;
  swap_greed = false;
  nest_limit = 250;
  ignore_whitespace = false;
  octal = false;
  empty_min = false;
}

-- the settings that a `Config` holds
abbrev pub settings_of : Config → Settings
settings_of c = record {
  grammar = c.grammar;
  unicode = c.unicode;
  utf8 = c.utf8;
  case_insensitive = c.case_insensitive;
  multi_line = c.multi_line;
  dot_matches_new_line = c.dot_matches_new_line;
  crlf = c.crlf;
  line_terminator = c.line_terminator;
  swap_greed = c.swap_greed;
  nest_limit = c.nest_limit;
  ignore_whitespace = c.ignore_whitespace;
  octal = c.octal;
  empty_min = c.empty_min;
}

-- the flags with which a pattern begins
abbrev pub first_flags : Settings → Flags
first_flags s = record {
  case_insensitive = s.case_insensitive;
  multi_line = s.multi_line;
  dot_matches_new_line = s.dot_matches_new_line;
  crlf = s.crlf;
  swap_greed = s.swap_greed;
  unicode = s.unicode;
}
