-- The settings of a program: what was set, else the default.
use Rattle.std.specs.Prelude.{ℕ, Bool, true, Option, None, unwrap_or}
use Rattle.std.specs.Option.{option_or}
use Rattle.rc_settings.specs.declared.which.WhichCaptures.{WhichCaptures}
use Rattle.rc_settings.specs.declared.which.WhichCaptures.TheVariants.{All}
use Rattle.rc_settings.specs.declared.thompson.Config.{Config}

-- what was set
pub record Settings : Type 0 where
  pub utf8 : Option Bool
  pub nfa_size_limit : Option (Option ℕ)
  pub which_captures : Option WhichCaptures
  pub line_terminator : Option ℕ

abbrev pub settings_of : Config → Settings
settings_of c = record {
  utf8 = c.utf8;
  nfa_size_limit = c.nfa_size_limit;
  which_captures = c.which_captures;
  line_terminator = c.line_terminator;
}

-- nothing is set
abbrev pub unset : Settings
unset = record { utf8 = None; nfa_size_limit = None; which_captures = None; line_terminator = None }

-- the old settings, but for those that the new ones set
abbrev pub overwritten : Settings → Settings → Settings
overwritten old new = record {
  utf8 = option_or new.utf8 old.utf8;
  nfa_size_limit = option_or new.nfa_size_limit old.nfa_size_limit;
  which_captures = option_or new.which_captures old.which_captures;
  line_terminator = option_or new.line_terminator old.line_terminator;
}

abbrev pub utf8_of : Settings → Bool
utf8_of s = unwrap_or s.utf8 true

abbrev pub nfa_size_limit_of : Settings → Option ℕ
nfa_size_limit_of s = unwrap_or s.nfa_size_limit None

abbrev pub which_captures_of : Settings → WhichCaptures
which_captures_of s = unwrap_or s.which_captures All

abbrev pub line_terminator_of : Settings → ℕ
line_terminator_of s = unwrap_or s.line_terminator 10
