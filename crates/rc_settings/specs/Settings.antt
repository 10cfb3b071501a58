-- The settings of a build: what was set, else the default.
use Rattle.std.specs.Prelude.{ℕ, Bool, true, List, Option, Some, None, option_map, unwrap_or}
use Rattle.std.specs.Option.{option_or}
use Rattle.rc_text.specs.declared.types.MatchKind.{MatchKind}
use Rattle.rc_text.specs.declared.types.MatchKind.TheVariants.{LeftmostFirst}
use Rattle.rc_needles.specs.Prefilters.{needles_of}
use Rattle.rc_settings.specs.declared.which.WhichCaptures.{WhichCaptures}
use Rattle.rc_settings.specs.declared.which.WhichCaptures.TheVariants.{All}
use Rattle.rc_settings.specs.declared.meta.Config.{Config}
use Rattle.rc_settings.specs.Thompson.{Settings as ProgramSettings}

-- what was set
pub record Settings : Type 0 where
  pub match_kind : Option MatchKind
  pub utf8_empty : Option Bool
  pub auto_prefilter : Option Bool
  -- the needles of a prefilter
  pub prefilter : Option (Option (List (List ℕ)))
  pub which_captures : Option WhichCaptures
  pub nfa_size_limit : Option (Option ℕ)
  pub onepass_size_limit : Option (Option ℕ)
  pub hybrid_cache_capacity : Option ℕ
  pub hybrid : Option Bool
  pub dfa : Option Bool
  pub dfa_size_limit : Option (Option ℕ)
  pub dfa_state_limit : Option (Option ℕ)
  pub byte_classes : Option Bool
  pub unicode_words : Option Bool
  pub backtrack : Option Bool
  pub line_terminator : Option ℕ

abbrev pub settings_of : Config → Settings
settings_of c = record {
  match_kind = c.match_kind;
  utf8_empty = c.utf8_empty;
  auto_prefilter = c.auto_prefilter;
  prefilter = option_map (λ p. option_map needles_of p) c.prefilter;
  which_captures = c.which_captures;
  nfa_size_limit = c.nfa_size_limit;
  onepass_size_limit = c.onepass_size_limit;
  hybrid_cache_capacity = c.hybrid_cache_capacity;
  hybrid = c.hybrid;
  dfa = c.dfa;
  dfa_size_limit = c.dfa_size_limit;
  dfa_state_limit = c.dfa_state_limit;
  byte_classes = c.byte_classes;
  unicode_words = c.unicode_words;
  backtrack = c.backtrack;
  line_terminator = c.line_terminator;
}

-- nothing is set
abbrev pub unset : Settings
unset = record {
  match_kind = None;
  utf8_empty = None;
  auto_prefilter = None;
  prefilter = None;
  which_captures = None;
  nfa_size_limit = None;
  onepass_size_limit = None;
  hybrid_cache_capacity = None;
  hybrid = None;
  dfa = None;
  dfa_size_limit = None;
  dfa_state_limit = None;
  byte_classes = None;
  unicode_words = None;
  backtrack = None;
  line_terminator = None;
}

-- the old settings, but for those that the new ones set
abbrev pub overwritten : Settings → Settings → Settings
overwritten old new = record {
  match_kind = option_or new.match_kind old.match_kind;
  utf8_empty = option_or new.utf8_empty old.utf8_empty;
  auto_prefilter = option_or new.auto_prefilter old.auto_prefilter;
  prefilter = option_or new.prefilter old.prefilter;
  which_captures = option_or new.which_captures old.which_captures;
  nfa_size_limit = option_or new.nfa_size_limit old.nfa_size_limit;
  onepass_size_limit = option_or new.onepass_size_limit old.onepass_size_limit;
  hybrid_cache_capacity = option_or new.hybrid_cache_capacity old.hybrid_cache_capacity;
  hybrid = option_or new.hybrid old.hybrid;
  dfa = option_or new.dfa old.dfa;
  dfa_size_limit = option_or new.dfa_size_limit old.dfa_size_limit;
  dfa_state_limit = option_or new.dfa_state_limit old.dfa_state_limit;
  byte_classes = option_or new.byte_classes old.byte_classes;
  unicode_words = option_or new.unicode_words old.unicode_words;
  backtrack = option_or new.backtrack old.backtrack;
  line_terminator = option_or new.line_terminator old.line_terminator;
}

abbrev pub match_kind_of : Settings → MatchKind
match_kind_of s = unwrap_or s.match_kind LeftmostFirst

abbrev pub utf8_empty_of : Settings → Bool
utf8_empty_of s = unwrap_or s.utf8_empty true

abbrev pub auto_prefilter_of : Settings → Bool
auto_prefilter_of s = unwrap_or s.auto_prefilter true

abbrev pub prefilter_of : Settings → Option (List (List ℕ))
prefilter_of s = unwrap_or s.prefilter None

abbrev pub which_captures_of : Settings → WhichCaptures
which_captures_of s = unwrap_or s.which_captures All

abbrev pub nfa_size_limit_of : Settings → Option ℕ
nfa_size_limit_of s = unwrap_or s.nfa_size_limit (Some 10485760)

abbrev pub hybrid_cache_capacity_of : Settings → ℕ
hybrid_cache_capacity_of s = unwrap_or s.hybrid_cache_capacity 2097152

abbrev pub hybrid_of : Settings → Bool
hybrid_of s = unwrap_or s.hybrid true

abbrev pub dfa_of : Settings → Bool
dfa_of s = unwrap_or s.dfa true

abbrev pub dfa_size_limit_of : Settings → Option ℕ
dfa_size_limit_of s = unwrap_or s.dfa_size_limit (Some 40960)

abbrev pub dfa_state_limit_of : Settings → Option ℕ
dfa_state_limit_of s = unwrap_or s.dfa_state_limit (Some 30)

abbrev pub byte_classes_of : Settings → Bool
byte_classes_of s = unwrap_or s.byte_classes true

abbrev pub unicode_words_of : Settings → Bool
unicode_words_of s = unwrap_or s.unicode_words true

abbrev pub line_terminator_of : Settings → ℕ
line_terminator_of s = unwrap_or s.line_terminator 10

-- the settings of its program, each of which is set
abbrev pub program_settings : Settings → ProgramSettings
program_settings s = record {
  utf8 = Some (utf8_empty_of s);
  nfa_size_limit = Some (nfa_size_limit_of s);
  which_captures = Some (which_captures_of s);
  line_terminator = Some (line_terminator_of s);
}
