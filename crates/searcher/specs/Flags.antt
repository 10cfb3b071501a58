-- What settings set.
use Rattle.std.specs.Prelude.{ℕ, Bool, not, Option, Some, None, if◌then◌else◌, nat_eq, option_map, unwrap_or}
use Rattle.rc_text.specs.declared.types.MatchKind.{MatchKind}
use Rattle.rc_text.specs.declared.types.MatchKind.TheVariants.{All as all_matches, LeftmostFirst as leftmost_first, LeftmostLongest as leftmost_longest}
use Rattle.rc_parser.specs.Settings as syntax
use Rattle.rc_parser.specs.declared.config.Grammar.TheVariants.{Full, Stated}
use Rattle.rc_settings.specs.Settings as search
use Rattle.searcher.specs.declared.settings.Settings.{Settings}

-- the flag is on
abbrev pub is_on : ℕ → Bool
is_on flag = not (nat_eq flag 0)

-- how patterns are read
abbrev pub syntax_settings : Settings → syntax.Settings
syntax_settings s = record syntax.default_settings {
  grammar = if is_on s.full then Full else Stated;
  unicode = not (is_on s.bytes);
  utf8 = not (is_on s.any_bytes);
  case_insensitive = is_on s.case_insensitive;
  multi_line = is_on s.multi_line;
  dot_matches_new_line = is_on s.dot_matches_new_line;
  crlf = is_on s.crlf;
  swap_greed = is_on s.swap_greed;
}

-- the kind of match with this number
abbrev pub kind_of : ℕ → Option MatchKind
kind_of number =
    if nat_eq number 0 then Some leftmost_first
    else if nat_eq number 1 then Some all_matches
    else if nat_eq number 2 then Some leftmost_longest
    else None

-- a number that is set, where it isn't 0
abbrev pub unless_zero : ℕ → Option ℕ
unless_zero n = if nat_eq n 0 then None else Some n

-- the limit on the size of the patterns
abbrev pub size_limit_in : Settings → ℕ
size_limit_in s = unwrap_or (unless_zero s.size_limit) 10485760

-- which matches are sought, of a kind, and within which limits
abbrev pub search_settings : Settings → MatchKind → search.Settings
search_settings s kind = record search.unset {
  match_kind = Some kind;
  utf8_empty = Some (not (is_on s.split_characters));
  nfa_size_limit = option_map (λ n. Some n) (unless_zero s.size_limit);
  hybrid_cache_capacity = unless_zero s.cache_capacity;
}
