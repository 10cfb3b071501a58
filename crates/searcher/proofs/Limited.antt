-- The limit on the size of patterns, as settings set it.
use Rattle.std.proofs.Common.{◌≡◌, ℕ, Option, Some, None, refl}
use Rattle.std.specs.Prelude.{option_map, unwrap_or}
use Rattle.rc_text.specs.declared.types.MatchKind.{MatchKind}
use Rattle.rc_settings.specs.Settings.{nfa_size_limit_of}
use Rattle.searcher.specs.Flags.{search_settings, size_limit_in, unless_zero}
use Rattle.searcher.specs.declared.settings.Settings.{Settings}

unwrapped : (o : Option ℕ) (d : ℕ) → unwrap_or (option_map (λ n. Some n) o) (Some d) ≡ Some (unwrap_or o d)
unwrapped None d = refl
unwrapped (Some n) d = refl

-- it is the one that is set, or else the default
pub limit_is : (s : Settings) (kind : MatchKind) → nfa_size_limit_of (search_settings s kind) ≡ Some (size_limit_in s)
limit_is s kind = unwrapped (unless_zero s.size_limit) 10485760
