-- Which refusals of a build apply: those of the patterns' program, and behind them that the capacity is too small.
use Rattle.std.specs.Prelude.{ℕ, List, unwrap_or}
use Rattle.rc_pattern.specs.Re.{Re}
use Rattle.rc_parser.specs.Settings.{Settings as SyntaxSettings}
use Rattle.rc_settings.specs.SearchSettings.{match_kind_of}
use Rattle.rc_settings.specs.StateSettings.{StateSettings, byte_classes_of, no_state_setting}
use Rattle.rc_settings.specs.Thompson.{Settings, nfa_size_limit_of}
use Rattle.rc_settings.specs.declared.error.BuildError.{BuildError}
use Rattle.rc_settings.specs.declared.error.BuildError.TheVariants.{CacheTooSmall}
use Rattle.rc_build.specs.Fits.{sought_by}
use Rattle.rc_build.specs.Refusals.{IsBuildable, IsRefusal, limit_by}
use Rattle.rc_build.specs.TextRefusals.{AllRead, IsTextRefusal}
use Rattle.api_hybrid.specs.Makes.{HasCapacity, IsTooSmall}
use Rattle.api_hybrid.specs.Views.{sought, regex_kind}
use Rattle.api_hybrid.specs.declared.regex.Regex.{Regex}

-- nothing is set
abbrev pub no_capacity_set : StateSettings ℕ
no_capacity_set = no_state_setting ℕ

-- how many bytes the states of each direction may weigh
abbrev pub cache_capacity_of : StateSettings ℕ → ℕ
cache_capacity_of s = unwrap_or s.limit 2097152

-- The refusal is the first one that applies to the patterns. Want of memory may come at any time.
abbrev pub IsHybridRefusal : Settings → StateSettings ℕ → SyntaxSettings → List Re → BuildError → Type 0
IsHybridRefusal program states syntax hs (CacheTooSmall m n) =
    IsBuildable (limit_by (nfa_size_limit_of program) syntax) hs
    × IsTooSmall (sought_by program hs) (match_kind_of states.search) (byte_classes_of states) (cache_capacity_of states) m n
IsHybridRefusal program states syntax hs e = IsRefusal (limit_by (nfa_size_limit_of program) syntax) hs e

-- The refusal is the first one that applies to the texts. Want of memory may come at any time.
abbrev pub IsHybridTextRefusal : Settings → StateSettings ℕ → SyntaxSettings → List (List ℕ) → BuildError → Type 0
IsHybridTextRefusal program states syntax texts (CacheTooSmall m n) =
    (hs : List Re) × AllRead syntax texts hs × IsHybridRefusal program states syntax hs (CacheTooSmall m n)
IsHybridTextRefusal program states syntax texts e = IsTextRefusal (nfa_size_limit_of program) syntax texts e

-- what was built has the capacity that is set, and that serves, by the classes that are set
abbrev pub IsWithinCapacity : StateSettings ℕ → Regex → Type 0
IsWithinCapacity states re = HasCapacity (sought re) (regex_kind re) (byte_classes_of states) (cache_capacity_of states) re.lazy
