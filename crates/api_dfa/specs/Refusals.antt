-- Which refusals of a build apply: those of the patterns' program, and behind them that its tables are too big.
use Rattle.std.specs.Prelude.{◌≡◌, ℕ, List, Option, Some, None, unwrap_or}
use Rattle.rc_pattern.specs.Re.{Re}
use Rattle.rc_parser.specs.Settings.{Settings as SyntaxSettings}
use Rattle.rc_settings.specs.SearchSettings.{match_kind_of}
use Rattle.rc_settings.specs.StateSettings.{StateSettings, byte_classes_of, no_state_setting}
use Rattle.rc_settings.specs.Thompson.{Settings, nfa_size_limit_of}
use Rattle.rc_settings.specs.declared.error.BuildError.{BuildError}
use Rattle.rc_settings.specs.declared.error.BuildError.TheVariants.{DfaSizeLimit}
use Rattle.rc_build.specs.Fits.{sought_by}
use Rattle.rc_build.specs.Refusals.{IsBuildable, IsRefusal, limit_by}
use Rattle.rc_build.specs.TextRefusals.{AllRead, IsTextRefusal}
use Rattle.api_dfa.specs.Tables.{AreLight, IsTooBig}
use Rattle.api_dfa.specs.Views.{dfa_of, sought, dfa_kind}
use Rattle.api_dfa.specs.declared.regex.Regex.{Regex}

-- nothing is set
abbrev pub no_limit_set : StateSettings (Option ℕ)
no_limit_set = no_state_setting (Option ℕ)

-- how many bytes the states of each direction may weigh; `None` limits nothing
abbrev pub dfa_size_limit_of : StateSettings (Option ℕ) → Option ℕ
dfa_size_limit_of s = unwrap_or s.limit None

-- the tables of the patterns are too big for the limit that is set
abbrev pub AreTooBig : Settings → StateSettings (Option ℕ) → List Re → ℕ → Type 0
AreTooBig program states hs n =
    (dfa_size_limit_of states ≡ Some n) × IsTooBig (sought_by program hs) (match_kind_of states.search) (byte_classes_of states) n

-- The refusal is the first one that applies to the patterns. Want of memory may come at any time.
abbrev pub IsDfaRefusal : Settings → StateSettings (Option ℕ) → SyntaxSettings → List Re → BuildError → Type 0
IsDfaRefusal program states syntax hs (DfaSizeLimit n) =
    IsBuildable (limit_by (nfa_size_limit_of program) syntax) hs × AreTooBig program states hs n
IsDfaRefusal program states syntax hs e = IsRefusal (limit_by (nfa_size_limit_of program) syntax) hs e

-- The refusal is the first one that applies to the texts. Want of memory may come at any time.
abbrev pub IsDfaTextRefusal : Settings → StateSettings (Option ℕ) → SyntaxSettings → List (List ℕ) → BuildError → Type 0
IsDfaTextRefusal program states syntax texts (DfaSizeLimit n) =
    (hs : List Re) × AllRead syntax texts hs × IsDfaRefusal program states syntax hs (DfaSizeLimit n)
IsDfaTextRefusal program states syntax texts e = IsTextRefusal (nfa_size_limit_of program) syntax texts e

-- each direction of what was built is within the limit, by the classes that are set
abbrev pub IsWithinLimit : StateSettings (Option ℕ) → Regex → Type 0
IsWithinLimit states re = AreLight (sought (dfa_of re)) (dfa_kind (dfa_of re)) (byte_classes_of states) (dfa_size_limit_of states) (dfa_of re).tables
