-- What is built and what builds, as contracts see them.
use Rattle.std.specs.Prelude.{ℕ, List, map}
use Rattle.rc_text.specs.declared.types.MatchKind.{MatchKind}
use Rattle.rc_pattern.specs.Re.{Re}
use Rattle.rc_pattern.specs.Meaning.{meaning}
use Rattle.rc_program.specs.Sought.{Sought}
use Rattle.rc_lazy_dfa.specs.Caches as caches
use Rattle.rc_parser.specs.Settings.{Settings as SyntaxSettings, settings_of as syntax_of}
use Rattle.rc_settings.specs.SearchSettings.{SearchSettings, search_settings_of, match_kind_of}
use Rattle.rc_settings.specs.StateSettings.{StateSettings, state_settings_of}
use Rattle.rc_settings.specs.Thompson.{Settings, settings_of}
use Rattle.rc_build.specs.Fits.{sought_by}
use Rattle.api_hybrid.specs.declared.regex.Regex.{Regex}
use Rattle.api_hybrid.specs.declared.builder.Builder.{Builder}

-- the patterns of which it was built, the settings of its program and of its searches
abbrev pub regex_patterns : Regex → List Re
regex_patterns re = map meaning re.hirs.items

abbrev pub regex_program : Regex → Settings
regex_program re = settings_of re.thompson

abbrev pub regex_settings : Regex → SearchSettings
regex_settings re = search_settings_of re.config

-- the kind of match that its searches find
abbrev pub regex_kind : Regex → MatchKind
regex_kind re = match_kind_of (regex_settings re)

-- what it seeks
abbrev pub sought : Regex → Sought
sought re = sought_by (regex_program re) (regex_patterns re)

-- the least capacity that serves, in bytes for each direction
abbrev pub least_of : Regex → ℕ
least_of re = caches.least_of re.lazy.automaton

abbrev pub builder_settings : Builder → StateSettings ℕ
builder_settings b = state_settings_of b.config

abbrev pub builder_program : Builder → Settings
builder_program b = settings_of b.thompson

-- the settings by which a builder reads text
abbrev pub builder_syntax : Builder → SyntaxSettings
builder_syntax b = syntax_of b.syntax
