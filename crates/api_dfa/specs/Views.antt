-- What is built and what builds, as contracts see them.
use Rattle.std.specs.Prelude.{ℕ, List, Option, map}
use Rattle.rc_text.specs.declared.types.MatchKind.{MatchKind}
use Rattle.rc_pattern.specs.Re.{Re}
use Rattle.rc_pattern.specs.Meaning.{meaning}
use Rattle.rc_program.specs.Sought.{Sought}
use Rattle.rc_parser.specs.Settings.{Settings as SyntaxSettings, settings_of as syntax_of}
use Rattle.rc_settings.specs.SearchSettings.{SearchSettings, search_settings_of, match_kind_of}
use Rattle.rc_settings.specs.StateSettings.{StateSettings, state_settings_of}
use Rattle.rc_settings.specs.Thompson.{Settings, settings_of}
use Rattle.rc_build.specs.Fits.{sought_by}
use Rattle.api_dfa.specs.declared.dfa.DFA.{DFA}
use Rattle.api_dfa.specs.declared.regex.Regex.{Regex}
use Rattle.api_dfa.specs.declared.builder.Builder.{Builder}

-- the patterns of which it was built, the settings of its program and of its searches
abbrev pub dfa_patterns : DFA → List Re
dfa_patterns d = map meaning d.hirs.items

abbrev pub dfa_program : DFA → Settings
dfa_program d = settings_of d.thompson

abbrev pub dfa_settings : DFA → SearchSettings
dfa_settings d = search_settings_of d.config

-- the kind of match that its tables find
abbrev pub dfa_kind : DFA → MatchKind
dfa_kind d = match_kind_of (dfa_settings d)

-- what it seeks
abbrev pub sought : DFA → Sought
sought d = sought_by (dfa_program d) (dfa_patterns d)

-- the DFA by which a regex searches
abbrev pub dfa_of : Regex → DFA
dfa_of re = re.dfa

abbrev pub builder_settings : Builder → StateSettings (Option ℕ)
builder_settings b = state_settings_of b.config

abbrev pub builder_program : Builder → Settings
builder_program b = settings_of b.thompson

-- the settings by which a builder reads text
abbrev pub builder_syntax : Builder → SyntaxSettings
builder_syntax b = syntax_of b.syntax
