-- A regex and a builder as contracts see them.
use Rattle.std.specs.Prelude.{List, map}
use Rattle.rc_pattern.specs.Re.{Re}
use Rattle.rc_pattern.specs.Meaning.{meaning}
use Rattle.rc_text.specs.declared.types.MatchKind.{MatchKind}
use Rattle.rc_captures.specs.Names.{Names}
use Rattle.rc_program.specs.Sought.{Sought}
use Rattle.rc_settings.specs.Which.{is_grouped}
use Rattle.rc_build.specs.Names.{names_shown}
use Rattle.rc_settings.specs.Settings.{Settings, match_kind_of, program_settings, settings_of, which_captures_of}
use Rattle.rc_parser.specs.Settings.{Settings as SyntaxSettings, settings_of as syntax_of}
use Rattle.rc_build.specs.Fits.{sought_by}
use Rattle.api_meta.specs.declared.regex.Regex.{Regex}
use Rattle.api_meta.specs.declared.builder.Builder.{Builder}

-- the patterns that the regex was built of, and its settings
abbrev pub regex_patterns : Regex → List Re
regex_patterns r = map meaning r.hirs.items

abbrev pub regex_settings : Regex → Settings
regex_settings r = settings_of r.config

-- the kind of match that its searches find
abbrev pub regex_kind : Regex → MatchKind
regex_kind r = match_kind_of (regex_settings r)

-- what it seeks
abbrev pub sought : Regex → Sought
sought r = sought_by (program_settings (regex_settings r)) (regex_patterns r)

-- for each pattern the names of its groups that are kept, in order
abbrev pub regex_names : Regex → Names
regex_names r = names_shown (is_grouped (which_captures_of (regex_settings r))) (regex_patterns r)

abbrev pub builder_settings : Builder → Settings
builder_settings b = settings_of b.config

-- the settings by which a builder reads text
abbrev pub builder_syntax : Builder → SyntaxSettings
builder_syntax b = syntax_of b.syntax
