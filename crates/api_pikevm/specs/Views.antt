-- What is built and what builds, as contracts see them.
use Rattle.std.specs.Prelude.{ℕ, List, Option, length, map}
use Rattle.rc_pattern.specs.Re.{Re}
use Rattle.rc_pattern.specs.Meaning.{meaning}
use Rattle.rc_captures.specs.Names.{Names}
use Rattle.rc_program.specs.Program.{program, shown}
use Rattle.rc_program.specs.Sought.{Sought}
use Rattle.rc_pikevm_search.specs.Choices.{guarding}
use Rattle.rc_settings.specs.Which.{is_grouped}
use Rattle.rc_build.specs.Names.{names_shown}
use Rattle.rc_parser.specs.Settings.{Settings as SyntaxSettings, settings_of as syntax_of}
use Rattle.rc_settings.specs.SearchSettings.{SearchSettings, search_settings_of}
use Rattle.rc_build.specs.Fits.{sought_by}
use Rattle.rc_settings.specs.Thompson.{Settings, settings_of, which_captures_of}
use Rattle.api_pikevm.specs.declared.vm.PikeVM.{PikeVM}
use Rattle.api_pikevm.specs.declared.builder.Builder.{Builder}

-- the patterns of which it was built, the settings of its program and of its searches
abbrev pub vm_patterns : PikeVM → List Re
vm_patterns vm = map meaning vm.built.hirs.items

abbrev pub vm_program : PikeVM → Settings
vm_program vm = settings_of vm.thompson

abbrev pub vm_settings : PikeVM → SearchSettings
vm_settings vm = search_settings_of vm.config

-- the needles with which its searches begin
abbrev pub vm_needles : PikeVM → Option (List (List ℕ))
vm_needles vm = guarding vm.built.engine.literals

-- what it seeks
abbrev pub sought : PikeVM → Sought
sought vm = sought_by (vm_program vm) (vm_patterns vm)

-- how many places something's program has
abbrev pub states_of : Sought → ℕ
states_of q = length (program (shown q.grouped q.patterns))

-- for each pattern the names of its groups that are kept, in order
abbrev pub vm_names : PikeVM → Names
vm_names vm = names_shown (is_grouped (which_captures_of (vm_program vm))) (vm_patterns vm)

abbrev pub builder_settings : Builder → SearchSettings
builder_settings b = search_settings_of b.config

abbrev pub builder_program : Builder → Settings
builder_program b = settings_of b.thompson

-- the settings by which a builder reads text
abbrev pub builder_syntax : Builder → SyntaxSettings
builder_syntax b = syntax_of b.syntax
