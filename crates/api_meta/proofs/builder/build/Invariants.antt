use Rattle.std.proofs.Common.{map}
use Rattle.rc_pattern.specs.Meaning.{meaning}
use Rattle.rc_program.specs.Program.{shown}
use Rattle.rc_settings.specs.Settings.{settings_of, program_settings}
use Rattle.rc_settings.specs.Thompson.{which_captures_of}
use Rattle.rc_settings.specs.Which.{is_grouped}
use Rattle.api_meta.proofs.builder.build.Given as goal

abbrev pub ghost-engines_of : goal.ghost-engines_of
ghost-engines_of a = shown (is_grouped (which_captures_of (program_settings (settings_of a.config.now)))) (map meaning a.hirs.now)
