use Rattle.std.proofs.Common.{map}
use Rattle.rc_pattern.specs.Meaning.{meaning}
use Rattle.rc_settings.specs.Thompson.{settings_of}
use Rattle.rc_build.specs.Fits.{sought_by}
use Rattle.api_dfa.proofs.builder.Builder.build_many_from_hir.Given as goal

abbrev pub ghost-tables_of : goal.ghost-tables_of
ghost-tables_of a = sought_by (settings_of a.settings) (map meaning a.hirs.now)
