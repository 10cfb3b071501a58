-- Whether a regex keeps explicit groups.
use Rattle.std.specs.Prelude.{Bool, true, false}
use Rattle.rc_settings.specs.declared.which.WhichCaptures.{WhichCaptures}
use Rattle.rc_settings.specs.declared.which.WhichCaptures.TheVariants.{All, Implicit, None}

-- whether the explicit groups are kept
abbrev pub is_grouped : WhichCaptures → Bool
is_grouped All = true
is_grouped Implicit = false
is_grouped None = false
