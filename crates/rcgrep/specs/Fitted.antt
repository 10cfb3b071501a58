-- The part of a line that a match has to be.
use Rattle.std.specs.Prelude.{List, [], ◌∷◌}
use Rattle.rc_pattern.specs.Re.{Re, look}
use Rattle.rc_pattern.specs.Meaning.{concat_of}
use Rattle.rc_pattern.specs.declared.hir.Look.TheVariants.{End, EndLF, Start, StartLF, WordEndHalfUnicode, WordStartHalfUnicode}
use Rattle.grep_options.specs.declared.filter.Fit.{Fit}
use Rattle.grep_options.specs.declared.filter.Fit.TheVariants.{Any, Line, Text, Words}

-- the pattern, where no character of a word stands beside its match, or between the ends of the line or of the text
abbrev pub fitted_of : Fit → Re → Re
fitted_of Any h = h
fitted_of Words h = concat_of (look WordStartHalfUnicode ∷ h ∷ look WordEndHalfUnicode ∷ [])
fitted_of Line h = concat_of (look StartLF ∷ h ∷ look EndLF ∷ [])
fitted_of Text h = concat_of (look Start ∷ h ∷ look End ∷ [])
