-- Worked rows of the definitions.
use Rattle.std.proofs.Common.{◌≡◌, false, true, [], ◌∷◌, Some, None, refl}
use Rattle.std.specs.Prelude.{codes}
use Rattle.rc_settings.specs.declared.error.BuildError.TheVariants.{IllFormed}
use Rattle.rc_settings.specs.Lines.{line_of, pattern_of}
use Rattle.rc_settings.specs.Settings.{Settings, unset, overwritten, dfa_of, hybrid_of, utf8_empty_of}

line_of_an_ill_formed_pattern : line_of (IllFormed 3) ≡ Some (codes "error building NFA")
line_of_an_ill_formed_pattern = refl

pattern_of_an_ill_formed_pattern : pattern_of (IllFormed 3) ≡ None
pattern_of_an_ill_formed_pattern = refl

-- no DFA, and then no lazy one
abbrev two_settings : Settings
two_settings = overwritten (record unset { dfa = Some false }) (record unset { hybrid = Some false })

both_are_kept : (dfa_of two_settings ∷ hybrid_of two_settings ∷ utf8_empty_of two_settings ∷ []) ≡ (false ∷ false ∷ true ∷ [])
both_are_kept = refl
