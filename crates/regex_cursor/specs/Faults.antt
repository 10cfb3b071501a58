-- The faults of a run: when each comes, and its line.
use Rattle.std.specs.Prelude.{ℕ, [], ◌∷◌, List, codes, Option, Some}
use Rattle.std.specs.Borrow.{Bor}
use Rattle.rc_text.specs.Joined.{IsTooLong}
use Rattle.rc_parser.specs.Settings.{default_settings}
use Rattle.rc_settings.specs.Lines.{line_of}
use Rattle.rc_pattern.specs.Re.{Re}
use Rattle.rc_build.specs.Refusals.{IsBuildable, limit_by}
use Rattle.rc_build.specs.TextRefusals.{IsReadAs, IsTextRefusal}
use Rattle.regex_cursor.specs.declared.run.error.RunError.{RunError}
use Rattle.regex_cursor.specs.declared.run.error.RunError.TheVariants.{Build, TooLong, Memory, Write}

-- what `{}` writes of a fault
abbrev pub line_of_fault : RunError → Option (List ℕ)
line_of_fault (Build e) = line_of e
line_of_fault TooLong = Some (codes "input too long")
line_of_fault Memory = Some (codes "out of memory")
line_of_fault Write = Some (codes "write failed")

-- The text is read as a pattern that can be built, by the default settings.
abbrev pub IsBuilt : List ℕ → Type 0
IsBuilt text = (p : Re) × IsReadAs default_settings text p × IsBuildable (limit_by (Some 10485760) default_settings) (p ∷ [])

-- The text is read and its pattern built first, by the default settings, and the chunks are measured next.
abbrev pub IsFault : List ℕ → List (Bor (List ℕ)) → RunError → Type 0
IsFault text chunks (Build e) = IsTextRefusal (Some 10485760) default_settings (text ∷ []) e
IsFault text chunks TooLong = IsBuilt text × IsTooLong chunks
IsFault text chunks Memory = IsBuilt text × ¬ IsTooLong chunks
IsFault text chunks Write = IsBuilt text × ¬ IsTooLong chunks
