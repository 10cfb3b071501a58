-- Why no tables are made.
use Rattle.std.specs.Prelude.{◌≡◌, ℕ, Bool, Option, Some, None}
use Rattle.rc_text.specs.declared.types.MatchKind.{MatchKind}
use Rattle.rc_program.specs.Sought.{Sought}
use Rattle.rc_dense_dfa.specs.declared.error.TableError.{TableError}
use Rattle.rc_dense_dfa.specs.declared.error.TableError.TheVariants as tables
use Rattle.rc_settings.specs.declared.error.BuildError.{BuildError}
use Rattle.rc_settings.specs.declared.error.BuildError.TheVariants.{Syntax, IllFormed, SizeLimit, PlaceLimit, Memory, DfaSizeLimit, CacheTooSmall}
use Rattle.api_dfa.specs.Tables.{IsTooBig}

-- the refusal that tells of it
abbrev pub refusal_of : TableError → Option ℕ → BuildError
refusal_of tables.TooBig (Some n) = DfaSizeLimit n
refusal_of tables.TooBig None = Memory
refusal_of tables.Memory limit = Memory

-- memory was wanting, or the tables are too big for the limit
abbrev pub IsTablesRefusal : Sought → MatchKind → Bool → Option ℕ → BuildError → Type 0
IsTablesRefusal q kind byte_classes limit (DfaSizeLimit n) = (limit ≡ Some n) × IsTooBig q kind byte_classes n
IsTablesRefusal q kind byte_classes limit Memory = Unit {0}
IsTablesRefusal q kind byte_classes limit (Syntax p e) = ⊥
IsTablesRefusal q kind byte_classes limit (IllFormed p) = ⊥
IsTablesRefusal q kind byte_classes limit (SizeLimit n) = ⊥
IsTablesRefusal q kind byte_classes limit PlaceLimit = ⊥
IsTablesRefusal q kind byte_classes limit (CacheTooSmall m n) = ⊥
