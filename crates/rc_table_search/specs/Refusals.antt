-- Only proofs use this file.
-- Refusals: why a state isn't added.
use Rattle.std.specs.Prelude.{Bool, true, false}
use Rattle.rc_table_search.specs.declared.refusal.Refusal.{Refusal}
use Rattle.rc_table_search.specs.declared.refusal.Refusal.TheVariants.{Memory, Short}

abbrev pub is_memory : Refusal → Bool
is_memory Memory = true
is_memory Short = false
