-- Only proofs use this file.
-- Search results: what a search has found.
use Rattle.std.specs.Prelude.{◌≡◌, ℕ, ◌<◌, Bool, false, List, [], ◌∷◌, length, Option, Some, None, MatchOption, slice_index_or, nat_eq, if◌then◌else◌}
use Rattle.std.specs.Option.{option_or}
use Rattle.rc_walks.specs.Walks.{Pair}
use Rattle.rc_program.specs.Program.{Place, slot, place_at}
use Rattle.rc_program.specs.Columns.{column_at}
use Rattle.rc_program.specs.Answer.{Search, Chosen, pattern_of, last_of, last_visit}
use Rattle.rc_pikevm.specs.declared.pass.Ending.{Ending}

-- The place names a slot, and this is the slot's column.
abbrev pub fills : ℕ → Place → ℕ → Bool
fills column (slot k n) j = nat_eq column j
fills column _ j = false

-- The position at the walk's last visit of a place whose slot is in column j.
abbrev pub last_filled : List Place → ℕ → List Pair → Option ℕ
last_filled places j [] = None
last_filled places j (n ∷ w) =
    option_or (last_filled places j w) (if fills (column_at places n.0) (place_at places n.0) j then Some n.1 else None)

-- `picked` is that walk, and the cells have what `visit` tells of it.
pub record IsChosenBy (visit : List Place → ℕ → List Pair → Option ℕ) (s : Search) (picked : Option Chosen) (e : Ending) (slots : List (Option ℕ))
    (c : Chosen) : Type 0 where
  pub is_chosen : picked ≡ Some c
  pub pattern : e.pattern ≡ pattern_of s c
  pub start : e.start ≡ c.start
  pub end : e.end ≡ (last_of c.walk).1
  pub visits : (k : ℕ) → k < length slots → slice_index_or slots k None ≡ visit s.places k c.walk

-- `picked` is that walk; of its slots, only those of groups are kept.
abbrev pub IsChosen : Search → Option Chosen → Ending → List (Option ℕ) → Chosen → Type 0
IsChosen s picked e slots c = IsChosenBy last_visit s picked e slots c

-- `picked` is that walk, and its slots are in the row.
abbrev pub IsChosenRow : Search → Option Chosen → Ending → List (Option ℕ) → Chosen → Type 0
IsChosenRow s picked e row c = IsChosenBy last_filled s picked e row c

-- The result is what is picked.
abbrev pub IsPickedBy : (List Place → ℕ → List Pair → Option ℕ) → Search → Option Chosen → Option Ending → List (Option ℕ) → Type 0
IsPickedBy visit s picked result slots = MatchOption result (picked ≡ None) (λ e. (c : Chosen) × IsChosenBy visit s picked e slots c)
