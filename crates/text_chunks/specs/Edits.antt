-- Edits of the chunks of a text.
use Rattle.std.specs.Prelude.{◌≡◌, ◌⊎◌, ℕ, ◌+◌, ◌<◌, ◌≤◌, ◌^◌, List, ◌++◌, drop, length, take}
use Rattle.std.specs.Borrow.{Bor}
use Rattle.rc_text.specs.Joined.{IsTooLong, joined}
use Rattle.text_chunks.specs.declared.text.EditFault.{EditFault}
use Rattle.text_chunks.specs.declared.text.EditFault.TheVariants.{Memory, Outside, TooLong}

-- the chunks from `start` to `end` are replaced by others
abbrev pub spliced : List (Bor (List ℕ)) → ℕ → ℕ → List (Bor (List ℕ)) → List (Bor (List ℕ))
spliced chunks start end others = take start chunks ++ (others ++ drop end chunks)

-- the edit is one of these chunks
abbrev pub IsWithin : List (Bor (List ℕ)) → ℕ → ℕ → Type 0
IsWithin chunks start end = (start ≤ end) × (end ≤ length chunks)

-- Why there was no edit. Memory may be refused at any time.
abbrev pub IsEditFault : List (Bor (List ℕ)) → ℕ → ℕ → List (Bor (List ℕ)) → EditFault → Type 0
IsEditFault chunks start end others Outside = (end < start) ⊎ (length chunks < end)
IsEditFault chunks start end others TooLong = IsWithin chunks start end × IsTooLong (spliced chunks start end others)
IsEditFault chunks start end others Memory = Unit {0}

-- why there is no text of these chunks
abbrev pub IsNewFault : List (Bor (List ℕ)) → EditFault → Type 0
IsNewFault chunks Outside = ⊥
IsNewFault chunks TooLong = IsTooLong chunks
IsNewFault chunks Memory = Unit {0}

-- it was none of them
pub record IsEdited (chunks : List (Bor (List ℕ))) (start end : ℕ) (others new : List (Bor (List ℕ))) : Type 0 where
  pub within : IsWithin chunks start end
  pub is : new ≡ spliced chunks start end others
  pub fits : length (joined new) + 1 < 2 ^ 64
