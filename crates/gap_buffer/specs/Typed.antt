-- Typing over bytes of a text, as an edit of a list of its matches.
use Rattle.std.specs.Prelude.{◌≡◌, ℕ, ◌+◌, ◌⊎◌, List, length, min}
use Rattle.gap_buffer.specs.Edits.{Edited, cut_after, inserted}
use Rattle.live_matches.specs.Live.{IsStale, Listed}
use Rattle.live_matches.specs.declared.entry.Edit.{Edit}

-- bytes stand in place of so many after the caret, which is behind them
abbrev pub typed : Edited → ℕ → List ℕ → Edited
typed t n bytes = cut_after (inserted t bytes) n

-- what that is to a list of matches
abbrev pub edit_of : Edited → ℕ → List ℕ → Edit
edit_of t n bytes = record {
  replaced = record { start = t.caret; end = min (t.caret + n) (length t.content) };
  inserted = length bytes;
}

-- out of memory, nothing changed, or the text did, and the list is stale
abbrev pub IsUntyped : (s : Edited) → (n : ℕ) → (bytes : List ℕ) → (t : Edited) → (old new : Listed) → Type 0
IsUntyped s n bytes t old new = ((t ≡ s) × (new ≡ old)) ⊎ ((t ≡ typed s n bytes) × IsStale new)
