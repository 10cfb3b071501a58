-- What a status tells of a prepared text.
use Rattle.std.specs.Prelude.{◌≡◌, ◌⊎◌, ℕ, List, None, Option, Some, MatchOption}
use Rattle.std.specs.Borrow.{Bor}
use Rattle.rc_text.specs.Joined.{joined}
use Rattle.api_meta.specs.declared.regex.Regex.{Regex}
use Rattle.text_chunks.specs.Edits.{IsEditFault, IsEdited, IsNewFault}
use Rattle.text_chunks.specs.declared.text.EditFault.{EditFault}
use Rattle.text_chunks.specs.declared.text.EditFault.TheVariants.{Memory, Outside, TooLong}
use Rattle.searcher.specs.Answers.{answer_over}
use Rattle.searcher.specs.Places.{found_at}
use Rattle.searcher.specs.declared.answers.Bounds.{Bounds}
use Rattle.searcher.specs.declared.answers.MatchAt.{MatchAt}
use Rattle.zorfelith_c.specs.Statuses.{done, memory, outside, too_long}
use Rattle.zorfelith_c.specs.Tells.{TellsOf}

-- the status of a fault
abbrev pub status_of : EditFault → ℕ
status_of Outside = outside
status_of TooLong = too_long
status_of Memory = memory

-- Some fault applies, and the status is its own.
pub record IsFaultOf (Applies : EditFault → Type 0) (status : ℕ) : Type 0 where
  pub fault : EditFault
  pub applies : Applies fault
  pub coded : status ≡ status_of fault

-- The text is of these chunks; or there is none.
abbrev pub TellsMade : List (Bor (List ℕ)) → ℕ → Option (List (Bor (List ℕ))) → Type 0
TellsMade chunks status t = MatchOption t (IsFaultOf (IsNewFault chunks) status) (λ u. (status ≡ done) × (u ≡ chunks))

-- The chunks from `start` to `end` were replaced by others; or the text is as it was.
abbrev pub TellsEdited : (text : List (Bor (List ℕ))) (start end : ℕ) (others : List (Bor (List ℕ))) → ℕ → Option (List (Bor (List ℕ))) → Type 0
TellsEdited text start end others status t =
    ((status ≡ done) × MatchOption t ⊥ (IsEdited text start end others)) ⊎ (IsFaultOf (IsEditFault text start end others) status × (t ≡ Some text))

-- the match in the text within the bounds
abbrev pub TellsOver : Regex → List (Bor (List ℕ)) → Bounds → ℕ → MatchAt → Type 0
TellsOver r text b status m =
    TellsOf (answer_over r (joined text) b ≡ None) (answer_over r (joined text) b ≡ Some (found_at m)) text b.start b.end status
