-- What a status tells of live lists: 0, it is done, or there is no match; 1, there is one; 3, the chunks are too long; 4, the edit is outside of
-- the list's text; 10, memory was refused; 13, there is no list; 14, the chunks don't have the length that the edit gives. No other comes
-- where the handle is full. Each but 10 comes only if that is so.
use Rattle.std.specs.Prelude.{◌≡◌, ℕ, zero, suc, List, length, slice_get, Option, Some, None, MatchOption}
use Rattle.std.specs.Borrow.{Bor}
use Rattle.rc_text.specs.Joined.{joined}
use Rattle.live_matches.specs.Live.{IsLive, Listed, listed}
use Rattle.live_matches.specs.Reading.{IsLastBefore, IsNextFrom}
use Rattle.live_matches.specs.declared.entry.Changed.{Changed}
use Rattle.live_matches.specs.declared.entry.Edit.{Edit}
use Rattle.searcher.specs.Lives.{IsEditDone, IsEditFault, IsListFault, IsWindow}
use Rattle.searcher.specs.Places.{found_at}
use Rattle.searcher.specs.Searching.{Searching}
use Rattle.searcher.specs.declared.answers.ListFault.TheVariants.{Memory, Misfit, NoList, Outside, TooLong}
use Rattle.searcher.specs.declared.answers.MatchAt.{MatchAt}
use Rattle.zorfelith_c.specs.declared.live.Change.{Change}

-- the bytes from `start` to `end` were replaced by so many
abbrev pub edit_of : (start end inserted : ℕ) → Edit
edit_of start end inserted = record { replaced = record { start = start; end = end }; inserted = inserted }

-- what changed, as a live list has it
abbrev pub changed_by : Change → Changed
changed_by c = record { first = c.first; dropped = c.dropped; added = c.added; span = record { start = c.start; end = c.end } }

-- what a status means where it is of a list: `none` of 0, and `some` of 1
abbrev pub TellsOfList : (none some : Listed → Type 0) → Option Listed → ℕ → Type 0
TellsOfList none some live zero = MatchOption live ⊥ none
TellsOfList none some live (suc zero) = MatchOption live ⊥ some
TellsOfList none some live (suc (suc zero)) = ⊥
TellsOfList none some live (suc (suc (suc zero))) = ⊥
TellsOfList none some live (suc (suc (suc (suc zero)))) = ⊥
TellsOfList none some live (suc (suc (suc (suc (suc zero))))) = ⊥
TellsOfList none some live (suc (suc (suc (suc (suc (suc zero)))))) = ⊥
TellsOfList none some live (suc (suc (suc (suc (suc (suc (suc zero))))))) = ⊥
TellsOfList none some live (suc (suc (suc (suc (suc (suc (suc (suc zero)))))))) = ⊥
TellsOfList none some live (suc (suc (suc (suc (suc (suc (suc (suc (suc zero))))))))) = ⊥
TellsOfList none some live (suc (suc (suc (suc (suc (suc (suc (suc (suc (suc zero)))))))))) = ⊥
TellsOfList none some live (suc (suc (suc (suc (suc (suc (suc (suc (suc (suc (suc zero))))))))))) = ⊥
TellsOfList none some live (suc (suc (suc (suc (suc (suc (suc (suc (suc (suc (suc (suc zero)))))))))))) = ⊥
TellsOfList none some live (suc (suc (suc (suc (suc (suc (suc (suc (suc (suc (suc (suc (suc zero))))))))))))) = live ≡ None
TellsOfList none some live (suc (suc (suc (suc (suc (suc (suc (suc (suc (suc (suc (suc (suc (suc n)))))))))))))) = ⊥

-- how many matches the list has
abbrev pub TellsLen : Searching → ℕ → ℕ → Type 0
TellsLen s status len = TellsOfList (λ l. len ≡ length (listed l)) (λ _. ⊥) s.live status

-- the match with an index
abbrev pub TellsIndexed : Searching → ℕ → ℕ → MatchAt → Type 0
TellsIndexed s index status m =
    TellsOfList (λ l. slice_get (listed l) index ≡ None) (λ l. slice_get (listed l) index ≡ Some (found_at m)) s.live status

-- the first match that begins at the place or later
abbrev pub TellsNext : Searching → ℕ → ℕ → MatchAt → Type 0
TellsNext s place status m =
    TellsOfList (λ l. IsNextFrom place (listed l) None) (λ l. IsNextFrom place (listed l) (Some (found_at m))) s.live status

-- the last match that begins before the place
abbrev pub TellsPrevious : Searching → ℕ → ℕ → MatchAt → Type 0
TellsPrevious s place status m =
    TellsOfList (λ l. IsLastBefore place (listed l) None) (λ l. IsLastBefore place (listed l) (Some (found_at m))) s.live status

-- the matches that touch a window
abbrev pub TellsWindow : Searching → ℕ → ℕ → ℕ → List MatchAt → ℕ → Type 0
TellsWindow s start end status batch count =
    TellsOfList (λ l. IsWindow l (record { start = start; end = end }) batch count) (λ _. ⊥) s.live status

-- The handle is as it was but for its list, of which this is so.
abbrev pub Leaves : Searching → Option Searching → (Option Listed → Type 0) → Type 0
Leaves s t Left = MatchOption t ⊥ (λ (u : Searching). (u ≡ record s { live = u.live }) × Left u.live)

-- a new list
abbrev pub TellsNew : Searching → List (Bor (List ℕ)) → ℕ → Option Searching → Type 0
TellsNew s chunks zero t = Leaves s t (λ l. MatchOption l ⊥ (IsLive s.regex (joined chunks)))
TellsNew s chunks (suc zero) t = ⊥
TellsNew s chunks (suc (suc zero)) t = ⊥
TellsNew s chunks (suc (suc (suc zero))) t = Leaves s t (λ l. IsListFault chunks s.live l TooLong)
TellsNew s chunks (suc (suc (suc (suc zero)))) t = ⊥
TellsNew s chunks (suc (suc (suc (suc (suc zero))))) t = ⊥
TellsNew s chunks (suc (suc (suc (suc (suc (suc zero)))))) t = ⊥
TellsNew s chunks (suc (suc (suc (suc (suc (suc (suc zero))))))) t = ⊥
TellsNew s chunks (suc (suc (suc (suc (suc (suc (suc (suc zero)))))))) t = ⊥
TellsNew s chunks (suc (suc (suc (suc (suc (suc (suc (suc (suc zero))))))))) t = ⊥
TellsNew s chunks (suc (suc (suc (suc (suc (suc (suc (suc (suc (suc zero)))))))))) t = Leaves s t (λ l. IsListFault chunks s.live l Memory)
TellsNew s chunks (suc (suc (suc (suc (suc (suc (suc (suc (suc (suc (suc n))))))))))) t = ⊥

-- a list that is kept under an edit
abbrev pub TellsEdit : Searching → Edit → List (Bor (List ℕ)) → ℕ → Change → Option Searching → Type 0
TellsEdit s edit chunks zero c t = Leaves s t (λ l. IsEditDone s.regex edit (joined chunks) s.live l (changed_by c))
TellsEdit s edit chunks (suc zero) c t = ⊥
TellsEdit s edit chunks (suc (suc zero)) c t = ⊥
TellsEdit s edit chunks (suc (suc (suc zero))) c t = Leaves s t (λ l. IsEditFault edit chunks s.live l TooLong)
TellsEdit s edit chunks (suc (suc (suc (suc zero)))) c t = Leaves s t (λ l. IsEditFault edit chunks s.live l Outside)
TellsEdit s edit chunks (suc (suc (suc (suc (suc zero))))) c t = ⊥
TellsEdit s edit chunks (suc (suc (suc (suc (suc (suc zero)))))) c t = ⊥
TellsEdit s edit chunks (suc (suc (suc (suc (suc (suc (suc zero))))))) c t = ⊥
TellsEdit s edit chunks (suc (suc (suc (suc (suc (suc (suc (suc zero)))))))) c t = ⊥
TellsEdit s edit chunks (suc (suc (suc (suc (suc (suc (suc (suc (suc zero))))))))) c t = ⊥
TellsEdit s edit chunks (suc (suc (suc (suc (suc (suc (suc (suc (suc (suc zero)))))))))) c t = Leaves s t (λ l. IsEditFault edit chunks s.live l Memory)
TellsEdit s edit chunks (suc (suc (suc (suc (suc (suc (suc (suc (suc (suc (suc zero))))))))))) c t = ⊥
TellsEdit s edit chunks (suc (suc (suc (suc (suc (suc (suc (suc (suc (suc (suc (suc zero)))))))))))) c t = ⊥
TellsEdit s edit chunks (suc (suc (suc (suc (suc (suc (suc (suc (suc (suc (suc (suc (suc zero))))))))))))) c t = Leaves s t (λ l. IsEditFault edit chunks s.live l NoList)
TellsEdit s edit chunks (suc (suc (suc (suc (suc (suc (suc (suc (suc (suc (suc (suc (suc (suc zero)))))))))))))) c t = Leaves s t (λ l. IsEditFault edit chunks s.live l Misfit)
TellsEdit s edit chunks (suc (suc (suc (suc (suc (suc (suc (suc (suc (suc (suc (suc (suc (suc (suc n))))))))))))))) c t = ⊥
