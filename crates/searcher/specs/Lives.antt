-- Lists of the matches of a text that is edited.
use Rattle.std.specs.Prelude.{◌≡◌, ℕ, ◌+◌, ◌-◌, ◌≤◌, List, filter, length, Option, None, MatchOption}
use Rattle.std.specs.Borrow.{Bor}
use Rattle.rc_text.specs.Found.{Found}
use Rattle.rc_text.specs.Joined.{IsTooLong, joined}
use Rattle.rc_text.specs.declared.types.Span.{Span}
use Rattle.api_meta.specs.declared.regex.Regex.{Regex}
use Rattle.live_matches.specs.Drawn.{IsDrawn}
use Rattle.live_matches.specs.Lists.{IsChanged}
use Rattle.live_matches.specs.Live.{IsLive, Listed, WasLive, listed}
use Rattle.live_matches.specs.Reading.{touches}
use Rattle.live_matches.specs.declared.entry.Changed.{Changed}
use Rattle.live_matches.specs.declared.entry.Edit.{Edit}
use Rattle.searcher.specs.Places.{IsFilled}
use Rattle.searcher.specs.declared.answers.ListFault.{ListFault}
use Rattle.searcher.specs.declared.answers.ListFault.TheVariants.{Memory, Misfit, NoList, Outside, TooLong}
use Rattle.searcher.specs.declared.answers.MatchAt.{MatchAt}

-- The edit replaces a part of the text of the list.
pub record IsWithin (edit : Edit) (l : Listed) : Type 0 where
  pub order : edit.replaced.start ≤ edit.replaced.end
  pub inside : edit.replaced.end ≤ l.len

-- The text is as long as the edit makes that of the list.
abbrev pub IsAsLong : Edit → List ℕ → Listed → Type 0
IsAsLong edit text l = length text ≡ l.len - (edit.replaced.end - edit.replaced.start) + edit.inserted

-- If the edit and the lengths fit, the list is that of a text which the edit makes this one.
abbrev pub IsEditOf : Regex → Edit → List ℕ → Listed → Type 0
IsEditOf r edit text l = IsWithin edit l → IsAsLong edit text l → WasLive r edit text l

-- The list is that of the new text, and this is what changed.
pub record IsKept (r : Regex) (edit : Edit) (text : List ℕ) (old new : Listed) (c : Changed) : Type 0 where
  pub live : IsLive r text new
  pub changed : IsChanged edit old.entries new.entries c
  pub drawn : IsDrawn edit (listed old) (listed new) c.span

-- There is a list before and after, and it was kept.
abbrev pub IsEditDone : Regex → Edit → List ℕ → (old new : Option Listed) → Changed → Type 0
IsEditDone r edit text old new c = MatchOption old ⊥ (λ l. MatchOption new ⊥ (λ m. IsKept r edit text l m c))

-- Why an edit failed, and what it left: the first of these that applies. Out of memory, which comes where none does, the list is gone.
abbrev pub IsEditFault : Edit → List (Bor (List ℕ)) → (old new : Option Listed) → ListFault → Type 0
IsEditFault edit chunks old new NoList = (old ≡ None) × (new ≡ None)
IsEditFault edit chunks old new Outside = MatchOption old ⊥ (λ l. ¬ IsWithin edit l) × (new ≡ old)
IsEditFault edit chunks old new TooLong = MatchOption old ⊥ (IsWithin edit) × IsTooLong chunks × (new ≡ old)
IsEditFault edit chunks old new Misfit = MatchOption old ⊥ (λ l. IsWithin edit l × ¬ IsAsLong edit (joined chunks) l) × (¬ IsTooLong chunks) × (new ≡ old)
IsEditFault edit chunks old new Memory = MatchOption old ⊥ (λ l. IsWithin edit l × IsAsLong edit (joined chunks) l) × (¬ IsTooLong chunks) × (new ≡ None)

-- Why there is no new list, and what is left.
abbrev pub IsListFault : List (Bor (List ℕ)) → (old new : Option Listed) → ListFault → Type 0
IsListFault chunks old new NoList = ⊥
IsListFault chunks old new Outside = ⊥
IsListFault chunks old new TooLong = IsTooLong chunks × (new ≡ old)
IsListFault chunks old new Misfit = ⊥
IsListFault chunks old new Memory = (¬ IsTooLong chunks) × (new ≡ None)

-- The batch holds the first of the matches that touch the window, as many as `count`. If it isn't full, these are all.
pub record IsWindow (l : Listed) (window : Span) (batch : List MatchAt) (count : ℕ) : Type 0 where
  pub rest : List Found
  pub filled : IsFilled (filter (touches window) (listed l)) rest batch count
