-- Drawing anew: the span of a text outside which an edit changed no match.
use Rattle.std.specs.Prelude.{◌≡◌, ℕ, ◌+◌, ◌-◌, ◌<◌, ◌≤◌, Bool, ◌&&◌, List, [], ◌∷◌, filter, map, nat_le, nat_lt, slice_get}
use Rattle.rc_text.specs.Found.{Found}
use Rattle.rc_text.specs.declared.types.Span.{Span}
use Rattle.live_matches.specs.declared.changes.Ahead.{Ahead}
use Rattle.live_matches.specs.declared.entry.Changed.{Changed}
use Rattle.live_matches.specs.declared.entry.Edit.{Edit}
use Rattle.live_matches.specs.Entry.{Entry}
use Rattle.live_matches.specs.Entries.{AreBehind, AreBelow}
use Rattle.live_matches.specs.Lists.{IsChanged}

-- The match begins before the place, and ends there or before.
abbrev pub lies_above : ℕ → Found → Bool
lies_above at m = nat_lt m.start at && nat_le m.end at

-- The match ends after the place, and begins there or later.
abbrev pub lies_below : ℕ → Found → Bool
lies_below at m = nat_lt at m.end && nat_le at m.start

-- A place behind the edit, in the text as it was.
abbrev pub place_before : Edit → ℕ → ℕ
place_before edit p = p - edit.inserted + (edit.replaced.end - edit.replaced.start)

-- A match behind the edit, in the text as it is now.
abbrev pub match_moved : Edit → Found → Found
match_moved edit m = record {
  pattern = m.pattern;
  start = m.start - (edit.replaced.end - edit.replaced.start) + edit.inserted;
  end = m.end - (edit.replaced.end - edit.replaced.start) + edit.inserted;
}

-- Outside the span, the new list has the matches of the old one and no others. Those below it moved
-- with the text. The span has the inserted bytes.
pub record IsDrawn (edit : Edit) (old new : List Found) (span : Span) : Type 0 where
  pub start : span.start ≤ edit.replaced.start
  pub end : edit.replaced.start + edit.inserted ≤ span.end
  pub above : filter (lies_above span.start) new ≡ filter (lies_above span.start) old
  pub below : filter (lies_below span.end) new
      ≡ map (match_moved edit) (filter (lies_below (place_before edit span.end)) old)

-- The entries follow one another from the place on, and end at `high` or before.
abbrev pub Follow : ℕ → ℕ → List Entry → Type 0
Follow high at [] = Unit {0}
Follow high at (e ∷ es) = (at ≤ e.found.start) × (e.found.start ≤ e.found.end)
    × (e.found.end ≤ high) × Follow high e.found.end es

-- They end at the place or before.
abbrev pub EndBy : ℕ → List Entry → Type 0
EndBy at [] = Unit {0}
EndBy at (e ∷ es) = (e.found.end ≤ at) × EndBy at es

-- The first three entries from this index on.
pub record AreAhead (es : List Entry) (index : ℕ) (a : Ahead) : Type 0 where
  pub first : a.first ≡ slice_get es index
  pub second : a.second ≡ slice_get es (index + 1)
  pub third : a.third ≡ slice_get es (index + 2)

-- What an edit changed. The bytes before the edit settle the entries that stay, and those that
-- moved lie behind it.
pub record IsSplit (edit : Edit) (old new : List Entry) (c : Changed) : Type 0 where
  pub changed : IsChanged edit old new c
  pub below : AreBelow edit.replaced.start changed.kept
  pub behind : AreBehind edit.replaced.end changed.rest

-- The entries of both lists follow one another in their texts, and the edit is one of the old text.
pub record AreLaid (edit : Edit) (old new : List Entry) (was now : ℕ) : Type 0 where
  pub before : Follow was 0 old
  pub after : Follow now 0 new
  pub order : edit.replaced.start ≤ edit.replaced.end
  pub inside : edit.replaced.end ≤ was
  pub len : now ≡ was - (edit.replaced.end - edit.replaced.start) + edit.inserted
  pub fits : now < 18446744073709551616
