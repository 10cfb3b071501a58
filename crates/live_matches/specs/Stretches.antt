-- Stretches of a text in which no match begins, told by its beginnings.
use Rattle.std.specs.Prelude.{◌≡◌, ℕ, ◌+◌, ◌≤◌, List, [], ◌∷◌, ◌++◌, length, map, take}
use Rattle.rc_text.specs.declared.types.MatchKind.{MatchKind}
use Rattle.rc_program.specs.Answer.{Search}
use Rattle.rc_reach.specs.Live.{found_by}
use Rattle.live_matches.specs.declared.entry.Edit.{Edit}
use Rattle.live_matches.specs.Entry.{Entry}
use Rattle.live_matches.specs.Entries.{AreBelow, Gapped, all_of, len_after, moved_with, reach_of}
use Rattle.live_matches.specs.Quiet.{BeginFrom, BeginsBy}

-- A search from j on finds no match that begins before k. The bytes before r tell so: it is true of
-- each content that begins with them.
abbrev pub IsQuiet : MatchKind → Search → List ℕ → ℕ → ℕ → ℕ → Type 0
IsQuiet kind s content r j k = (other : List ℕ) → take r other ≡ take r content →
    BeginsBy k (found_by kind s other j)

-- The span of the entry is such a stretch, and the bytes before its reach tell so.
pub record IsStretch (kind : MatchKind) (s : Search) (content : List ℕ) (e : Entry) : Type 0 where
  pub order : e.found.start ≤ e.found.end
  pub inside : e.found.end ≤ length content
  pub quiet : IsQuiet kind s content (reach_of e) e.found.start e.found.end

-- So are the spans of all these entries, which begin at a place or later, in this order.
abbrev pub AreStretches : MatchKind → Search → List ℕ → ℕ → List Entry → Type 0
AreStretches kind s content at [] = Unit {0}
AreStretches kind s content at (e ∷ es) = (at ≤ e.found.start) × IsStretch kind s content e
    × AreStretches kind s content e.found.start es

-- Where the last of them begins, or the place.
abbrev pub last_start : ℕ → List Entry → ℕ
last_start at [] = at
last_start at (e ∷ es) = last_start e.found.start es

-- The first entry, if there is one, has at least this reach.
abbrev pub IsSettledFrom : ℕ → List Entry → Type 0
IsSettledFrom r [] = Unit {0}
IsSettledFrom r (e ∷ es) = r ≤ reach_of e

-- These entries begin at the place or later, in this order.
abbrev pub AreRising : ℕ → List Entry → Type 0
AreRising at [] = Unit {0}
AreRising at (e ∷ es) = (at ≤ e.found.start) × (e.found.start ≤ e.found.end)
    × AreRising e.found.start es

-- Over an edit, those entries stay that the bytes before it settle, and those move that begin four
-- bytes after it, or later. Those between go.
pub record IsOverEdit (edit : Edit) (g h : Gapped) : Type 0 where
  pub kept : List Entry
  pub gone : List Entry
  pub rest : List Entry
  pub old_is : all_of g ≡ kept ++ (gone ++ rest)
  pub new_is : all_of h ≡ kept ++ map (moved_with edit) rest
  pub below : AreBelow edit.replaced.start kept
  pub far : BeginFrom (edit.replaced.end + 4) rest
  pub len : h.len ≡ len_after edit g.len

-- The last entries before the gap went. Those that are left begin at the place or before it.
pub record IsDroppedBack (at : ℕ) (g h : Gapped) : Type 0 where
  pub dropped : List Entry
  pub split : g.before ≡ h.before ++ dropped
  pub after : h.after ≡ g.after
  pub len : h.len ≡ g.len
  pub far : last_start 0 h.before ≤ at
