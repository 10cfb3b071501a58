-- Lists of entries: the matches of a content, with how many bytes settle each.
use Rattle.std.specs.Prelude.{◌≡◌, ℕ, ◌+◌, ◌-◌, List, [], ◌∷◌, ◌++◌, length, map, take, Option, None, Some, if◌then◌else◌, nat_lt}
use Rattle.rc_text.specs.Found.{Found}
use Rattle.rc_text.specs.declared.types.MatchKind.{MatchKind}
use Rattle.rc_program.specs.Answer.{Search}
use Rattle.rc_program.specs.Matches.{begin_of, end_of, next_match}
use Rattle.rc_reach.specs.Live.{found_by}
use Rattle.live_matches.specs.declared.entry.Changed.{Changed}
use Rattle.live_matches.specs.declared.entry.Edit.{Edit}
use Rattle.live_matches.specs.Entry.{Entry}
use Rattle.live_matches.specs.Entries.{Gapped, last_end, moved_with, reach_of}

-- Where the next match is sought, if the one before ended there.
abbrev pub place_of : Option ℕ → ℕ
place_of None = 0
place_of (Some p) = p

-- The next match of the list of a content.
abbrev pub next_after : MatchKind → Search → List ℕ → Option ℕ → Option Found
next_after kind s content last =
    next_match begin_of end_of (found_by kind s content) (place_of last) last

-- The bytes before r settle it: each content that begins with them has it too.
abbrev pub IsNextFixed : MatchKind → Search → List ℕ → ℕ → Option ℕ → Type 0
IsNextFixed kind s content r last = (other : List ℕ) → take r other ≡ take r content →
    next_after kind s other last ≡ next_after kind s content last

-- The entry has the next match, and the bytes before its reach settle it.
pub record IsEntry (kind : MatchKind) (s : Search) (content : List ℕ) (last : Option ℕ)
    (e : Entry) : Type 0 where
  pub found : next_after kind s content last ≡ Some e.found
  pub fixed : IsNextFixed kind s content (reach_of e) last

-- These are the first entries, if the match before them ended at `last`.
abbrev pub AreFirst : MatchKind → Search → List ℕ → Option ℕ → List Entry → Type 0
AreFirst kind s content last [] = Unit {0}
AreFirst kind s content last (e ∷ es) =
    IsEntry kind s content last e × AreFirst kind s content (Some e.found.end) es

-- These are all entries, if the match before them ended at `last`.
pub record AreEntries (kind : MatchKind) (s : Search) (content : List ℕ) (last : Option ℕ)
    (es : List Entry) : Type 0 where
  pub first : AreFirst kind s content last es
  pub ended : next_after kind s content (last_end last es) ≡ None

-- Their matches.
abbrev pub founds : List Entry → List Found
founds es = map (λ e. e.found) es

-- The entries come next after the mark. If there is no mark, there are none.
abbrev pub Meets : MatchKind → Search → List ℕ → Option ℕ → List Entry → Type 0
Meets kind s content None es = es ≡ []
Meets kind s content (Some p) es = AreEntries kind s content (Some p) es

-- Entries came to those before the gap, and the first ones after the gap went.
pub record IsSearchedOn (g h : Gapped) : Type 0 where
  pub anew : List Entry
  pub gone : List Entry
  pub before : h.before ≡ g.before ++ anew
  pub after : g.after ≡ gone ++ h.after
  pub len : h.len ≡ g.len

-- The mark in the text after the edit, if it is four bytes after the replaced bytes, or later.
abbrev pub mark_after : Edit → Option ℕ → Option ℕ
mark_after edit None = None
mark_after edit (Some p) = if nat_lt p (edit.replaced.end + 4) then None
    else Some (p - (edit.replaced.end - edit.replaced.start) + edit.inserted)

-- What an edit of the text changed in a list: of the old entries, so many went from `first` on, and
-- so many came in their place. Those before them stay, and those after them moved with the text.
pub record IsChanged (edit : Edit) (old new : List Entry) (c : Changed) : Type 0 where
  pub kept : List Entry
  pub gone : List Entry
  pub anew : List Entry
  pub rest : List Entry
  pub old_is : old ≡ kept ++ (gone ++ rest)
  pub new_is : new ≡ kept ++ (anew ++ map (moved_with edit) rest)
  pub first : c.first ≡ length kept
  pub dropped : c.dropped ≡ length gone
  pub added : c.added ≡ length anew
