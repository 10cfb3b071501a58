-- Quiet stretches: where no match begins, told by the greatest length of the patterns.
use Rattle.std.specs.Prelude.{◌≡◌, ◌≢◌, ℕ, ◌+◌, ◌<◌, ◌≤◌, List, [], ◌∷◌, ◌++◌, length, map, max, Option, Some, IfSome, true}
use Rattle.rc_text.specs.Found.{Found}
use Rattle.rc_text.specs.declared.types.MatchKind.{MatchKind}
use Rattle.rc_text.specs.declared.types.MatchKind.TheVariants.{All as all_matches}
use Rattle.rc_program.specs.Answer.{Search}
use Rattle.rc_reach.specs.Laws.{greatest_len}
use Rattle.api_meta.specs.Views.{regex_kind, regex_patterns}
use Rattle.api_meta.specs.declared.regex.Regex.{Regex}
use Rattle.live_matches.specs.declared.entry.Edit.{Edit}
use Rattle.live_matches.specs.Entry.{Entry}
use Rattle.live_matches.specs.Entries.{AreBehind, Gapped, is_before, last_end, moved_with}
use Rattle.live_matches.specs.Lists.{AreEntries, next_after, place_of}

-- The longest match of the patterns of the regex has at most so many bytes.
abbrev pub IsLongest : Regex → ℕ → Type 0
IsLongest r n = greatest_len (regex_patterns r) ≡ Some n

-- So it is, and of the matches the leftmost ones count.
pub record IsShort (r : Regex) (n : ℕ) : Type 0 where
  pub leftmost : regex_kind r ≢ all_matches
  pub longest : IsLongest r n

-- The match begins at the place or later, if there is one.
abbrev pub BeginsBy : ℕ → Option Found → Type 0
BeginsBy at o = IfSome o (λ m. at ≤ m.start)

-- The first entry begins at the place or later, if there is one.
abbrev pub BeginFrom : ℕ → List Entry → Type 0
BeginFrom at [] = Unit {0}
BeginFrom at (e ∷ es) = at ≤ e.found.start

-- The first entries after the gap went.
pub record HasGone (g h : Gapped) : Type 0 where
  pub dropped : List Entry
  pub split : g.after ≡ dropped ++ h.after
  pub before : h.before ≡ g.before
  pub len : h.len ≡ g.len

-- The entries after the gap that begin at the place or before went. The list is taken up at the
-- place, or where the last of them ends.
pub record IsSkippedOver (mark : Option ℕ) (at : ℕ) (g : Gapped) (now : ℕ) (h : Gapped) :
    Type 0 where
  pub gone : HasGone g h
  pub now_is : now ≡ max (place_of (last_end mark gone.dropped)) at
  pub far : BeginFrom (at + 1) h.after

-- These entries come next after the mark. If that is before a place, there are none.
pub record IsLeft (kind : MatchKind) (s : Search) (content : List ℕ) (at : ℕ) (mark : Option ℕ)
    (es : List Entry) : Type 0 where
  pub entries : AreEntries kind s content mark es
  pub far : is_before mark at ≡ true → es ≡ []
  pub inside : place_of mark ≤ length content

-- The next match begins at the place or later, and the place is so far before the end that it is 0
-- or settled.
pub record IsFrom (kind : MatchKind) (s : Search) (content : List ℕ) (last : Option ℕ)
    (longest from : ℕ) : Type 0 where
  pub begins : BeginsBy from (next_after kind s content last)
  pub room : 0 < from → from + longest + 4 ≤ length content

-- Over an edit, the entries before the gap stay and others come after them. Of those after the gap
-- the first go, and the others move with the text.
pub record IsCarried (edit : Edit) (g h : Gapped) : Type 0 where
  pub anew : List Entry
  pub gone : List Entry
  pub rest : List Entry
  pub before : h.before ≡ g.before ++ anew
  pub after : g.after ≡ gone ++ rest
  pub moved : h.after ≡ map (moved_with edit) rest
  pub behind : AreBehind edit.replaced.end rest
