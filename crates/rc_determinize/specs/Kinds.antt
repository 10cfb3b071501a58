-- Determinization: the step of each kind of match. Both DFAs know only this one.
use Rattle.std.specs.Prelude.{◌≡◌, ℕ, ◌+◌, ◌*◌, ◌<◌, ◌≤◌, List, length, Option, Some}
use Rattle.rc_text.specs.declared.types.MatchKind.{MatchKind}
use Rattle.rc_text.specs.declared.types.MatchKind.TheVariants.{All as all_matches, LeftmostFirst as leftmost_first, LeftmostLongest as leftmost_longest}
use Rattle.rc_program.specs.Laws.{IsClosed}
use Rattle.rc_program.specs.Program.{Place}
use Rattle.rc_determinize.specs.Steps.{AreOnce, AreBelow}
use Rattle.rc_determinize.specs.declared.sides.Seen.{Seen}
use Rattle.rc_determinize.specs.declared.sides.Sides.{Sides}
use Rattle.rc_determinize.specs.Sides.{AreAlike, sides_of}
use Rattle.rc_determinize.specs.States.{Setting, State, IsNextOver}
use Rattle.rc_determinize.specs.Sets.{IsNextOfAllOver}
use Rattle.rc_determinize.specs.Longest.{IsNextOfLongestOver}
use Rattle.rc_determinize.specs.Backward.{IsPriorOver}
use Rattle.rc_determinize.specs.LongestLaws.{IsMarkedList}

-- The state to which a byte leads, or the end, for matches of this kind, by what is told of its
-- sides.
abbrev pub IsNextByOver : MatchKind → List Place → ℕ → State → Sides → State → Type 0
IsNextByOver leftmost_first = IsNextOver
IsNextByOver all_matches = IsNextOfAllOver
IsNextByOver leftmost_longest = IsNextOfLongestOver

-- The same, if the byte is known alone.
abbrev pub IsNextBy : MatchKind → Setting → ℕ → State → Option ℕ → State → Type 0
IsNextBy kind g root s after = IsNextByOver kind g.places root s (sides_of g.needs g.terminator after)

-- How long a list of this kind is at most, for a program of so many places.
abbrev pub longest : MatchKind → ℕ → ℕ
longest leftmost_first places = places
longest all_matches places = places
longest leftmost_longest places = 2 * places

-- The bound below which all entries of a list are. For leftmost-longest, entries are places and
-- marks.
abbrev pub bound_of : MatchKind → ℕ → ℕ
bound_of leftmost_first places = places
bound_of all_matches places = places
bound_of leftmost_longest places = places + 1

-- The list has places of the program, each once; for leftmost-longest with marks between them.
abbrev pub IsListOf : MatchKind → ℕ → List ℕ → Type 0
IsListOf leftmost_first places list = AreOnce list × AreBelow places list
IsListOf all_matches places list = AreOnce list × AreBelow places list
IsListOf leftmost_longest places list = IsMarkedList places list

-- The law of the steps of each kind.
pub record KindLaw : Type 0 where
  -- A byte stands for all bytes that are alike.
  pub alike : (kind : MatchKind) (g : Setting) (root b c : ℕ) (s t : State) → AreAlike g.places g.needs g.terminator b c →
      IsNextBy kind g root s (Some b) t → IsNextBy kind g root s (Some c) t
  -- Whatever is told, a state has places of the program, each once. So it is no longer than the
  -- program, or than twice the program if it has marks.
  pub inside : (kind : MatchKind) (places : List Place) (root : ℕ) (s t : State) (sides : Sides) → IsClosed places → root < length places →
      IsNextByOver kind places root s sides t → IsListOf kind (length places) t.list
  pub below : (kind : MatchKind) (places : ℕ) (list : List ℕ) → IsListOf kind places list → AreBelow (bound_of kind places) list
  pub short : (kind : MatchKind) (places : List Place) (root : ℕ) (s t : State) (sides : Sides) → IsClosed places → root < length places →
      IsNextByOver kind places root s sides t → length t.list ≤ longest kind (length places)
  -- The match found before plays no part.
  pub forgets : (kind : MatchKind) (places : List Place) (root : ℕ) (s t : State) (sides : Sides) (matched : Option ℕ) →
      IsNextByOver kind places root s sides t → IsNextByOver kind places root (record s { matched = matched }) sides t
  pub tells : (kind : MatchKind) (places : List Place) (root : ℕ) (s t : State) (sides : Sides) →
      IsNextByOver kind places root s sides t → t.beside ≡ sides.far

-- The law of turns: what is told of the far side plays no part but in what the new state keeps of it.
-- So a state turns into the one for another scalar that ends there.
pub record TurnLaw : Type 0 where
  pub next : (kind : MatchKind) (places : List Place) (root : ℕ) (s t : State) (sides : Sides) (far : Seen) →
      IsNextByOver kind places root s sides t → IsNextByOver kind places root s (record sides { far = far }) (record t { beside = far })
  pub prior : (places : List Place) (roots : List ℕ) (s t : State) (sides : Sides) (far : Seen) →
      IsPriorOver places roots s sides t → IsPriorOver places roots s (record sides { far = far }) (record t { beside = far })
