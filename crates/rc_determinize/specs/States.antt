-- Determinization: states of a search over bytes, and the step from one to the next.
use Rattle.std.specs.Prelude.{◌≡◌, ℕ, ◌+◌, ◌-◌, ◌≤◌, Bool, true, false, not, ◌&&◌, List, [], ◌∷◌, ◌++◌, length, Option, None, is_none, IsTrue}
use Rattle.std.specs.Option.{option_or, option_map}
use Rattle.rc_walks.specs.Walks.{Pair}
use Rattle.rc_program.specs.Text.{Text, before_at, after_at}
use Rattle.rc_program.specs.Program.{Place, place_at, ways, is_match_place}
use Rattle.rc_determinize.specs.Gives.{Carries, starts}
use Rattle.rc_determinize.specs.Steps.{IsByBytes, Adds, IsStep, at}
use Rattle.rc_determinize.specs.declared.sides.Seen.{Seen}
use Rattle.rc_determinize.specs.declared.sides.Asked.{Asked}
use Rattle.rc_determinize.specs.declared.sides.Sides.{Sides}
use Rattle.rc_determinize.specs.Sides.{Covers, told, told_side, sides_of, sides_near, out_over}

-- The setting of a DFA: the places of its program, the facts for which its assertions ask, and the
-- line terminator.
pub record Setting : Type 0 where
  pub places : List Place
  pub needs : Asked
  pub terminator : ℕ

-- The places read bytes alone, and the assertions ask for no more.
pub record IsSetting (g : Setting) : Type 0 where
  pub by_bytes : IsByBytes g.places
  pub covers : Covers g.needs g.places

-- A state. `list` has the places to which the byte before led, in order, each once. The search
-- hasn't gone on from any of them yet, since the byte ahead isn't known. `beside` has the facts
-- about the side before, and `goes_on` says whether a walk may begin at each position to come.
-- `matched` is the match place that was found at the position before.
pub record State : Type 0 where
  pub list : List ℕ
  pub beside : Seen
  pub goes_on : Bool
  pub matched : Option ℕ

abbrev pub is_match : List Place → ℕ → Bool
is_match places q = is_match_place None (place_at places q)

-- The place `root`, if walks may begin at the next position too.
abbrev pub root_if : Bool → ℕ → List ℕ
root_if true root = root ∷ []
root_if false root = []

-- The state to which a byte leads, or the end, by what is told of its sides. A match ends all that
-- comes after it in order, later starts too.
pub record IsNextOver (places : List Place) (root : ℕ) (s : State) (sides : Sides) (t : State) : Type 0 where
  pub next : List ℕ
  pub is_step : IsStep (out_over places s.beside sides) (is_match places) s.list next t.matched
  pub goes_on : t.goes_on ≡ (s.goes_on && is_none t.matched)
  pub joined : Adds next (root_if t.goes_on root) t.list
  pub beside : t.beside ≡ sides.far

-- The same, if the byte is known alone.
abbrev pub IsNext : Setting → ℕ → State → Option ℕ → State → Type 0
IsNext g root s after = IsNextOver g.places root s (sides_of g.needs g.terminator after)

-- The state before the first byte, with these facts about the side before.
pub record IsFirstBeside (root : ℕ) (facts : Seen) (anchored : Bool) (s : State) : Type 0 where
  pub list : s.list ≡ root ∷ []
  pub beside : s.beside ≡ facts
  pub goes_on : s.goes_on ≡ not anchored
  pub matched : s.matched ≡ None

-- The same, if the byte before is known alone, or none is there.
abbrev pub IsFirst : Setting → ℕ → Option ℕ → Bool → State → Type 0
IsFirst g root before = IsFirstBeside root (told g.needs g.terminator before)

-- THE SEARCH UNDER WAY

abbrev pub Stops : List Place → Pair → Type 0
Stops places n = IsTrue (is_match places n.0)

-- The starts after position i.
abbrev pub later_starts : Bool → ℕ → ℕ → ℕ → List Pair
later_starts true root i hi = starts root (i + 1) (hi - i)
later_starts false root i hi = []

-- All starts of a search.
abbrev pub all_starts : Bool → ℕ → ℕ → ℕ → List Pair
all_starts anchored root lo hi = (root, lo) ∷ later_starts (not anchored) root lo hi

-- The last match seen.
abbrev pub best_at : ℕ → Option ℕ → Option Pair → Option Pair
best_at i matched best = option_or (option_map (λ q. (q, i)) matched) best

-- The bounds of the search are within the slice.
pub record IsInside (t : Text) (lo hi : ℕ) : Type 0 where
  pub low : t.slice_start ≤ lo
  pub high : hi ≤ t.slice_end
  pub bounded : t.slice_end ≤ length t.content

-- What a step over the byte at i is told, forwards and backwards, that knows both its sides.
abbrev pub sides_ahead : Setting → Text → ℕ → Sides
sides_ahead g t i = sides_near g.needs g.terminator (after_at t i) (told_side g.needs g.terminator (before_at t (i + 1)))

abbrev pub sides_behind : Setting → Text → ℕ → Sides
sides_behind g t i = sides_near g.needs g.terminator (before_at t (i + 1)) (told_side g.needs g.terminator (after_at t i))

-- Before the byte at i, in the state s, if `best` is the last match found.
pub record IsUnderWay (g : Setting) (t : Text) (hi root : ℕ) (origin : List Pair) (i : ℕ) (s : State) (best : Option Pair) : Type 0 where
  pub carries : Carries (ways g.places t hi) (Stops g.places) origin (at i s.list ++ later_starts s.goes_on root i hi) best
  pub beside : s.beside ≡ told_side g.needs t.terminator (before_at t i)
