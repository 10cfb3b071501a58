-- Determinization for `MatchKind::All`: states as the sets of places to which some walk comes.
use Rattle.std.specs.Prelude.{◌≡◌, ℕ, ◌+◌, ◌≤◌, ◌⊎◌, ◌↔◌, true, List, Option, Some, None, IsTrue}
use Rattle.rc_walks.specs.Walks.{Pair, IsIn}
use Rattle.rc_program.specs.Text.{Text, before_at}
use Rattle.rc_program.specs.Program.{Place, Way, stays, reads, ways}
use Rattle.rc_determinize.specs.Steps.{HasPlace, IsRising, HasWay}
use Rattle.rc_determinize.specs.declared.sides.Sides.{Sides}
use Rattle.rc_determinize.specs.Sides.{told_side, sides_of, out_over}
use Rattle.rc_determinize.specs.States.{Setting, State, is_match}

-- Edges lead from one of the pairs to this one.
pub data Comes (ways : Pair → List Pair) (origin : List Pair) : Pair → Type 0 where
  begins : (n : Pair) → IsIn n origin → Comes ways origin n
  goes : (n m : Pair) → Comes ways origin m → IsIn n (ways m) → Comes ways origin n

-- Ways that read nothing lead from a place of the list to this one.
pub data ComesBy (out : ℕ → List Way) (list : List ℕ) : ℕ → Type 0 where
  listed : (q : ℕ) → HasPlace q list → ComesBy out list q
  follows : (q p : ℕ) → ComesBy out list p → HasWay (stays q) (out p) → ComesBy out list q

-- Some walk comes to the place at the state's position, by what is told of the byte ahead.
abbrev pub ComesOver : List Place → State → Sides → ℕ → Type 0
ComesOver places s sides = ComesBy (out_over places s.beside sides) s.list

abbrev pub ComesHere : Setting → State → Option ℕ → ℕ → Type 0
ComesHere g s after = ComesOver g.places s (sides_of g.needs g.terminator after)

-- It is a match place to which some walk comes at the state's position.
abbrev pub EndsOver : List Place → State → Sides → ℕ → Type 0
EndsOver places s sides q = ComesOver places s sides q × IsTrue (is_match places q)

abbrev pub EndsHere : Setting → State → Option ℕ → ℕ → Type 0
EndsHere g s after = EndsOver g.places s (sides_of g.needs g.terminator after)

-- The least match place of which it holds, if there is one.
abbrev pub IsLeastMatch : List Place → (ℕ → Type 0) → Option ℕ → Type 0
IsLeastMatch places Holds (Some q) = IsTrue (is_match places q) × Holds q × ((p : ℕ) → Holds p → IsTrue (is_match places p) → q ≤ p)
IsLeastMatch places Holds None = (q : ℕ) → Holds q → ¬ IsTrue (is_match places q)

-- An edge over the byte leads to the place from one to which ways lead that read nothing.
abbrev pub IsReadOver : List Place → State → Sides → ℕ → Type 0
IsReadOver places s sides q = (p : ℕ) × ComesOver places s sides p × HasWay (reads 1 q) (out_over places s.beside sides p)

-- The state to which a byte leads, or the end, by what is told of its sides. A match ends nothing.
pub record IsNextOfAllOver (places : List Place) (root : ℕ) (s : State) (sides : Sides) (t : State) : Type 0 where
  pub list : (q : ℕ) → HasPlace q t.list ↔ (((t.goes_on ≡ true) × (q ≡ root)) ⊎ IsReadOver places s sides q)
  pub rising : IsRising t.list
  pub matched : IsLeastMatch places (ComesOver places s sides) t.matched
  pub goes_on : t.goes_on ≡ s.goes_on
  pub beside : t.beside ≡ sides.far

-- The same, if the byte is known alone.
abbrev pub IsNextOfAll : Setting → ℕ → State → Option ℕ → State → Type 0
IsNextOfAll g root s after = IsNextOfAllOver g.places root s (sides_of g.needs g.terminator after)

-- A pair of the position i is one of the first, or an edge over the byte before leads to it.
abbrev pub ArrivesAt : (Pair → List Pair) → List Pair → ℕ → ℕ → Type 0
ArrivesAt ways origin i q =
    IsIn (q, i) origin ⊎ ((j : ℕ) × (p : ℕ) × (j + 1 ≡ i) × Comes ways origin (p, j) × IsIn (q, i) (ways (p, j)))

pub record IsGathering (g : Setting) (t : Text) (hi : ℕ) (origin : List Pair) (i : ℕ) (s : State) : Type 0 where
  pub list : (q : ℕ) → HasPlace q s.list ↔ ArrivesAt (ways g.places t hi) origin i q
  pub beside : s.beside ≡ told_side g.needs t.terminator (before_at t i)
