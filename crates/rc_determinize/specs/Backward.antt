-- Reverse determinization: states of a search backwards, as the places that reach the end, and the
-- step from one position to the one before.
use Rattle.std.specs.Prelude.{◌≡◌, ℕ, zero, suc, ◌<◌, ◌≤◌, ◌↔◌, false, List, [], ◌∷◌, Option, Some, None, IsTrue}
use Rattle.rc_pattern.specs.declared.hir.Look.{Look}
use Rattle.rc_program.specs.Text.{Text, after_at}
use Rattle.rc_program.specs.Program.{Place, Way, stays, reads, ways_out, place_at, ways}
use Rattle.rc_determinize.specs.Steps.{HasPlace, IsRising, HasWay, out_by}
use Rattle.rc_determinize.specs.declared.sides.Seen.{Seen}
use Rattle.rc_determinize.specs.declared.sides.Sides.{Sides}
use Rattle.rc_determinize.specs.Sides.{holds_by, told, told_side, sides_of}
use Rattle.rc_determinize.specs.Run.{IsBackState, IsGoal, Reaches}
use Rattle.rc_determinize.specs.States.{Setting, State, Stops, is_match}

-- Ways that read nothing lead from the place to one of the list.
pub data LeadsBy (out : ℕ → List Way) (list : List ℕ) : ℕ → Type 0 where
  listed : (q : ℕ) → HasPlace q list → LeadsBy out list q
  leads : (q p : ℕ) → HasWay (stays p) (out q) → LeadsBy out list p → LeadsBy out list q

-- The ways that read nothing, by the facts about both sides.
abbrev pub still_out : List Place → Seen → Seen → ℕ → List Way
still_out places behind ahead q = ways_out (holds_by behind ahead) [] (place_at places q)

-- Ways that read nothing lead to the state, by these facts about the side before.
abbrev pub LeadsOver : List Place → State → Seen → ℕ → Type 0
LeadsOver places s behind = LeadsBy (still_out places behind s.beside) s.list

-- The same, if this byte comes before, or none.
abbrev pub LeadsHere : Setting → State → Option ℕ → ℕ → Type 0
LeadsHere g s before = LeadsOver g.places s (told g.needs g.terminator before)

-- A way over the byte leads from the first place to the second.
abbrev pub ReadsTo : List Place → ℕ → ℕ → ℕ → Type 0
ReadsTo places b q p = HasWay (reads 1 p) (out_by places (λ (l : Look). false) (Some b) q)

-- The number of the first of the roots of which it holds.
abbrev pub IsFirstRoot : (ℕ → Type 0) → List ℕ → Option ℕ → Type 0
IsFirstRoot Holds [] None = Unit {0}
IsFirstRoot Holds [] (Some k) = ⊥
IsFirstRoot Holds (root ∷ roots) None = (¬ Holds root) × IsFirstRoot Holds roots None
IsFirstRoot Holds (root ∷ roots) (Some zero) = Holds root
IsFirstRoot Holds (root ∷ roots) (Some (suc k)) = (¬ Holds root) × IsFirstRoot Holds roots (Some k)

-- The state to which the byte before leads, or the beginning, by what is told of its sides. It lists
-- the places that reach the state over that byte. Its `matched` is the first of the roots that
-- reached the state before that byte, if one did.
pub record IsPriorOver (places : List Place) (roots : List ℕ) (s : State) (sides : Sides) (t : State) : Type 0 where
  pub list : (q : ℕ) → HasPlace q t.list ↔ ((b : ℕ) × (sides.byte ≡ Some b) × (p : ℕ) × ReadsTo places b q p × LeadsOver places s sides.near p)
  pub rising : IsRising t.list
  pub matched : IsFirstRoot (LeadsOver places s sides.near) roots t.matched
  pub goes_on : t.goes_on ≡ false
  pub beside : t.beside ≡ sides.far

-- The same, if the byte is known alone.
abbrev pub IsPrior : Setting → List ℕ → State → Option ℕ → State → Type 0
IsPrior g roots s before = IsPriorOver g.places roots s (sides_of g.needs g.terminator before)

-- The state at the end, with these facts about the side after: the match places.
pub record IsLastBeside (places : List Place) (facts : Seen) (s : State) : Type 0 where
  pub list : (q : ℕ) → HasPlace q s.list ↔ IsTrue (is_match places q)
  pub rising : IsRising s.list
  pub matched : s.matched ≡ None
  pub goes_on : s.goes_on ≡ false
  pub beside : s.beside ≡ facts

-- The same, if the byte after is known alone, or none is there.
abbrev pub IsLast : Setting → Option ℕ → State → Type 0
IsLast g after = IsLastBeside g.places (told g.needs g.terminator after)

-- At the position i, on the way down from `end`.
pub record IsComing (g : Setting) (t : Text) (hi end i : ℕ) (s : State) : Type 0 where
  pub list : IsBackState (ways g.places t hi) (Stops g.places) end i s.list
  pub beside : s.beside ≡ told_side g.needs t.terminator (after_at t i)

-- A walk leads from the root at i to a match place at `end`.
abbrev pub ReachesEnd : Setting → Text → ℕ → ℕ → ℕ → ℕ → Type 0
ReachesEnd g t hi end i root = Reaches (ways g.places t hi) (IsGoal (Stops g.places) end) (root, i)

-- The least position so far, on the way down from `end` to `i`, at which some root reaches the end,
-- and the first root that does.
abbrev pub IsLeastSoFar : Setting → Text → ℕ → ℕ → List ℕ → ℕ → Option (ℕ × ℕ) → Type 0
IsLeastSoFar g t hi end roots i None = (y : ℕ) → i ≤ y → y ≤ end → IsFirstRoot (ReachesEnd g t hi end y) roots None
IsLeastSoFar g t hi end roots i (Some m) =
    (i ≤ m.0) × (m.0 ≤ end) × IsFirstRoot (ReachesEnd g t hi end m.0) roots (Some m.1)
    × ((y : ℕ) → i ≤ y → y < m.0 → IsFirstRoot (ReachesEnd g t hi end y) roots None)

-- The one found here, or else the one found before.
abbrev pub least_at : ℕ → Option ℕ → Option (ℕ × ℕ) → Option (ℕ × ℕ)
least_at i None least = least
least_at i (Some k) least = Some (i, k)
