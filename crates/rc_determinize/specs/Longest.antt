-- Determinization for leftmost-longest: the places under way, in groups by where their walks began.
use Rattle.std.specs.Prelude.{◌≡◌, ℕ, ◌&&◌, Bool, true, false, List, [], ◌∷◌, ◌++◌, length, map, Option, Some, None, is_none, IsTrue, nat_eq, if◌then◌else◌}
use Rattle.std.specs.Option.{option_or}
use Rattle.rc_program.specs.Program.{Place, Way, stays, reads}
use Rattle.rc_determinize.specs.Steps.{HasPlace, Adds}
use Rattle.rc_determinize.specs.declared.sides.Sides.{Sides}
use Rattle.rc_determinize.specs.Sides.{sides_of, out_over}
use Rattle.rc_determinize.specs.States.{Setting, State, is_match}

-- A state's list has the places of the walks under way, those of lesser starts first, and a mark
-- between two starts. The mark is the number of places of the program, which is no place of it.

-- The place in front of the first group.
abbrev pub put : ℕ → List (List ℕ) → List (List ℕ)
put q [] = (q ∷ []) ∷ []
put q (g ∷ gs) = (q ∷ g) ∷ gs

-- The groups between the marks: each has the places of one start.
abbrev pub groups_of : ℕ → List ℕ → List (List ℕ)
groups_of mark [] = []
groups_of mark (q ∷ qs) = if nat_eq q mark then [] ∷ groups_of mark qs else put q (groups_of mark qs)

-- Both lists, with a mark between them if neither is empty.
abbrev pub joined : ℕ → List ℕ → List ℕ → List ℕ
joined mark [] rest = rest
joined mark (q ∷ g) [] = q ∷ g
joined mark (q ∷ g) (p ∷ rest) = (q ∷ g) ++ mark ∷ p ∷ rest

-- One list of all groups that aren't empty, with a mark between two of them.
abbrev pub parted : ℕ → List (List ℕ) → List ℕ
parted mark [] = []
parted mark (g ∷ gs) = joined mark g (parted mark gs)

-- All places of the groups.
abbrev pub flat : List (List ℕ) → List ℕ
flat [] = []
flat (g ∷ gs) = g ++ flat gs

-- `Closes out ends visited from onward stop visited2`: the search at one position, for walks of one
-- start. It is `Steps`, but for a place where a walk may end: that drops nothing, since a later end
-- may follow. `matched` is the first such place.
pub data Closes (out : ℕ → List Way) (ends : ℕ → Bool) : List ℕ → List Way → List ℕ → Option ℕ → List ℕ → Type 0 where
  out_of_ways : {visited : List ℕ} → Closes out ends visited [] [] None visited
  hands_on : {visited onward visited2 : List ℕ} {from : List Way} {matched : Option ℕ} (q : ℕ) →
      Closes out ends visited from onward matched visited2 → Closes out ends visited (reads 1 q ∷ from) (q ∷ onward) matched visited2
  skips : {visited onward visited2 : List ℕ} {from : List Way} {matched : Option ℕ} (q : ℕ) → HasPlace q visited →
      Closes out ends visited from onward matched visited2 → Closes out ends visited (stays q ∷ from) onward matched visited2
  arrives : {visited onward visited2 : List ℕ} {from : List Way} {matched : Option ℕ} (q : ℕ) → ¬ HasPlace q visited → IsTrue (ends q) →
      Closes out ends (q ∷ visited) from onward matched visited2 → Closes out ends visited (stays q ∷ from) onward (Some q) visited2
  comes_back : {visited onward onward2 visited2 visited3 : List ℕ} {from : List Way} {matched stop2 : Option ℕ} (q : ℕ) →
      ¬ HasPlace q visited → ¬ IsTrue (ends q) →
      Closes out ends (q ∷ visited) (out q) onward matched visited2 → Closes out ends visited2 from onward2 stop2 visited3 →
      Closes out ends visited (stays q ∷ from) (onward ++ onward2) (option_or matched stop2) visited3

-- `GroupSteps out ends visited groups onward stop`: each group is closed over in turn, and a place
-- that was visited for a lesser start is skipped. A match of one group drops the groups after it,
-- which are of later starts, and nothing of its own.
pub data GroupSteps (out : ℕ → List Way) (ends : ℕ → Bool) : List ℕ → List (List ℕ) → List (List ℕ) → Option ℕ → Type 0 where
  over : {visited : List ℕ} → GroupSteps out ends visited [] [] None
  goes : {visited group onward visited2 : List ℕ} {groups onwards : List (List ℕ)} {matched : Option ℕ} →
      Closes out ends visited (map stays group) onward None visited2 → GroupSteps out ends visited2 groups onwards matched →
      GroupSteps out ends visited (group ∷ groups) (onward ∷ onwards) matched
  stops : {visited group onward visited2 : List ℕ} {groups : List (List ℕ)} {e : ℕ} →
      Closes out ends visited (map stays group) onward (Some e) visited2 →
      GroupSteps out ends visited (group ∷ groups) (onward ∷ []) (Some e)

-- `AddsGroups listed groups new`: of each group, the places that no earlier group lists, each once.
pub data AddsGroups : List ℕ → List (List ℕ) → List (List ℕ) → Type 0 where
  all_added : {listed : List ℕ} → AddsGroups listed [] []
  adds : {listed group own : List ℕ} {groups new : List (List ℕ)} → Adds listed group (listed ++ own) →
      AddsGroups (listed ++ own) groups new → AddsGroups listed (group ∷ groups) (own ∷ new)

-- If walks may begin at the next position too, a group of that start.
abbrev pub root_group : Bool → ℕ → List (List ℕ)
root_group true root = (root ∷ []) ∷ []
root_group false root = []

-- The state to which a byte leads, or the end, by what is told of its sides. A match ends the walks
-- of later starts, and none may begin any more. Those of its own start go on, since a longer match
-- may follow.
pub record IsNextOfLongestOver (places : List Place) (root : ℕ) (s : State) (sides : Sides) (t : State) : Type 0 where
  pub onward : List (List ℕ)
  pub groups : List (List ℕ)
  pub steps : GroupSteps (out_over places s.beside sides) (is_match places) [] (groups_of (length places) s.list) onward t.matched
  pub goes_on : t.goes_on ≡ (s.goes_on && is_none t.matched)
  pub once : AddsGroups [] (onward ++ root_group t.goes_on root) groups
  pub list : t.list ≡ parted (length places) groups
  pub beside : t.beside ≡ sides.far

-- The same, if the byte is known alone.
abbrev pub IsNextOfLongest : Setting → ℕ → State → Option ℕ → State → Type 0
IsNextOfLongest g root s after = IsNextOfLongestOver g.places root s (sides_of g.needs g.terminator after)
