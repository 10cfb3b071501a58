-- Only proofs use this file.
-- Determinization: the step as a machine with a stack, a set of places entered, and a list that
-- grows.
use Rattle.std.specs.Prelude.{◌≡◌, ℕ, suc, map, List, [], ◌∷◌, ◌++◌, Option, Some, None, Bool, true, false, IsTrue, nat_eq, min, if◌then◌else◌, ◌↔◌}
use Rattle.std.specs.List.{list_any}
use Rattle.rc_program.specs.Program.{Place, Way, stays, reads}
use Rattle.rc_determinize.specs.Steps.{HasPlace, HasWay, Adds}
use Rattle.rc_determinize.specs.Sets.{ComesBy, IsLeastMatch}
use Rattle.rc_determinize.specs.Longest.{Closes, GroupSteps, AddsGroups, parted, flat}

-- `Runs steps entered stack next new stop`: so many steps lead to the end.
pub data Runs (out : ℕ → List Way) (ends : ℕ → Bool) : ℕ → List ℕ → List Way → List ℕ → List ℕ → Option ℕ → Type 0 where
  done : {entered next : List ℕ} → Runs out ends 0 entered [] next next None
  adds : {k : ℕ} {entered : List ℕ} {from : List Way} {next new : List ℕ} {matched : Option ℕ} (q : ℕ) → ¬ HasPlace q next →
      Runs out ends k entered from (next ++ q ∷ []) new matched → Runs out ends (suc k) entered (reads 1 q ∷ from) next new matched
  repeats : {k : ℕ} {entered : List ℕ} {from : List Way} {next new : List ℕ} {matched : Option ℕ} (q : ℕ) → HasPlace q next →
      Runs out ends k entered from next new matched → Runs out ends (suc k) entered (reads 1 q ∷ from) next new matched
  leaps : {k : ℕ} {entered : List ℕ} {from : List Way} {next new : List ℕ} {matched : Option ℕ} (q : ℕ) → HasPlace q entered →
      Runs out ends k entered from next new matched → Runs out ends (suc k) entered (stays q ∷ from) next new matched
  matches : {entered : List ℕ} {from : List Way} {next : List ℕ} (q : ℕ) → ¬ HasPlace q entered → IsTrue (ends q) →
      Runs out ends 0 entered (stays q ∷ from) next next (Some q)
  opens : {k : ℕ} {entered : List ℕ} {from : List Way} {next new : List ℕ} {matched : Option ℕ} (q : ℕ) → ¬ HasPlace q entered →
      ¬ IsTrue (ends q) → Runs out ends k (entered ++ q ∷ []) (out q ++ from) next new matched →
      Runs out ends (suc k) entered (stays q ∷ from) next new matched

abbrev pub Finishes : (ℕ → List Way) → (ℕ → Bool) → List ℕ → List Way → List ℕ → List ℕ → Option ℕ → Type 0
Finishes out ends entered from next new matched = (k : ℕ) × Runs out ends k entered from next new matched

-- The places to which ways lead that read nothing, in order.
abbrev pub stay_places : List Way → List ℕ
stay_places [] = []
stay_places (stays q ∷ ws) = q ∷ stay_places ws
stay_places (reads count q ∷ ws) = stay_places ws

-- The places to which ways lead that read.
abbrev pub read_places : List Way → List ℕ
read_places [] = []
read_places (stays q ∷ ws) = read_places ws
read_places (reads count q ∷ ws) = q ∷ read_places ws

-- The list with the place, unless it has it already.
abbrev pub add_one : List ℕ → ℕ → List ℕ
add_one list place = if list_any (λ q. nat_eq q place) list then list else list ++ place ∷ []

abbrev pub add_all : List ℕ → List ℕ → List ℕ
add_all list [] = list
add_all list (q ∷ qs) = add_all (add_one list q) qs

-- The lesser of the two, if the place counts.
abbrev pub least_with : Bool → Option ℕ → ℕ → Option ℕ
least_with false least q = least
least_with true None q = Some q
least_with true (Some p) q = Some (min p q)

-- The places to which the byte leads from those to which ways lead that read nothing, and the least
-- match place of these.
pub record IsGathered (out : ℕ → List Way) (places : List Place) (list next : List ℕ) (matched : Option ℕ) : Type 0 where
  pub listed : (q : ℕ) → HasPlace q next ↔ ((p : ℕ) × ComesBy out list p × HasWay (reads 1 q) (out p))
  pub least : IsLeastMatch places (ComesBy out list) matched

-- Both lists have the same places.
abbrev pub HaveSame : List ℕ → List ℕ → Type 0
HaveSame xs ys = (q : ℕ) → HasPlace q xs ↔ HasPlace q ys

-- The places were closed over, when these had been entered and those listed.
abbrev pub IsShut : (ℕ → List Way) → (ℕ → Bool) → List ℕ → List ℕ → List ℕ → List ℕ → List ℕ → Option ℕ → Type 0
IsShut out ends list entered entered2 listed listed2 matched =
    (visited : List ℕ) → HaveSame visited entered → (onward : List ℕ) × (visited2 : List ℕ)
    × Closes out ends visited (map stays list) onward matched visited2 × HaveSame visited2 entered2 × Adds listed onward listed2

-- The first that was found, or this place if it counts.
abbrev pub first_with : Bool → Option ℕ → ℕ → Option ℕ
first_with met (Some p) q = Some p
first_with true None q = Some q
first_with false None q = None

-- The group after those of the list, with a mark between.
abbrev pub with_group : ℕ → List ℕ → List ℕ → List ℕ
with_group mark list [] = list
with_group mark [] (q ∷ g) = q ∷ g
with_group mark (p ∷ list) (q ∷ g) = (p ∷ list) ++ mark ∷ q ∷ g

-- The groups were closed over in turn, up to one with a match. The list has what comes of them, and
-- so have those listed.
pub record IsParted (out : ℕ → List Way) (ends : ℕ → Bool) (mark : ℕ) (groups : List (List ℕ)) (listed2 list : List ℕ) (matched : Option ℕ) : Type 0 where
  pub onward : List (List ℕ)
  pub new : List (List ℕ)
  pub steps : GroupSteps out ends [] groups onward matched
  pub once : AddsGroups [] onward new
  pub all : listed2 ≡ flat new
  pub is_list : list ≡ parted mark new
