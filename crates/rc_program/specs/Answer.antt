-- Answers: what one search gives.
use Rattle.std.specs.Prelude.{◌≡◌, ◌↔◌, ℕ, zero, suc, ◌+◌, ◌-◌, ◌*◌, ◌<◌, ◌≤◌, ◌⊎◌, Bool, true, false, not, ◌||◌, List, [], ◌∷◌, length, map, Option, Some, None, IsTrue, if◌then◌else◌, nat_eq, min}
use Rattle.std.specs.List.{range_with_len}
use Rattle.std.specs.Option.{option_or, option_map, option_and_then}
use Rattle.rc_text.specs.Text.{is_boundary}
use Rattle.rc_text.specs.Found.{Found}
use Rattle.rc_walks.specs.Walks.{Pair, IsFirstWalk, HasNoWalk}
use Rattle.rc_walks.specs.Tries.{walk_by}
use Rattle.rc_program.specs.Text.{Text}
use Rattle.rc_program.specs.Program.{Place, slot, accept, place_at, ways, is_match_place}

-- Where walks may begin, and of which pattern.
pub data Anchoring : Type 0 where
  -- At each position.
  anywhere : Anchoring
  -- At `lo` alone.
  at_start : Anchoring
  -- At `lo` alone, and of this pattern alone.
  by_pattern : ℕ → Anchoring

-- One search: the program, what it sees, its bounds, its anchoring, and whether matches may be
-- passed over.
pub record Search : Type 0 where
  pub places : List Place
  pub text : Text
  pub lo : ℕ
  pub hi : ℕ
  pub anchoring : Anchoring
  pub passes_over : Bool

-- The only pattern allowed; `None` allows all.
abbrev pub only : Anchoring → Option ℕ
only anywhere = None
only at_start = None
only (by_pattern p) = Some p

abbrev pub is_anchored : Anchoring → Bool
is_anchored anywhere = false
is_anchored at_start = true
is_anchored (by_pattern p) = true

-- A walk may end here.
abbrev pub ends : Search → Pair → Bool
ends s n = is_match_place (only s.anchoring) (place_at s.places n.0)

abbrev pub next_of : Search → Pair → List Pair
next_of s = ways s.places s.text s.hi

-- w is the first of the walks from x.
abbrev pub IsFirstFrom : Search → ℕ → List Pair → Type 0
IsFirstFrom s x w = IsFirstWalk (next_of s) (λ n. IsTrue (ends s n)) [] ((0, x) ∷ []) w

abbrev pub HasNoWalkFrom : Search → ℕ → Type 0
HasNoWalkFrom s x = HasNoWalk (next_of s) (λ n. IsTrue (ends s n)) [] ((0, x) ∷ [])

-- The last pair of a walk.
abbrev pub last_of : List Pair → Pair
last_of [] = (0, 0)
last_of (n ∷ []) = n
last_of (n ∷ m ∷ w) = last_of (m ∷ w)

-- The walk ends on a boundary, if matches that end off one are passed over.
abbrev pub is_allowed : Search → List Pair → Bool
is_allowed s w = not s.passes_over || is_boundary s.text.content (last_of w).1

-- A start that the search tries.
abbrev pub IsStart : Search → ℕ → Type 0
IsStart s x = (s.lo ≤ x) × (x ≤ s.hi) × (IsTrue (is_anchored s.anchoring) → x ≡ s.lo)

-- The start x gives no answer: it has no walk, or the first walk is passed over.
abbrev pub IsPassed : Search → ℕ → Type 0
IsPassed s x = HasNoWalkFrom s x ⊎ ((w : List Pair) × IsFirstFrom s x w × (is_allowed s w ≡ false))

-- A start and a walk from there.
pub record Chosen : Type 0 where
  pub start : ℕ
  pub walk : List Pair

-- It is the first walk of the least start that gives an answer.
pub record IsAnswer (s : Search) (c : Chosen) : Type 0 where
  pub is_start : IsStart s c.start
  pub is_first : IsFirstFrom s c.start c.walk
  pub allowed : IsTrue (is_allowed s c.walk)
  pub none_before : (y : ℕ) → IsStart s y → y < c.start → IsPassed s y

-- No start gives an answer.
abbrev pub HasNoAnswer : Search → Type 0
HasNoAnswer s = (y : ℕ) → IsStart s y → IsPassed s y

-- The slot that a place names.
abbrev pub names : Place → ℕ → Bool
names (slot j n) k = nat_eq j k
names _ k = false

-- The position at the walk's last visit of a place that names the slot.
abbrev pub last_visit : List Place → ℕ → List Pair → Option ℕ
last_visit places k [] = None
last_visit places k (n ∷ w) = option_or (last_visit places k w) (if names (place_at places n.0) k then Some n.1 else None)

-- The pattern of a match place.
abbrev pub pattern_at : Place → ℕ
pattern_at (accept p) = p
pattern_at _ = 0

-- The pattern of a chosen walk.
abbrev pub pattern_of : Search → Chosen → ℕ
pattern_of s c = pattern_at (place_at s.places (last_of c.walk).0)

-- The match that a chosen walk is.
abbrev pub found : Search → Chosen → Found
found s c = record {
  pattern = pattern_of s c;
  start = c.start;
  end = (last_of c.walk).1;
}

-- The slot k. The slots 2 * p and 2 * p + 1 have the whole match of pattern p.
abbrev pub slot_of : Search → Chosen → ℕ → Option ℕ
slot_of s c k =
    if nat_eq k (2 * pattern_of s c) then Some c.start
    else if nat_eq k (2 * pattern_of s c + 1) then Some (last_of c.walk).1
    else last_visit s.places k c.walk

-- The first n slots.
abbrev pub slots_of : Search → ℕ → Chosen → List (Option ℕ)
slots_of s n c = map (slot_of s c) (range_with_len 0 n)

-- The answer as a function. The law `AnswerLaw` says that this is the answer.

abbrev pub allowed_only : Search → ℕ → List Pair → Option Chosen
allowed_only s x w = if is_allowed s w then Some (record { start = x; walk = w }) else None

-- The answer of the start x; no walk has more pairs than there are.
abbrev pub from_start : Search → ℕ → Option Chosen
from_start s x = option_and_then (allowed_only s x) (walk_by (next_of s) (ends s) (length s.places * (s.hi + 1)) [] (0, x))

-- The result of the first of so many numbers from x on that has one.
abbrev pub first_given : {A : Type 0} → (ℕ → Option A) → ℕ → ℕ → Option A
first_given gives zero x = None
first_given gives (suc n) x = option_or (gives x) (first_given gives n (x + 1))

-- How many starts are tried.
abbrev pub start_count : Search → ℕ
start_count s = if is_anchored s.anchoring then min 1 (s.hi + 1 - s.lo) else s.hi + 1 - s.lo

-- The start and the walk.
unfoldable pub chosen : Search → Option Chosen
chosen s = first_given (from_start s) (start_count s) s.lo

-- The match.
unfoldable pub answer : Search → Option Found
answer s = option_map (found s) (chosen s)

-- The first n slots of the match.
unfoldable pub groups : Search → ℕ → Option (List (Option ℕ))
groups s n = option_map (slots_of s n) (chosen s)

-- The functions give the answer, and nothing if there is none.
pub record AnswerLaw : Type 0 where
  pub chosen_some : (s : Search) (c : Chosen) → (chosen s ≡ Some c) ↔ IsAnswer s c
  pub chosen_none : (s : Search) → (chosen s ≡ None) ↔ HasNoAnswer s
  pub answer_some : (s : Search) (m : Found) → (answer s ≡ Some m) ↔ ((c : Chosen) × IsAnswer s c × (found s c ≡ m))
  pub answer_none : (s : Search) → (answer s ≡ None) ↔ HasNoAnswer s
  pub groups_some : (s : Search) (n : ℕ) (xs : List (Option ℕ)) → (groups s n ≡ Some xs) ↔ ((c : Chosen) × IsAnswer s c × (slots_of s n c ≡ xs))
  pub groups_none : (s : Search) (n : ℕ) → (groups s n ≡ None) ↔ HasNoAnswer s
