-- Only proofs use this file.
-- Runs: how far a one-pass DFA has come along a walk.
use Rattle.std.specs.Prelude.{◌≡◌, ℕ, ◌<◌, ◌≤◌, Bool, false, ◌||◌, List, [], ◌∷◌, length, Option, Some, None, IsTrue, nat_eq, if◌then◌else◌, slice_get, slice_index_or}
use Rattle.std.specs.Option.{option_or}
use Rattle.rc_text.specs.Found.{Found}
use Rattle.rc_walks.specs.Walks.{Pair, IsWalk}
use Rattle.rc_program.specs.Answer.{Search, Chosen, ends, found, last_of, last_visit, next_of}
use Rattle.rc_onepass.specs.OnePass.{IsEntered}

-- The walk from place 0 is this match, within the search and the content.
pub record IsWalkOver (s : Search) (c : Chosen) (m : Found) : Type 0 where
  pub walk : IsWalk (next_of s) (λ n. IsTrue (ends s n)) [] ((0, c.start) ∷ []) c.walk
  pub found : found s c ≡ m
  pub within : (last_of c.walk).1 ≤ s.hi
  pub inside : (last_of c.walk).1 ≤ length s.text.content

-- A byte past ASCII stands between the positions.
abbrev pub HasWide : List ℕ → ℕ → ℕ → Type 0
HasWide content i j = (k : ℕ) × ((b : ℕ) × (i ≤ k) × (k < j) × (slice_get content k ≡ Some b) × (128 ≤ b))

-- The slot is in the list.
abbrev pub has : List ℕ → ℕ → Bool
has [] k = false
has (j ∷ js) k = nat_eq j k || has js k

-- The slots of the list are set to the position, the others stay.
pub record Marks (ks : List ℕ) (at : ℕ) (before after : List (Option ℕ)) : Type 0 where
  pub long : length after ≡ length before
  pub marked : (k : ℕ) → k < length before → slice_index_or after k None ≡ (if has ks k then Some at else slice_index_or before k None)

-- The slots are those before, but for the ones that the walk names: these have the position of
-- their last visit.
abbrev pub HasVisits : Search → List Pair → List (Option ℕ) → List (Option ℕ) → Type 0
HasVisits s w before after =
    (k : ℕ) → k < length before → slice_index_or after k None ≡ option_or (last_visit s.places k w) (slice_index_or before k None)

-- The run has come to the place q at the position: the rest of the walk leads on from there, and
-- the slots have what the walk named so far.
pub record Stands (s : Search) (w : List Pair) (before : List (Option ℕ)) (at q : ℕ) (slots : List (Option ℕ)) : Type 0 where
  pub passed : List Pair
  pub rest : List Pair
  pub walk : IsWalk (next_of s) (λ n. IsTrue (ends s n)) passed ((q, at) ∷ []) rest
  pub last : last_of rest ≡ last_of w
  pub within : (last_of w).1 ≤ s.hi
  pub inside : (last_of w).1 ≤ length s.text.content
  pub entered : IsEntered s.places q
  pub long : length slots ≡ length before
  pub visits : (k : ℕ) → k < length before → option_or (last_visit s.places k w) (slice_index_or before k None)
      ≡ option_or (last_visit s.places k rest) (slice_index_or slots k None)
