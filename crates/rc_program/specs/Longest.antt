-- Longest matches: the answer of a search if of the walks from a start the longest counts.
use Rattle.std.specs.Prelude.{◌≡◌, ◌↔◌, ℕ, zero, suc, ◌+◌, ◌*◌, ◌<◌, ◌≤◌, ◌⊎◌, Bool, false, ◌&&◌, List, [], ◌∷◌, length, Option, Some, None, IsTrue, nat_eq}
use Rattle.std.specs.Option.{option_or, option_map, option_and_then}
use Rattle.rc_text.specs.Found.{Found}
use Rattle.rc_walks.specs.Walks.{Pair, IsWalk, IsBefore}
use Rattle.rc_walks.specs.Tries.{walk_by}
use Rattle.rc_program.specs.Answer.{Search, Chosen, last_of, ends, next_of, HasNoWalkFrom, IsFirstFrom, IsAnswer, IsStart, is_allowed, allowed_only, first_given, start_count, found, slots_of, answer, chosen}
use Rattle.rc_program.specs.Greatest.{IsSpelledIn}

-- It is a walk, no other reaches further, and it comes before each other that reaches as far.
pub record IsLongestWalk (ways : Pair → List Pair) (Ends : Pair → Type 0) (passed from w : List Pair) : Type 0 where
  pub is_walk : IsWalk ways Ends passed from w
  pub is_most : (v : List Pair) → IsWalk ways Ends passed from v → (last_of v).1 ≤ (last_of w).1
  pub is_least : (v : List Pair) → IsWalk ways Ends passed from v → (last_of v).1 ≡ (last_of w).1 → (v ≡ w) ⊎ IsBefore ways from w v

-- Of the walks from x that reach furthest, w is the first.
abbrev pub IsLongestFrom : Search → ℕ → List Pair → Type 0
IsLongestFrom s x w = IsLongestWalk (next_of s) (λ n. IsTrue (ends s n)) [] ((0, x) ∷ []) w

-- The answer, by which walk of a start counts. In `IsAnswer` the first one does.

-- The start x gives no answer: it has no walk, or the walk that counts is passed over.
abbrev pub IsPassedOf : Search → (ℕ → List Pair → Type 0) → ℕ → Type 0
IsPassedOf s Counts x = HasNoWalkFrom s x ⊎ ((w : List Pair) × Counts x w × (is_allowed s w ≡ false))

-- It is the walk that counts of the least start that gives an answer.
pub record IsAnswerOf (s : Search) (Counts : ℕ → List Pair → Type 0) (c : Chosen) : Type 0 where
  pub is_start : IsStart s c.start
  pub counts : Counts c.start c.walk
  pub allowed : IsTrue (is_allowed s c.walk)
  pub none_before : (y : ℕ) → IsStart s y → y < c.start → IsPassedOf s Counts y

-- No start gives an answer.
abbrev pub HasNoAnswerOf : Search → (ℕ → List Pair → Type 0) → Type 0
HasNoAnswerOf s Counts = (y : ℕ) → IsStart s y → IsPassedOf s Counts y

-- The longest walk of the least start that gives an answer.
abbrev pub IsLongestAnswer : Search → Chosen → Type 0
IsLongestAnswer s c = IsAnswerOf s (IsLongestFrom s) c

abbrev pub HasNoLongestAnswer : Search → Type 0
HasNoLongestAnswer s = HasNoAnswerOf s (IsLongestFrom s)

-- The answer as a function. The law `LongestLaw` says that this is the answer.

-- The start and the walk, if `walk` gives the one that counts.
abbrev pub chosen_of : Search → (ℕ → Option (List Pair)) → Option Chosen
chosen_of s walk = first_given (λ x. option_and_then (allowed_only s x) (walk x)) (start_count s) s.lo

-- A walk may end here, at the position e.
abbrev pub ends_at : Search → ℕ → Pair → Bool
ends_at s e n = ends s n && nat_eq n.1 e

-- The first walk from x to e.
abbrev pub walk_to : Search → ℕ → ℕ → Option (List Pair)
walk_to s x e = walk_by (next_of s) (ends_at s e) (length s.places * (s.hi + 1)) [] (0, x)

-- The result of the last of the numbers below n that has one.
abbrev pub furthest : (ℕ → Option (List Pair)) → ℕ → Option (List Pair)
furthest gives zero = None
furthest gives (suc n) = option_or (gives n) (furthest gives n)

-- The first walk from x to the greatest end.
abbrev pub longest_walk : Search → ℕ → Option (List Pair)
longest_walk s x = furthest (walk_to s x) (s.hi + 1)

-- The start and the walk.
unfoldable pub longest_chosen : Search → Option Chosen
longest_chosen s = chosen_of s (longest_walk s)

-- The match.
unfoldable pub longest : Search → Option Found
longest s = option_map (found s) (longest_chosen s)

-- The first n slots of the match.
unfoldable pub longest_groups : Search → ℕ → Option (List (Option ℕ))
longest_groups s n = option_map (slots_of s n) (longest_chosen s)

-- The functions give the answer, and nothing if there is none.
pub record LongestLaw : Type 0 where
  pub chosen_some : (s : Search) (c : Chosen) → (longest_chosen s ≡ Some c) ↔ IsLongestAnswer s c
  pub chosen_none : (s : Search) → (longest_chosen s ≡ None) ↔ HasNoLongestAnswer s
  pub answer_some : (s : Search) (m : Found) → (longest s ≡ Some m) ↔ ((c : Chosen) × IsLongestAnswer s c × (found s c ≡ m))
  pub answer_none : (s : Search) → (longest s ≡ None) ↔ HasNoLongestAnswer s
  pub groups_some : (s : Search) (n : ℕ) (xs : List (Option ℕ)) →
      (longest_groups s n ≡ Some xs) ↔ ((c : Chosen) × IsLongestAnswer s c × (slots_of s n c ≡ xs))
  pub groups_none : (s : Search) (n : ℕ) → (longest_groups s n ≡ None) ↔ HasNoLongestAnswer s
  -- If the first walk of a start counts, the same words define the answer.
  pub first_is : (s : Search) (c : Chosen) → IsAnswerOf s (IsFirstFrom s) c ↔ IsAnswer s c
  -- If matches may not be passed over, the start is that of the answer, and the end no earlier.
  pub same_start : (s : Search) (c d : Chosen) → s.passes_over ≡ false → chosen s ≡ Some c → longest_chosen s ≡ Some d →
      (c.start ≡ d.start) × ((last_of c.walk).1 ≤ (last_of d.walk).1)
  -- It is missing exactly if there is no answer.
  pub same_none : (s : Search) → s.passes_over ≡ false → (longest s ≡ None) ↔ (answer s ≡ None)
  -- It is spelled.
  pub spelled : (s : Search) (m : Found) → longest s ≡ Some m → IsSpelledIn s m
