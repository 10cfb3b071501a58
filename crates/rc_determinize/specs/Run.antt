-- Reachability: what reaches a goal, and the places of one position that do.
use Rattle.std.specs.Prelude.{◌≡◌, ℕ, ◌+◌, ◌⊎◌, ◌↔◌, List}
use Rattle.rc_walks.specs.Walks.{Pair, IsIn}
use Rattle.rc_determinize.specs.Steps.{HasPlace}

-- Edges lead from the pair to one of which the goal holds.
pub data Reaches (ways : Pair → List Pair) (Goal : Pair → Type 0) : Pair → Type 0 where
  arrived : (n : Pair) → Goal n → Reaches ways Goal n
  goes_on : (n m : Pair) → IsIn m (ways n) → Reaches ways Goal m → Reaches ways Goal n

-- A place where a walk may end at the position `end`.
abbrev pub IsGoal : (Pair → Type 0) → ℕ → Pair → Type 0
IsGoal Ends end n = Ends n × (n.1 ≡ end)

-- The backward state at i: the places that reach the goal with an edge that reads the byte at i, or
-- that are it.
abbrev pub ReachesDirectly : (Pair → List Pair) → (Pair → Type 0) → ℕ → ℕ → ℕ → Type 0
ReachesDirectly ways Ends end i q =
    IsGoal Ends end (q, i) ⊎ ((p : ℕ) × IsIn (p, i + 1) (ways (q, i)) × Reaches ways (IsGoal Ends end) (p, i + 1))

abbrev pub IsBackState : (Pair → List Pair) → (Pair → Type 0) → ℕ → ℕ → List ℕ → Type 0
IsBackState ways Ends end i list = (q : ℕ) → HasPlace q list ↔ ReachesDirectly ways Ends end i q
