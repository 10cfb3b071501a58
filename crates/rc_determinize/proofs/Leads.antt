-- Words of the lemmas on searches backwards.
use Rattle.std.proofs.Common.{ℕ, ◌<◌, ◌≤◌, List}
use Rattle.rc_walks.specs.Walks.{Pair, IsIn}
use Rattle.rc_determinize.specs.Steps.{HasPlace}
use Rattle.rc_determinize.specs.Run.{Reaches, IsGoal}

-- edges at position i lead from the place to one of the list
pub data Leads (ways : Pair → List Pair) (i : ℕ) (list : List ℕ) : ℕ → Type 0 where
  listed : (q : ℕ) → HasPlace q list → Leads ways i list q
  leads : (q p : ℕ) → IsIn (p, i) (ways (q, i)) → Leads ways i list p → Leads ways i list q

-- the least start from `from` on, up to `end`, from which edges lead to the goal
pub record IsLeastStart (ways : Pair → List Pair) (Ends : Pair → Type 0) (root from end x : ℕ) : Type 0 where
  pub at_least : from ≤ x
  pub at_most : x ≤ end
  pub reaches : Reaches ways (IsGoal Ends end) (root, x)
  pub least : (y : ℕ) → from ≤ y → y < x → ¬ Reaches ways (IsGoal Ends end) (root, y)
