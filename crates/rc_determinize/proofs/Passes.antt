-- The search at one position.
use Rattle.std.proofs.Common.{◌≡◌, ℕ, ◌<◌, ◌≤◌, List, [], ◌∷◌, ◌++◌, Option, Some, None}
use Rattle.rc_walks.specs.Walks.{Pair, IsIn}

-- The search at position i: pairs of later positions are handed on in the order in which they are met, a pair that
-- was visited is skipped, and at the first pair where a walk may end all that is left is dropped.
-- `Passes i visited from onward stop visited2`.
pub data Passes (ways : Pair → List Pair) (Ends : Pair → Type 0) (i : ℕ) :
    List Pair → List Pair → List Pair → Option Pair → List Pair → Type 0 where
  out_of_ways : {visited : List Pair} → Passes ways Ends i visited [] [] None visited
  hands_on : {visited from onward visited2 : List Pair} {matched : Option Pair} (n : Pair) → i < n.1 →
      Passes ways Ends i visited from onward matched visited2 → Passes ways Ends i visited (n ∷ from) (n ∷ onward) matched visited2
  skips : {visited from onward visited2 : List Pair} {matched : Option Pair} (n : Pair) → IsIn n visited →
      Passes ways Ends i visited from onward matched visited2 → Passes ways Ends i visited (n ∷ from) onward matched visited2
  arrives : {visited from : List Pair} (n : Pair) → n.1 ≡ i → ¬ IsIn n visited → Ends n →
      Passes ways Ends i visited (n ∷ from) [] (Some n) visited
  stops_under : {visited from onward visited2 : List Pair} {e : Pair} (n : Pair) → n.1 ≡ i → ¬ IsIn n visited → ¬ Ends n →
      Passes ways Ends i (n ∷ visited) (ways n) onward (Some e) visited2 →
      Passes ways Ends i visited (n ∷ from) onward (Some e) visited2
  comes_back : {visited from onward onward2 visited2 visited3 : List Pair} {matched : Option Pair} (n : Pair) → n.1 ≡ i →
      ¬ IsIn n visited → ¬ Ends n →
      Passes ways Ends i (n ∷ visited) (ways n) onward None visited2 → Passes ways Ends i visited2 from onward2 matched visited3 →
      Passes ways Ends i visited (n ∷ from) (onward ++ onward2) matched visited3

-- each pair stands at j or later
abbrev pub AreFrom : ℕ → List Pair → Type 0
AreFrom j ns = (n : Pair) → IsIn n ns → j ≤ n.1

-- each pair stands before j
abbrev pub AreBelow : ℕ → List Pair → Type 0
AreBelow j ns = (n : Pair) → IsIn n ns → n.1 < j
