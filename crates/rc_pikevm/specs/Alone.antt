-- Only proofs use this file.
-- Places from which no walk leads on, and threads that go on alone.
use Rattle.std.specs.Prelude.{◌≡◌, ℕ, ◌+◌, ◌<◌, ◌≤◌, ◌⊎◌, List, [], ◌∷◌, Option, Some, None, IsTrue}
use Rattle.rc_walks.specs.Walks.{Pair, HasNoWalk}
use Rattle.rc_pikevm.specs.Sights.{Sight, ends, next_of}
use Rattle.rc_pikevm.specs.Moves.{IsMove}
use Rattle.rc_pikevm.specs.Threads.{Thread}
use Rattle.rc_pikevm.specs.Trace.{Trace}
use Rattle.rc_pikevm.specs.Passing.{Carries}
use Rattle.rc_pikevm.specs.Races.{Races, IsSought}
use Rattle.rc_pikevm.specs.declared.pass.Ending.{Ending}
use Rattle.rc_pikevm.specs.declared.moves.Move.{Move}
use Rattle.rc_pikevm.specs.declared.moves.Move.TheVariants.{Matches, Reads}

-- No walk leads on from the pair that avoids the pairs passed.
abbrev pub IsDead : Sight → List Pair → Pair → Type 0
IsDead s passed n = HasNoWalk (next_of s) (λ m. IsTrue (ends s m)) passed (n ∷ [])

-- The pair of the place that was tried at the position, if any was.
abbrev pub tried_at : ℕ → Option ℕ → List Pair
tried_at at None = []
tried_at at (Some p) = (p, at) ∷ []

-- A thread at p gives all that a thread at q gives. In a pass for the longest walk, a thread at p
-- may go on at q instead.
pub record LeadsTo (s : Sight) (at p q : ℕ) : Type 0 where
  pub carries : (h : Trace) (resting : List Thread) (below : List (Trace × Pair)) (best o : Option Trace) →
      Carries s at resting [] ((h, (q, at)) ∷ below) best o → Carries s at resting [] ((h, (p, at)) ∷ below) best o
  pub races : (h : Trace) (all below : List (Trace × Pair)) (best : Option Ending) (found : List (Option ℕ)) → IsSought best h.start →
      Races s all at [] [] ((h, (p, at)) ∷ below) best found → Races s all at [] [] ((h, (q, at)) ∷ below) best found

-- Of the two ways on from p, walks lead on by q alone.
abbrev pub IsChosen : Sight → ℕ → ℕ → ℕ → ℕ → ℕ → Type 0
IsChosen s at p a b q = ((q ≡ a) × IsDead s ((p, at) ∷ []) (b, at)) ⊎ ((q ≡ b) × IsDead s ((p, at) ∷ []) (a, at))

-- A thread at p may go on at q instead, one of the n places, and makes its move there.
pub record IsOnward (s : Sight) (n at p q : ℕ) (move : Move) : Type 0 where
  pub leads : LeadsTo s at p q
  pub none : IsDead s [] (q, at) → IsDead s [] (p, at)
  pub inside : q < n
  pub makes : IsMove s (q, at) move

-- A thread at p goes on at the first of two of the n places, where it reads one byte, and then at
-- the second.
pub record ReadsOne (s : Sight) (n at p : ℕ) (r : ℕ × ℕ) : Type 0 where
  pub leads : LeadsTo s at p r.0
  pub move : IsMove s (r.0, at) (Reads r.1 (at + 1))
  pub inside : r.1 < n

-- A thread at p has a walk of pattern k that ends.
abbrev pub EndsBy : Sight → ℕ → ℕ → ℕ → Type 0
EndsBy s at p k = (q : ℕ) × LeadsTo s at p q × IsMove s (q, at) (Matches k)

-- The only thread has a walk of pattern p that ends.
pub record EndsAlone (s : Sight) (at : ℕ) (threads : List Thread) (p : ℕ) : Type 0 where
  pub thread : Thread
  pub only : threads ≡ thread ∷ []
  pub here : thread.at ≡ at
  pub place : ℕ
  pub leads : LeadsTo s at thread.place place
  pub move : IsMove s (place, at) (Matches p)

-- No other walk can precede one that began at `start` and goes on at `at`: it began before `at`,
-- and the best walk so far began no earlier, and ended before `at`.
abbrev pub IsAhead : Option Ending → ℕ → ℕ → Type 0
IsAhead None start at = start < at
IsAhead (Some r) start at = (start ≤ r.start) × (r.start < at) × (r.end < at)
