-- Only proofs use this file.
-- Epsilon shortcuts: places at which a thread may enter instead of another.
use Rattle.std.specs.Prelude.{◌≡◌, ℕ, ◌⊎◌, List, [], ◌∷◌, IsTrue, Option}
use Rattle.rc_walks.specs.Walks.{Pair, HasNoWalk}
use Rattle.rc_program.specs.Program.{choice, place_at}
use Rattle.rc_pikevm.specs.Sights.{Sight, IsUpTo, ends_to, next_to}
use Rattle.rc_pikevm.specs.Sparse.{Has}

-- No walk leads on from the pair, whatever pairs it avoids, and none leads past it.
abbrev pub IsShut : Sight → Pair → Type 0
IsShut s n = (limit : Option ℕ) → IsUpTo n.1 limit → (passed : List Pair) →
    HasNoWalk (next_to limit s) (λ m. IsTrue (ends_to limit s m)) passed (n ∷ [])

-- Exactly two ways lead on from p: to a and to b.
abbrev pub AreWays : Sight → ℕ → ℕ → ℕ → Type 0
AreWays s p a b = (place_at s.places p ≡ choice (a ∷ b ∷ [])) ⊎ (place_at s.places p ≡ choice (b ∷ a ∷ []))

-- The place itself, or one of the two ways on from there if no walk leads on by the other.
abbrev pub IsOnWay : Sight → ℕ → ℕ → ℕ → Type 0
IsOnWay s at p a = (a ≡ p) ⊎ ((b : ℕ) × AreWays s p a b × IsShut s (b, at))

-- A thread that would enter at the first place may enter at the second. It gets there way by way,
-- over places that weren't entered yet.
pub data IsWayIn (s : Sight) (at : ℕ) (entered : List ℕ) : ℕ → ℕ → Type 0 where
  stays_in : {p : ℕ} → IsWayIn s at entered p p
  goes_in : {p q a : ℕ} → IsWayIn s at entered p q → ¬ Has entered q → IsOnWay s at q a → IsWayIn s at entered p a
