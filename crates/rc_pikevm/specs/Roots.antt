-- Only proofs use this file.
-- Start states: places at which walks may enter instead of place 0.
use Rattle.std.specs.Prelude.{ℕ, All, List, [], ◌∷◌, ◌++◌, IsTrue}
use Rattle.rc_walks.specs.Walks.{Pair, IsFirstWalk, HasNoWalk}
use Rattle.rc_program.specs.Answer.{Search}
use Rattle.rc_program.specs.Laws.{IsChoice}
use Rattle.rc_pikevm.specs.Sights.{Sight, sight_of, ends, next_of, IsFirstFrom, HasNoWalkFrom}

-- The first walk from place 0 is, after choices alone, the one from `root`; and place 0 has no walk
-- if `root` has none.
abbrev pub StandsFor : Sight → ℕ → Type 0
StandsFor s root = (x : ℕ) →
    ((v : List Pair) → IsFirstWalk (next_of s) (λ n. IsTrue (ends s n)) [] ((root, x) ∷ []) v →
    ∥ ((u : List Pair) × All (IsChoice s.places) u × IsFirstFrom s x (u ++ v)) ∥₁)
    × (HasNoWalk (next_of s) (λ n. IsTrue (ends s n)) [] ((root, x) ∷ []) → HasNoWalkFrom s x)

-- In a search too, the first walk from place 0 is, after choices alone, the one from `root`; and
-- place 0 has no walk if `root` has none.
abbrev pub StandsIn : Search → ℕ → Type 0
StandsIn s = StandsFor (sight_of s)
