-- Only proofs use this file.
-- The choices in front of the patterns, and the patterns to which their ways lead.
use Rattle.std.specs.Prelude.{◌≡◌, ℕ, ◌+◌, Bool, List, [], ◌∷◌, IsTrue}
use Rattle.rc_walks.specs.Walks.{Pair, IsWalk}
use Rattle.rc_program.specs.Answer.{last_of}
use Rattle.rc_program.specs.Program.{Place, accept, choice, place_at, ways}
use Rattle.rc_program.specs.Text.{Text}

-- Place q is the one in front of pattern p. That of pattern 0 is place 0. If such a place is a
-- choice of two, its second way leads to the one in front of the next pattern.
pub data IsFront (places : List Place) : ℕ → ℕ → Type 0 where
  front_first : IsFront places 0 0
  front_next : {p q a b : ℕ} → IsFront places p q → place_at places q ≡ choice (a ∷ b ∷ []) → IsFront places (p + 1) b

-- Each walk from place a that ends at a match place is one of pattern p.
abbrev pub LeadsOnlyTo : List Place → ℕ → ℕ → Type 0
LeadsOnlyTo places a p = (t : Text) (hi x r : ℕ) (ends : Pair → Bool) (passed w : List Pair) →
    IsWalk (ways places t hi) (λ n. IsTrue (ends n)) passed ((a, x) ∷ []) w → place_at places (last_of w).0 ≡ accept r → r ≡ p

-- The first way of the choice in front of a pattern leads to that pattern alone.
abbrev pub HasOwnWays : List Place → Type 0
HasOwnWays places = (p q a b : ℕ) → IsFront places p q → place_at places q ≡ choice (a ∷ b ∷ []) → LeadsOnlyTo places a p
