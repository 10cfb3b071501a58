-- Only proofs use this file.
-- Thread lists: how many threads may wait.
use Rattle.std.specs.Prelude.{ℕ, suc, ◌+◌, Bool, true, false, ◌||◌, List, [], ◌∷◌, map, if◌then◌else◌, nat_eq, nat_le}
use Rattle.rc_walks.specs.Walks.{Pair}
use Rattle.rc_program.specs.Program.{Place, scalar, pair_at, ways_out}
use Rattle.rc_program.specs.Text.{ahead, holds}
use Rattle.rc_pikevm.specs.Sights.{Sight}

-- The place reads a scalar.
abbrev pub reads_scalar : Place → Bool
reads_scalar (scalar rs n) = true
reads_scalar q = false

-- 1 if one of the pairs is at q or later, else 0.
abbrev pub reaches : ℕ → List Pair → ℕ
reaches q [] = 0
reaches q (m ∷ ms) = if nat_le q m.1 then 1 else reaches q ms

-- How many threads a place gives, entered at `at`, that wait for q or later.
abbrev pub given : Sight → ℕ → ℕ → Place → ℕ
given s at q place = reaches q (map (pair_at at) (ways_out (λ l. holds s.text l at) (ahead s.text s.hi at) place))

-- The number is in the list.
abbrev pub is_among : List ℕ → ℕ → Bool
is_among [] p = false
is_among (q ∷ qs) p = nat_eq q p || is_among qs p

-- The sum of the places' weights, without those whose numbers pass the test.
abbrev pub sum_without : (ℕ → Bool) → (Place → ℕ) → List Place → ℕ
sum_without test weight [] = 0
sum_without test weight (q ∷ qs) = (if test 0 then 0 else weight q) + sum_without (λ k. test (suc k)) weight qs

-- How many threads the places may still give that wait for q or later, if these were entered at
-- `at`.
abbrev pub still : Sight → ℕ → ℕ → List ℕ → ℕ
still s at q entered = sum_without (is_among entered) (given s at q) s.places
