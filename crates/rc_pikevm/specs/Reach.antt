-- Only proofs use this file.
-- Reach: what holds of the last position that a pass comes to.
use Rattle.std.specs.Prelude.{ℕ, ◌<◌, ◌≤◌, List, Some}
use Rattle.rc_walks.specs.Walks.{Pair}
use Rattle.rc_program.specs.Answer.{last_of}
use Rattle.rc_pikevm.specs.Sights.{Sight, IsFirstTo, HasNoWalkTo}

-- The pass isn't done before the position `at`: of the starts from `from` to `last`, the least that
-- has a walk up to the limit has one that leads there.
abbrev pub IsStillOn : ℕ → Sight → ℕ → ℕ → ℕ → Type 0
IsStillOn limit s from last at =
    (x : ℕ) × (w : List Pair) × (from ≤ x) × (x ≤ last) × IsFirstTo (Some limit) s x w
    × ((y : ℕ) → from ≤ y → y < x → HasNoWalkTo (Some limit) s y) × (at ≤ (last_of w).1)
