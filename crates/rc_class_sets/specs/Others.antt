-- Only proofs use this file.
-- Ranges, each followed by the characters that fold with one of its own.
use Rattle.std.specs.Prelude.{ℕ, List, [], ◌∷◌, ◌++◌, ◌&&◌, nat_le, if◌then◌else◌}
use Rattle.rc_pattern.specs.Re.{Range}

-- the second characters of the pairs whose first one is in the range
abbrev pub others : Range → List (ℕ × ℕ) → List Range
others r [] = []
others r (pair ∷ folds) =
    if nat_le r.0 pair.0 && nat_le pair.0 r.1 then (pair.1, pair.1) ∷ others r folds else others r folds

abbrev pub with_others : List (ℕ × ℕ) → List Range → List Range
with_others folds [] = []
with_others folds (r ∷ rs) = r ∷ (others r folds ++ with_others folds rs)
