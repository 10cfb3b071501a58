-- Backtracking: the first walk as a function, a search that tries the ways in order. The law
-- `first_walk_found` says that it is the first walk.
use Rattle.std.specs.Prelude.{ℕ, zero, suc, Bool, false, ◌&&◌, ◌||◌, List, [], ◌∷◌, Option, Some, None, nat_eq, if◌then◌else◌}
use Rattle.std.specs.Option.{option_or, option_map}
use Rattle.rc_walks.specs.Walks.{Pair}

-- The pair is in the list.
abbrev pub is_in : Pair → List Pair → Bool
is_in n [] = false
is_in n (m ∷ ms) = (nat_eq m.0 n.0 && nat_eq m.1 n.1) || is_in n ms

-- The first walk that `walk` gives for one of the ways.
abbrev pub by_ways : (Pair → Option (List Pair)) → List Pair → Option (List Pair)
by_ways walk [] = None
by_ways walk (n ∷ from) = option_or (walk n) (by_ways walk from)

-- The first walk of at most so many pairs that begins at n and enters no pair of `passed`.
abbrev pub walk_by : (Pair → List Pair) → (Pair → Bool) → ℕ → List Pair → Pair → Option (List Pair)
walk_by ways ends zero passed n = None
walk_by ways ends (suc most) passed n =
    if is_in n passed then None
    else if ends n then Some (n ∷ [])
    else option_map (λ w. n ∷ w) (by_ways (walk_by ways ends most (n ∷ passed)) (ways n))
