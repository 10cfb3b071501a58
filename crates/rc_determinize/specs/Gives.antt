-- First walks: where the first one ends, and the starts of a search.
use Rattle.std.specs.Option.{option_or}
use Rattle.std.specs.Prelude.{ℕ, suc, zero, ◌+◌, List, [], ◌∷◌, Option, Some, None}
use Rattle.rc_walks.specs.Walks.{Pair, IsFirstWalk, HasNoWalk, EndsAt}

-- The first walk ends at this pair; or there is no walk.
abbrev pub Gives : (Pair → List Pair) → (Pair → Type 0) → List Pair → List Pair → Option Pair → Type 0
Gives ways Ends passed from (Some e) = (w : List Pair) × IsFirstWalk ways Ends passed from w × EndsAt w e
Gives ways Ends passed from None = HasNoWalk ways Ends passed from

-- The pairs under way give what the first pairs give; if they give nothing, that is the last match
-- seen.
abbrev pub Carries : (Pair → List Pair) → (Pair → Type 0) → List Pair → List Pair → Option Pair → Type 0
Carries ways Ends origin from seen = (r : Option Pair) → Gives ways Ends [] from r → Gives ways Ends [] origin (option_or r seen)

-- So many starts, from position x on.
abbrev pub starts : ℕ → ℕ → ℕ → List Pair
starts root x zero = []
starts root x (suc count) = (root, x) ∷ starts root (x + 1) count
