-- Limits: an engine that stops reading at a position knows what it has seen by what it would have
-- found if walks ended there too.
use Rattle.std.specs.Prelude.{◌≡◌, Bool, false, ◌||◌, IsTrue, List, [], if◌then◌else◌}
use Rattle.rc_walks.specs.Walks.{Pair, IsIn, IsFirstWalk, HasNoWalk, EndsAt}
use Rattle.rc_trails.specs.Trails.{AreSeen, AreSeenBy}

-- A walk may end at the pair, or the pair is out of reach.
abbrev pub ends_or_out : (Pair → Bool) → (Pair → Bool) → Pair → Bool
ends_or_out ends out n = ends n || out n

-- The ways of a graph that ends at each pair that is out of reach.
abbrev pub within : (Pair → List Pair) → (Pair → Bool) → Pair → List Pair
within ways out n = if out n then [] else ways n

-- If walks may also end at pairs out of reach, and the first of them doesn't, it is the first walk
-- of the graph, and no trail that comes no later leads out of reach. If there is none even then,
-- the graph has none, and no trail leads out of reach.
pub record LimitLaw : Type 0 where
  pub first : (ways : Pair → List Pair) (ends out : Pair → Bool) (passed from w : List Pair)
      (e : Pair) →
      ((n m : Pair) → IsTrue (ends n) → ¬ IsIn m (ways n)) →
      IsFirstWalk (within ways out) (λ n. IsTrue (ends_or_out ends out n)) passed from w →
      EndsAt w e → out e ≡ false →
      IsFirstWalk ways (λ n. IsTrue (ends n)) passed from w
      × AreSeenBy ways passed from w (λ n. out n ≡ false)
  pub none : (ways : Pair → List Pair) (ends out : Pair → Bool) (passed from : List Pair) →
      ((n m : Pair) → IsTrue (ends n) → ¬ IsIn m (ways n)) →
      HasNoWalk (within ways out) (λ n. IsTrue (ends_or_out ends out n)) passed from →
      HasNoWalk ways (λ n. IsTrue (ends n)) passed from
      × AreSeen ways passed from (λ n. out n ≡ false)
