-- Trails: walks that may end anywhere. They tell how much of a graph decides which of its walks is
-- the first.
use Rattle.std.specs.Prelude.{◌≡◌, ◌⊎◌, Bool, IsTrue, List, [], ◌∷◌, map}
use Rattle.rc_walks.specs.Walks.{Pair, IsIn, IsWalk, IsEarlier, IsFirstWalk, HasNoWalk, EndsAt}

-- v is a trail from one of the pairs `from`: a walk of the graph in which each pair is an end.
abbrev pub IsTrail : (Pair → List Pair) → List Pair → List Pair → List Pair → Type 0
IsTrail ways passed from v = IsWalk ways (λ n. Unit {0}) passed from v

-- v comes no later than w: it is a beginning of w, or takes the earlier way where they part.
abbrev pub IsNoLater : (Pair → List Pair) → List Pair → List Pair → List Pair → Type 0
IsNoLater ways from [] w = Unit {0}
IsNoLater ways from (n ∷ v) [] = ⊥
IsNoLater ways from (n ∷ v) (m ∷ w) = IsEarlier from n m ⊎ ((n ≡ m) × IsNoLater ways (ways n) v w)

-- Each pair is seen to which a trail leads that comes no later than w.
abbrev pub AreSeenBy : (Pair → List Pair) → List Pair → List Pair → List Pair → (Pair → Type 0) →
    Type 0
AreSeenBy ways passed from w Seen =
    (v : List Pair) (e : Pair) →
    IsTrail ways passed from v → IsNoLater ways from v w → EndsAt v e → Seen e

-- Each pair is seen to which a trail leads.
abbrev pub AreSeen : (Pair → List Pair) → List Pair → List Pair → (Pair → Type 0) → Type 0
AreSeen ways passed from Seen =
    (v : List Pair) (e : Pair) → IsTrail ways passed from v → EndsAt v e → Seen e

-- The graphs agree where pairs are seen: what leads on from n in the first graph leads on from
-- `move n` in the second, and walks end at both or at neither.
pub record Agree (ways1 ways2 : Pair → List Pair) (Ends1 Ends2 : Pair → Type 0) (move : Pair → Pair)
    (Seen : Pair → Type 0) : Type 0 where
  pub same_ways : (n : Pair) → Seen n → ways2 (move n) ≡ map move (ways1 n)
  pub ends : (n : Pair) → Seen n → Ends1 n → Ends2 (move n)
  pub ends_back : (n : Pair) → Seen n → Ends2 (move n) → Ends1 n
  -- No way leads out of a pair at which a walk may end.
  pub last : (n m : Pair) → Ends1 n → ¬ IsIn m (ways1 n)
  -- No two pairs move to one.
  pub one : (n m : Pair) → move n ≡ move m → n ≡ m

-- A graph that agrees with another wherever its trails lead has the other's first walk, or none if
-- the other has none.
pub record TrailLaw : Type 0 where
  pub first : (ways1 ways2 : Pair → List Pair) (ends1 ends2 seen : Pair → Bool) (move : Pair → Pair)
      (passed from w : List Pair) →
      Agree ways1 ways2 (λ n. IsTrue (ends1 n)) (λ n. IsTrue (ends2 n)) move
      (λ n. IsTrue (seen n)) →
      IsFirstWalk ways1 (λ n. IsTrue (ends1 n)) passed from w →
      AreSeenBy ways1 passed from w (λ n. IsTrue (seen n)) →
      IsFirstWalk ways2 (λ n. IsTrue (ends2 n)) (map move passed) (map move from) (map move w)
  pub none : (ways1 ways2 : Pair → List Pair) (ends1 ends2 seen : Pair → Bool) (move : Pair → Pair)
      (passed from : List Pair) →
      Agree ways1 ways2 (λ n. IsTrue (ends1 n)) (λ n. IsTrue (ends2 n)) move
      (λ n. IsTrue (seen n)) →
      HasNoWalk ways1 (λ n. IsTrue (ends1 n)) passed from →
      AreSeen ways1 passed from (λ n. IsTrue (seen n)) →
      HasNoWalk ways2 (λ n. IsTrue (ends2 n)) (map move passed) (map move from)
