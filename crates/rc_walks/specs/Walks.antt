-- NFA paths: walks along a graph whose ways out of each pair are in order of preference.
use Rattle.std.specs.Prelude.{◌≡◌, ◌≢◌, ℕ, ◌⊎◌, List, [], ◌∷◌, Bool, IsTrue}

-- A place of the program, and a position of the content.
abbrev pub Pair : Type 0
Pair = ℕ × ℕ

-- The pair is in the list.
abbrev pub IsIn : Pair → List Pair → Type 0
IsIn n [] = ⊥
IsIn n (m ∷ ms) = (m ≡ n) ⊎ IsIn n ms

-- The list leads along edges from one of the pairs `from` to a pair at which a walk may end. No
-- pair is in it twice, or in `passed`.
pub data IsWalk (ways : Pair → List Pair) (Ends : Pair → Type 0) : List Pair → List Pair → List Pair → Type 0 where
  stops : {passed from : List Pair} (n : Pair) → IsIn n from → ¬ IsIn n passed → Ends n → IsWalk ways Ends passed from (n ∷ [])
  goes : {passed from w : List Pair} (n : Pair) → IsIn n from → ¬ IsIn n passed → IsWalk ways Ends (n ∷ passed) (ways n) w →
      IsWalk ways Ends passed from (n ∷ w)

-- The first way that leads to n comes before each that leads to m.
abbrev pub IsEarlier : List Pair → Pair → Pair → Type 0
IsEarlier [] n m = ⊥
IsEarlier (k ∷ from) n m = (k ≢ m) × ((k ≡ n) ⊎ IsEarlier from n m)

-- Of two lists that begin at one of the pairs `from`, the first takes the earlier way where they
-- part.
abbrev pub IsBefore : (Pair → List Pair) → List Pair → List Pair → List Pair → Type 0
IsBefore ways from [] w = ⊥
IsBefore ways from (n ∷ v) [] = ⊥
IsBefore ways from (n ∷ v) (m ∷ w) = IsEarlier from n m ⊎ ((n ≡ m) × IsBefore ways (ways n) v w)

-- w is a walk, and it comes before each other walk from the same pairs.
pub record IsFirstWalk (ways : Pair → List Pair) (Ends : Pair → Type 0) (passed from w : List Pair) : Type 0 where
  pub is_walk : IsWalk ways Ends passed from w
  pub is_least : (v : List Pair) → IsWalk ways Ends passed from v → (v ≡ w) ⊎ IsBefore ways from w v

-- No list is a walk.
abbrev pub HasNoWalk : (Pair → List Pair) → (Pair → Type 0) → List Pair → List Pair → Type 0
HasNoWalk ways Ends passed from = (v : List Pair) → ¬ IsWalk ways Ends passed from v

-- e is the last pair.
abbrev pub EndsAt : List Pair → Pair → Type 0
EndsAt [] e = ⊥
EndsAt (n ∷ []) e = n ≡ e
EndsAt (n ∷ m ∷ w) e = EndsAt (m ∷ w) e

-- There is at most one first walk.
abbrev pub FirstWalkLaw : Type 0
FirstWalkLaw = (ways : Pair → List Pair) (ends : Pair → Bool) (passed from v w : List Pair) →
    IsFirstWalk ways (λ n. IsTrue (ends n)) passed from v → IsFirstWalk ways (λ n. IsTrue (ends n)) passed from w → v ≡ w
