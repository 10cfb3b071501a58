-- Only proofs use this file.
-- Threads: in order of preference, and the first of them from which a walk leads on.
use Rattle.std.specs.Prelude.{◌≡◌, ℕ, ◌<◌, List, [], ◌∷◌, map, Option, Some}
use Rattle.rc_walks.specs.Walks.{Pair, IsFirstWalk, HasNoWalk}

-- The notes along a walk, pair by pair.
abbrev pub noted : {H : Type 0} → (H → Pair → H) → H → List Pair → H
noted note h [] = h
noted note h (n ∷ w) = noted note (note h n) w

-- A thread is what was noted so far, and the pair from which it goes on. None of the threads may
-- enter `passed`. The first from which a walk leads on gives what is noted along its first walk;
-- without one `Rest` decides.
pub data IsFirstOf (ways : Pair → List Pair) (Ends : Pair → Type 0) (H : Type 0) (note : H → Pair → H) (passed : List Pair)
    (Rest : Option H → Type 0) : List (H × Pair) → Option H → Type 0 where
  over : {o : Option H} → Rest o → IsFirstOf ways Ends H note passed Rest [] o
  found : {ts : List (H × Pair)} (t : H × Pair) (w : List Pair) → IsFirstWalk ways Ends passed (t.1 ∷ []) w →
      IsFirstOf ways Ends H note passed Rest (t ∷ ts) (Some (noted note t.0 w))
  passes : {ts : List (H × Pair)} {o : Option H} (t : H × Pair) → HasNoWalk ways Ends passed (t.1 ∷ []) →
      IsFirstOf ways Ends H note passed Rest ts o → IsFirstOf ways Ends H note passed Rest (t ∷ ts) o

-- The threads that go on from the ways.
abbrev pub threads : {H : Type 0} → H → List Pair → List (H × Pair)
threads h ms = map (λ m. (h, m)) ms

-- The threads wait at later positions.
abbrev pub AllPast : {H : Type 0} → ℕ → List (H × Pair) → Type 0
AllPast at [] = Unit {0}
AllPast at (t ∷ ts) = (at < t.1.1) × AllPast at ts

-- All that is under way: the threads that wait for later positions, the pairs entered at this one,
-- the threads still to come, in order, and the best result so far.
abbrev pub Pends : (Pair → List Pair) → (Pair → Type 0) → (H : Type 0) → (H → Pair → H) →
    List (H × Pair) → List Pair → List (H × Pair) → Option H → Option H → Type 0
Pends ways Ends H note resting entered waiting best o =
    IsFirstOf ways Ends H note [] (λ p. IsFirstOf ways Ends H note entered (λ q. q ≡ best) waiting p) resting o
