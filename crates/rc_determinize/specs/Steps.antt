-- Determinization: one step of a list of places, without any text.
use Rattle.std.specs.Prelude.{◌≡◌, ℕ, ◌<◌, List, [], ◌∷◌, ◌++◌, Option, Some, None, map, Bool, IsTrue, ◌⊎◌}
use Rattle.rc_walks.specs.Walks.{Pair}
use Rattle.rc_pattern.specs.declared.hir.Look.{Look}
use Rattle.rc_program.specs.Program.{Place, Way, stays, reads, ways_out, place_at}
use Rattle.rc_utf8.specs.Laws.{IsBytePlace}

abbrev pub HasPlace : ℕ → List ℕ → Type 0
HasPlace q [] = ⊥
HasPlace q (p ∷ ps) = (p ≡ q) ⊎ HasPlace q ps

-- Each of them is below n.
abbrev pub AreBelow : ℕ → List ℕ → Type 0
AreBelow n list = (q : ℕ) → HasPlace q list → q < n

-- None is in the list twice.
abbrev pub AreOnce : List ℕ → Type 0
AreOnce [] = Unit {0}
AreOnce (q ∷ qs) = (¬ HasPlace q qs) × AreOnce qs

-- Each is less than those after it.
abbrev pub IsRising : List ℕ → Type 0
IsRising [] = Unit {0}
IsRising (q ∷ qs) = ((p : ℕ) → HasPlace p qs → q < p) × IsRising qs

-- The way is one of them.
abbrev pub HasWay : Way → List Way → Type 0
HasWay w [] = ⊥
HasWay w (v ∷ vs) = (v ≡ w) ⊎ HasWay w vs

-- `Steps out ends visited from onward stop visited2`: the search at one position. Places after a
-- byte are handed on in the order in which they are reached, and a place that was visited is
-- skipped. At the first place where a walk may end, all that is left is dropped.
pub data Steps (out : ℕ → List Way) (ends : ℕ → Bool) : List ℕ → List Way → List ℕ → Option ℕ → List ℕ → Type 0 where
  out_of_ways : {visited : List ℕ} → Steps out ends visited [] [] None visited
  hands_on : {visited onward visited2 : List ℕ} {from : List Way} {matched : Option ℕ} (q : ℕ) →
      Steps out ends visited from onward matched visited2 → Steps out ends visited (reads 1 q ∷ from) (q ∷ onward) matched visited2
  skips : {visited onward visited2 : List ℕ} {from : List Way} {matched : Option ℕ} (q : ℕ) → HasPlace q visited →
      Steps out ends visited from onward matched visited2 → Steps out ends visited (stays q ∷ from) onward matched visited2
  arrives : {visited : List ℕ} {from : List Way} (q : ℕ) → ¬ HasPlace q visited → IsTrue (ends q) →
      Steps out ends visited (stays q ∷ from) [] (Some q) visited
  stops_under : {visited onward visited2 : List ℕ} {from : List Way} {e : ℕ} (q : ℕ) → ¬ HasPlace q visited → ¬ IsTrue (ends q) →
      Steps out ends (q ∷ visited) (out q) onward (Some e) visited2 →
      Steps out ends visited (stays q ∷ from) onward (Some e) visited2
  comes_back : {visited onward onward2 visited2 visited3 : List ℕ} {from : List Way} {matched : Option ℕ} (q : ℕ) →
      ¬ HasPlace q visited → ¬ IsTrue (ends q) →
      Steps out ends (q ∷ visited) (out q) onward None visited2 → Steps out ends visited2 from onward2 matched visited3 →
      Steps out ends visited (stays q ∷ from) (onward ++ onward2) matched visited3

abbrev pub at : ℕ → List ℕ → List Pair
at i qs = map (λ q. (q, i)) qs

-- The ways that read nothing.
abbrev pub still : List Way → List Way
still [] = []
still (stays q ∷ ws) = stays q ∷ still ws
still (reads count q ∷ ws) = still ws

-- The list, with each of the places added that it doesn't have.
pub data Adds : List ℕ → List ℕ → List ℕ → Type 0 where
  all_added : {list : List ℕ} → Adds list [] list
  adds_one : {list qs new : List ℕ} (q : ℕ) → ¬ HasPlace q list → Adds (list ++ q ∷ []) qs new → Adds list (q ∷ qs) new
  leaves_out : {list qs new : List ℕ} (q : ℕ) → HasPlace q list → Adds list qs new → Adds list (q ∷ qs) new

-- The next list of places, each once, and the match place that was found.
pub record IsStep (out : ℕ → List Way) (ends : ℕ → Bool) (list next : List ℕ) (matched : Option ℕ) : Type 0 where
  pub onward : List ℕ
  pub visited : List ℕ
  pub steps : Steps out ends [] (map stays list) onward matched visited
  pub once : Adds [] onward next

-- No place of the program reads scalars: what it reads is decided by the next byte.
abbrev pub IsByBytes : List Place → Type 0
IsByBytes places = (q : ℕ) → IsBytePlace (place_at places q)

-- The ways out of the places, if `test` says which assertions hold and this byte is ahead, or none.
abbrev pub ahead_of : Option ℕ → List ℕ
ahead_of None = []
ahead_of (Some b) = b ∷ []

abbrev pub out_by : List Place → (Look → Bool) → Option ℕ → ℕ → List Way
out_by places test after q = ways_out test (ahead_of after) (place_at places q)
