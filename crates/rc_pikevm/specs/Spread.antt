-- Only proofs use this file.
-- The Pike VM for `MatchKind::All`: what a pass for the greatest span keeps.
use Rattle.std.specs.Prelude.{◌≡◌, ℕ, zero, suc, ◌+◌, ◌-◌, ◌*◌, ◌<◌, ◌≤◌, ◌⊎◌, List, [], ◌∷◌, ◌++◌, length, map, Option, Some, None, IsTrue, option_map}
use Rattle.rc_text.specs.Found.{Found}
use Rattle.rc_walks.specs.Walks.{Pair, IsWalk}
use Rattle.rc_program.specs.Program.{accept, place_at}
use Rattle.rc_program.specs.Answer.{last_of}
use Rattle.rc_pikevm.specs.Sights.{Sight, ends, next_of}
use Rattle.rc_program.specs.Greatest.{IsNoGreater}
use Rattle.rc_pikevm.specs.Sparse.{Members}
use Rattle.rc_pikevm.specs.Threads.{Thread, ThreadList}
use Rattle.rc_pikevm.specs.Passing.{pairs, AllFrom, IsLined, IsCounted}
use Rattle.rc_pikevm.specs.Steps.{HasGone}
use Rattle.rc_pikevm.specs.declared.growth.Frame.{Frame}
use Rattle.rc_pikevm.specs.declared.growth.Frame.TheVariants.{Explore, Restore}
use Rattle.rc_pikevm.specs.declared.pass.Ending.{Ending}

-- Where a thread's walk began, and the pair that it enters next.
abbrev pub Runner : Type 0
Runner = ℕ × Pair

abbrev pub running : Thread → Runner
running t = (t.start, (t.place, t.at))

-- A walk that avoids the pairs passed leads from the runner to the end of the match.
pub record LeadsToMatch (s : Sight) (passed : List Pair) (r : Runner) (m : Found) : Type 0 where
  pub start : m.start ≡ r.0
  pub walk : List Pair
  pub is_walk : IsWalk (next_of s) (λ n. IsTrue (ends s n)) passed (r.1 ∷ []) walk
  pub pattern : place_at s.places (last_of walk).0 ≡ accept m.pattern
  pub position : (last_of walk).1 ≡ m.end

-- One of the runners spells the match.
abbrev pub SomeSpells : Sight → List Pair → List Runner → Found → Type 0
SomeSpells s passed [] m = ⊥
SomeSpells s passed (r ∷ rs) m = LeadsToMatch s passed r m ⊎ SomeSpells s passed rs m

-- The match of a walk that has ended.
abbrev pub span_of : Ending → Found
span_of e = record { pattern = e.pattern; start = e.start; end = e.end }

-- At a position: what the threads of later positions, the runners on the stack, and the best walk
-- so far spell.
abbrev pub Offers : Sight → ℕ → List Thread → List ℕ → List Runner → Option Ending → Found → Type 0
Offers s at resting entered waiting best m =
    SomeSpells s [] (map running resting) m ⊎ (SomeSpells s (pairs at entered) waiting m ⊎ (option_map span_of best ≡ Some m))

-- The greatest of the matches that there are; None if there is none.
abbrev pub IsTop : (Found → Type 0) → Option Found → Type 0
IsTop Has None = (m : Found) → ¬ Has m
IsTop Has (Some m) = Has m × ((n : Found) → Has n → IsNoGreater n m)

abbrev pub Seeks : Sight → ℕ → List Thread → List ℕ → List Runner → Option Ending → Option Found → Type 0
Seeks s at resting entered waiting best o = IsTop (Offers s at resting entered waiting best) o

-- The runners on the stack, the top frame first.
abbrev pub runners_of : ℕ → ℕ → List Frame → List Runner
runners_of start at [] = []
runners_of start at (Explore p ∷ rest) = (start, (p, at)) ∷ runners_of start at rest
runners_of start at (Restore k old ∷ rest) = runners_of start at rest

-- The runners set out at x or later.
abbrev pub BeginFrom : ℕ → List Runner → Type 0
BeginFrom x [] = Unit {0}
BeginFrom x (r ∷ rs) = (x ≤ r.0) × BeginFrom x rs

-- The threads' walks began at x or before.
abbrev pub AllBefore : ℕ → List Thread → Type 0
AllBefore x [] = Unit {0}
AllBefore x (t ∷ ts) = (t.start ≤ x) × AllBefore x ts

-- Each walk began where the one before it did, or later.
abbrev pub IsRising : List Thread → Type 0
IsRising [] = Unit {0}
IsRising (t ∷ ts) = AllFrom t.start ts × IsRising ts

-- The starts rise, and none is past x.
pub record IsOrdered (x : ℕ) (ts : List Thread) : Type 0 where
  pub rising : IsRising ts
  pub before : AllBefore x ts

-- The greater of the best walk so far and a new one.
pub record IsGreater (best : Option Ending) (new result : Ending) : Type 0 where
  pub one : (result ≡ new) ⊎ (best ≡ Some result)
  pub new_is : IsNoGreater (span_of new) (span_of result)
  pub best_is : (b : Ending) → best ≡ Some b → IsNoGreater (span_of b) (span_of result)

-- A walk that began at `start` and ends at `at` was counted, if the ones before were.
abbrev pub StaysCounted : ℕ → ℕ → Option Ending → Option Ending → Type 0
StaysCounted start at best0 best = (k : ℕ) → at + 1 ≤ k + start → IsCounted k best0 → IsCounted k best

-- The runners of `count` starts from x on.
abbrev pub setting_out : ℕ → ℕ → List Runner
setting_out x zero = []
setting_out x (suc count) = (x, (0, x)) ∷ setting_out (x + 1) count

-- The runners of the starts from `at` to `last`.
abbrev pub starting : ℕ → ℕ → List Runner
starting at last = setting_out at (last + 1 - at)

-- The threads of a position have gone on so far: `left` are those still to go on.
pub record IsSpreading (s : Sight) (n hi at : ℕ) (all left : List Thread) (threads0 : ThreadList) (best0 : Option Ending)
    (threads : ThreadList) (entered : Members) (best : Option Ending) : Type 0 where
  pub seeks : (below : List Runner) (o : Option Found) → BeginFrom at below →
      Seeks s at threads.items entered.items (map running left ++ below) best o → Seeks s at [] [] (map running all ++ below) best0 o
  pub gone : HasGone s n hi at all left threads0 threads entered
  pub some : (length all ≤ length left) ⊎ (0 < length threads.items + length entered.items)
  -- The starts so far are at most this one, and those to come at least.
  pub reached : ℕ
  pub within : reached ≤ at
  pub ordered : IsOrdered reached threads.items
  pub left_from : AllFrom reached left
  pub left_rising : IsRising left
  pub left_before : AllBefore at left
  pub counted : (k : ℕ) → AllFrom (at + 1 - k) all → IsCounted k best0 → IsCounted k best

-- The pass from the start `from` has come to the position `at`.
pub record IsCovering (s : Sight) (n hi from last at insertions : ℕ) (curr : ThreadList) (best : Option Ending) : Type 0 where
  pub seeks : (o : Option Found) → Seeks s at [] [] (map running curr.items ++ starting at last) best o →
      Seeks s from [] [] (starting from last) None o
  pub lined : IsLined s n hi 0 at insertions curr
  pub ordered : IsOrdered at curr.items
  pub ended : IsCounted insertions best
  pub few : insertions ≤ n * (at - from)
  pub reached : from ≤ at
  pub within : at ≤ hi + 1
