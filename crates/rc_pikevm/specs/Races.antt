-- Only proofs use this file.
-- The Pike VM for leftmost-longest: what one pass for the longest walk of the least start keeps.
use Rattle.std.specs.Prelude.{◌≡◌, ℕ, ◌+◌, ◌-◌, ◌<◌, ◌≤◌, ◌⊎◌, List, [], ◌∷◌, ◌++◌, length, map, Option, Some, None, IsTrue, if◌then◌else◌, nat_le, option_map}
use Rattle.rc_walks.specs.Walks.{Pair, IsIn, HasNoWalk}
use Rattle.rc_walks.specs.Threads.{IsFirstOf, Pends, AllPast, noted}
use Rattle.rc_program.specs.Longest.{IsLongestWalk}
use Rattle.rc_pikevm.specs.Sights.{Sight, ends, next_of, HasNoWalkFrom}
use Rattle.rc_pikevm.specs.Sparse.{Members}
use Rattle.rc_pikevm.specs.Threads.{Thread, ThreadList}
use Rattle.rc_pikevm.specs.Trace.{Trace, note, done, starts, sets_out}
use Rattle.rc_pikevm.specs.Passing.{pending, pairs, AllFrom, IsCounted}
use Rattle.rc_pikevm.specs.Steps.{HasGone}
use Rattle.rc_pikevm.specs.declared.pass.Ending.{Ending}

-- A walk may end here, at the position e.
abbrev pub EndsThere : (Pair → Type 0) → ℕ → Pair → Type 0
EndsThere Ends e n = Ends n × (n.1 ≡ e)

-- Of the threads in order, the first from which a walk leads on gives the trace of its longest
-- walk.
pub data IsLongestOf (ways : Pair → List Pair) (Ends : Pair → Type 0) (H : Type 0) (note : H → Pair → H) : List (H × Pair) → Option H → Type 0 where
  ended : IsLongestOf ways Ends H note [] None
  longest : {ts : List (H × Pair)} (t : H × Pair) (w : List Pair) → IsLongestWalk ways Ends [] (t.1 ∷ []) w →
      IsLongestOf ways Ends H note (t ∷ ts) (Some (noted note t.0 w))
  next : {ts : List (H × Pair)} {o : Option H} (t : H × Pair) → HasNoWalk ways Ends [] (t.1 ∷ []) →
      IsLongestOf ways Ends H note ts o → IsLongestOf ways Ends H note (t ∷ ts) o

-- The threads whose walks began at y or before.
abbrev pub upto : {H : Type 0} → (H → ℕ) → ℕ → List (H × Pair) → List (H × Pair)
upto start y [] = []
upto start y (t ∷ ts) = if nat_le (start t.0) y then t ∷ upto start y ts else upto start y ts

-- It holds of the start of each thread.
abbrev pub Each : {H : Type 0} → (H → ℕ) → (ℕ → Type 0) → List (H × Pair) → Type 0
Each start Holds [] = Unit {0}
Each start Holds (t ∷ ts) = Holds (start t.0) × Each start Holds ts

-- The starts never fall.
abbrev pub IsRising : {H : Type 0} → (H → ℕ) → List (H × Pair) → Type 0
IsRising start [] = Unit {0}
IsRising start (t ∷ ts) = Each start (λ y. start t.0 ≤ y) ts × IsRising start ts

-- Each start is greater than those before.
abbrev pub AreApart : {H : Type 0} → (H → ℕ) → List (H × Pair) → Type 0
AreApart start [] = Unit {0}
AreApart start (t ∷ ts) = Each start (λ y. start t.0 < y) ts × AreApart start ts

-- The threads go on at `at` or later.
abbrev pub AreReady : {H : Type 0} → ℕ → List (H × Pair) → Type 0
AreReady at [] = Unit {0}
AreReady at (t ∷ ts) = (at ≤ t.1.1) × AreReady at ts

-- The best walk, if there is one, ended before `at`.
abbrev pub EndedBefore : {H : Type 0} → ℕ → Option (H × ℕ) → Type 0
EndedBefore at None = Unit {0}
EndedBefore at (Some b) = b.1 < at

-- None of the starts up to y has a walk to e.
abbrev pub IsQuiet : (Pair → List Pair) → (Pair → Type 0) → (H : Type 0) → (H → Pair → H) → (H → ℕ) → List (H × Pair) → ℕ → ℕ → Type 0
IsQuiet ways Ends H note start all y e = IsFirstOf ways (EndsThere Ends e) H note [] (λ q. q ≡ None) (upto start y all) None

-- Walks of the starts up to y to the position e may still count: none that has ended rules them
-- out.
abbrev pub IsOpen : {H : Type 0} → (H → ℕ) → ℕ → Option (H × ℕ) → ℕ → ℕ → Type 0
IsOpen start at None y e = at ≤ e
IsOpen start at (Some b) y e = (at ≤ e) × (b.1 < e) × (y ≤ start b.0)

-- The facts about the positions passed. The best walk so far, as its trace and its end, is of the
-- least start that has a walk to one of them. It is the first of that start's walks to the greatest
-- of them.
abbrev pub IsKnown : (Pair → List Pair) → (Pair → Type 0) → (H : Type 0) → (H → Pair → H) → (H → ℕ) → List (H × Pair) → ℕ → Option (H × ℕ) → Type 0
IsKnown ways Ends H note start all at None = (y e : ℕ) → e < at → IsQuiet ways Ends H note start all y e
IsKnown ways Ends H note start all at (Some b) =
    ((y e : ℕ) → y < start b.0 → (e < at) ⊎ (e ≤ b.1) → IsQuiet ways Ends H note start all y e)
    × ((e : ℕ) → b.1 < e → e < at → IsQuiet ways Ends H note start all (start b.0) e)
    × IsFirstOf ways (EndsThere Ends b.1) H note [] (λ q. q ≡ None) (upto start (start b.0) all) (Some b.0)

-- The threads began no later than the best walk.
abbrev pub AreWithin : {H : Type 0} → (H → ℕ) → Option (H × ℕ) → List (H × Pair) → Type 0
AreWithin start None ts = Unit {0}
AreWithin start (Some b) ts = Each start (λ y. y ≤ start b.0) ts

-- The pass has come to the position `at`. Take each position e that still counts and each bound of
-- the starts. The threads of later positions, the pairs entered and the threads still to come give
-- what all threads give whose walks may end at e alone.
pub record IsRacing (ways : Pair → List Pair) (Ends : Pair → Type 0) (H : Type 0) (note : H → Pair → H) (start : H → ℕ)
    (all : List (H × Pair)) (at : ℕ) (resting : List (H × Pair)) (entered : List Pair) (waiting : List (H × Pair)) (best : Option (H × ℕ)) : Type 0 where
  pub carries : (y e : ℕ) (o : Option H) → IsOpen start at best y e →
      Pends ways (EndsThere Ends e) H note (upto start y resting) entered (upto start y waiting) None o →
      IsFirstOf ways (EndsThere Ends e) H note [] (λ q. q ≡ None) (upto start y all) o
  pub known : IsKnown ways Ends H note start all at best
  pub rising : IsRising start (resting ++ waiting)
  pub within : AreWithin start best (resting ++ waiting)
  pub later : AllPast at resting
  pub here : (k : Pair) → IsIn k entered → k.1 ≤ at

-- Where a thread's walk began.
abbrev pub began : Trace → ℕ
began h = h.start

-- The best walk so far, as its trace and its end.
abbrev pub leading : Option Ending → List (Option ℕ) → Option (Trace × ℕ)
leading best found = option_map (λ (r : Ending). (done r.pattern r.start r.end found, r.end)) best

-- The threads that began no later than the best walk so far.
abbrev pub kept : Option Ending → List (Trace × Pair) → List (Trace × Pair)
kept None ts = ts
kept (Some r) ts = upto began r.start ts

-- The pass over the starts of `all` has come so far.
abbrev pub Races : Sight → List (Trace × Pair) → ℕ → List Thread → List ℕ → List (Trace × Pair) → Option Ending → List (Option ℕ) → Type 0
Races s all at resting entered waiting best found =
    IsRacing (next_of s) (λ n. IsTrue (ends s n)) Trace (note s.places) began all at (map pending resting) (pairs at entered) (kept best waiting)
    (leading best found)

-- A walk from the start may still be the longest of the least start.
abbrev pub IsSought : Option Ending → ℕ → Type 0
IsSought None x = Unit {0}
IsSought (Some r) x = x ≤ r.start

-- A walk of a lesser start has ended.
abbrev pub IsCutOff : Option Ending → ℕ → Type 0
IsCutOff None x = ⊥
IsCutOff (Some r) x = r.start < x

-- A walk ended there or later.
abbrev pub EndedBy : Option Ending → ℕ → Type 0
EndedBy None e = ⊥
EndedBy (Some r) e = e ≤ r.end

-- A walk that has ended becomes the best, with its slots; or another one ended there before, and
-- stays.
abbrev pub IsRecorded : Option Ending → List (Option ℕ) → Ending → List (Option ℕ) → Option Ending → List (Option ℕ) → Type 0
IsRecorded best0 found0 new slots best found =
    (EndedBy best0 new.end × (best ≡ best0) × (found ≡ found0))
    ⊎ (EndedBefore new.end (leading best0 found0) × (best ≡ Some new) × (found ≡ slots))

-- The starts from `at` to `last`.
abbrev pub starts_to : ℕ → ℕ → ℕ → List (Trace × Pair)
starts_to width at last = starts width at (last + 1 - at)

-- The trace of the longest walk of the least start in from..=last that has one; None if there is no
-- such start.
abbrev pub GivesLongest : Sight → ℕ → ℕ → ℕ → Option Trace → Type 0
GivesLongest s width from last o =
    ((o ≡ None) × ((y : ℕ) → from ≤ y → y ≤ last → HasNoWalkFrom s y))
    ⊎ ((x : ℕ) × (w : List Pair) × (from ≤ x) × (x ≤ last) × IsLongestWalk (next_of s) (λ n. IsTrue (ends s n)) [] ((0, x) ∷ []) w
    × ((y : ℕ) → from ≤ y → y < x → HasNoWalkFrom s y) × (o ≡ Some (noted (note s.places) (sets_out width x).0 w)))

-- The threads of a position have gone on so far: `left` are those still to go on.
pub record IsRunOn (s : Sight) (n hi at : ℕ) (all left : List Thread) (threads0 : ThreadList) (best0 : Option Ending) (found0 : List (Option ℕ))
    (threads : ThreadList) (entered : Members) (best : Option Ending) (found : List (Option ℕ)) : Type 0 where
  pub races : (from below : List (Trace × Pair)) → Races s from at [] [] (map pending all ++ below) best0 found0 →
      Races s from at threads.items entered.items (map pending left ++ below) best found
  pub gone : HasGone s n hi at all left threads0 threads entered
  pub counted : (k : ℕ) → AllFrom (at + 1 - k) all → IsCounted k best0 → IsCounted k best
  pub still : (best ≡ best0) ⊎ (0 < length entered.items)
