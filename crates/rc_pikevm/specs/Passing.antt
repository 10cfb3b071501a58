-- Only proofs use this file.
-- The Pike VM: what one pass over a text keeps.
use Rattle.std.specs.Prelude.{◌≡◌, ℕ, ◌+◌, ◌-◌, ◌<◌, ◌≤◌, ◌⊎◌, Bool, List, [], ◌∷◌, ◌++◌, length, map, reverse, Option, Some, None, IsTrue, slice_set, slice_index_or, if◌then◌else◌, is_none, option_map, nat_lt, nat_le, min, MatchOption}
use Rattle.rc_program.specs.Scalars.{scalar_at}
use Rattle.rc_program.specs.Text.{ahead}
use Rattle.rc_walks.specs.Walks.{Pair}
use Rattle.rc_walks.specs.Threads.{Pends, noted}
use Rattle.rc_pikevm.specs.Sights.{Sight, IsFirstFrom, IsFirstTo, HasNoWalkFrom, HasNoWalkTo, ends_to, next_to}
use Rattle.rc_pikevm.specs.Readers.{count_of, reader_count}
use Rattle.rc_pikevm.specs.Waiting.{reads_scalar, still}
use Rattle.rc_pikevm.specs.Sparse.{Members}
use Rattle.rc_pikevm.specs.Threads.{Thread, ThreadList}
use Rattle.rc_pikevm.specs.Trace.{Trace, note, trace, done, starts, sets_out}
use Rattle.rc_pikevm.specs.declared.moves.Move.{Move}
use Rattle.rc_pikevm.specs.declared.moves.Move.TheVariants.{Fork, Save, Matches, Stays, Reads, DeadEnd}
use Rattle.rc_pikevm.specs.declared.growth.Frame.{Frame}
use Rattle.rc_pikevm.specs.declared.growth.Frame.TheVariants.{Explore, Restore}
use Rattle.rc_pikevm.specs.declared.pass.Ending.{Ending}

-- A thread, as what it noted and the pair at which it goes on.
abbrev pub pending : Thread → Trace × Pair
pending t = (trace t.start t.slots, (t.place, t.at))

-- The pairs entered, the last first.
abbrev pub pairs : ℕ → List ℕ → List Pair
pairs at items = map (λ p. (p, at)) (reverse items)

-- The threads on the stack, the top frame first.
abbrev pub waits : ℕ → ℕ → List Frame → List (Option ℕ) → List (Trace × Pair)
waits start at [] slots = []
waits start at (Explore p ∷ rest) slots = (trace start slots, (p, at)) ∷ waits start at rest slots
waits start at (Restore k old ∷ rest) slots = waits start at rest (slice_set slots k old)

-- Each place on the stack is one of the program, and each slot one of the thread's.
abbrev pub AllInside : ℕ → ℕ → List Frame → Type 0
AllInside n width [] = Unit {0}
AllInside n width (Explore p ∷ rest) = (p < n) × AllInside n width rest
AllInside n width (Restore k old ∷ rest) = (k < width) × AllInside n width rest

-- A move adds the thread of a later position,
abbrev pub resting_of : ℕ → List (Option ℕ) → Move → List Thread
resting_of start slots (Reads m to) = record { place = m; at = to; start = start; slots = slots } ∷ []
resting_of start slots move = []

-- the frames, the top one first,
abbrev pub frames_of : List (Option ℕ) → Move → List Frame
frames_of slots (Fork a b) = Explore a ∷ Explore b ∷ []
frames_of slots (Save k m) = if nat_lt k (length slots) then Explore m ∷ Restore k (slice_index_or slots k None) ∷ [] else Explore m ∷ []
frames_of slots (Stays m) = Explore m ∷ []
frames_of slots move = []

-- and the slots after it.
abbrev pub slots_after : ℕ → List (Option ℕ) → Move → List (Option ℕ)
slots_after at slots (Save k m) = slice_set slots k (Some at)
slots_after at slots move = slots

-- Each place that the move names is one of the program.
abbrev pub IsMoveInside : ℕ → Move → Type 0
IsMoveInside n (Fork a b) = (a < n) × (b < n)
IsMoveInside n (Save k m) = m < n
IsMoveInside n (Matches p) = Unit {0}
IsMoveInside n (Stays m) = m < n
IsMoveInside n (Reads m to) = m < n
IsMoveInside n DeadEnd = Unit {0}

-- All that is under way at a position: the threads of later positions, the places entered, and the
-- threads still to come, in order.
abbrev pub CarriesTo : Option ℕ → Sight → ℕ → List Thread → List ℕ → List (Trace × Pair) → Option Trace → Option Trace → Type 0
CarriesTo limit s at resting entered waiting best o =
    Pends (next_to limit s) (λ n. IsTrue (ends_to limit s n)) Trace (note s.places) (map pending resting) (pairs at entered) waiting best o

-- The same without a limit.
abbrev pub Carries : Sight → ℕ → List Thread → List ℕ → List (Trace × Pair) → Option Trace → Option Trace → Type 0
Carries s at resting entered waiting best o = CarriesTo None s at resting entered waiting best o

-- The threads go on at one of the n places, at positions from lo to hi.
abbrev pub AllIn : ℕ → ℕ → ℕ → List Thread → Type 0
AllIn n lo hi [] = Unit {0}
AllIn n lo hi (t ∷ ts) = ((t.place < n) × (lo ≤ t.at) × (t.at ≤ hi)) × AllIn n lo hi ts

-- The threads' walks began at x or later.
abbrev pub AllFrom : ℕ → List Thread → Type 0
AllFrom x [] = Unit {0}
AllFrom x (t ∷ ts) = (x ≤ t.start) × AllFrom x ts

-- How many threads go on at q or later.
abbrev pub count_from : ℕ → List Thread → ℕ
count_from q [] = 0
count_from q (t ∷ ts) = (if nat_le q t.at then 1 else 0) + count_from q ts

-- There is room for all threads that places may still give, and all places are among the n; no
-- thread goes on past hi.
pub record HasRoom (s : Sight) (n hi at : ℕ) (threads : ThreadList) (entered : Members) : Type 0 where
  pub capacity : entered.capacity ≡ n
  pub few : length entered.items ≤ n
  pub room : length threads.items + still s at (at + 1) entered.items < threads.room
  pub inside : AllIn n (at + 1) (min hi (at + 4)) threads.items

-- The threads and places that the closure of a thread that began at `start` adds at the position
-- `at`.
pub record IsGrown (s : Sight) (n hi start at : ℕ) (threads0 : ThreadList) (entered0 : Members) (threads : ThreadList) (entered : Members) : Type 0 where
  pub sound : HasRoom s n hi at threads entered
  pub same_room : threads.room ≡ threads0.room
  pub same_most : threads.most ≡ threads0.most
  pub same_width : threads.width ≡ threads0.width
  pub more : length entered0.items ≤ length entered.items
  -- Each new thread comes from a place that was entered.
  pub counts : (q : ℕ) → count_from q threads.items + still s at q entered.items ≤ count_from q threads0.items + still s at q entered0.items
  pub begun : (x : ℕ) → x ≤ start → AllFrom x threads0.items → AllFrom x threads.items

-- The starts from `at` to `last`, as long as none has given a match.
abbrev pub waiting_starts : Bool → ℕ → ℕ → ℕ → List (Trace × Pair)
waiting_starts is_open width at last = if is_open then starts width at (last + 1 - at) else []

-- The trace of the first walk of the least start in from..=last that has one; None if there is no
-- such start.
abbrev pub GivesTraceTo : Option ℕ → Sight → ℕ → ℕ → ℕ → Option Trace → Type 0
GivesTraceTo limit s width from last o =
    ((o ≡ None) × ((y : ℕ) → from ≤ y → y ≤ last → HasNoWalkTo limit s y))
    ⊎ ((x : ℕ) × (w : List Pair) × (from ≤ x) × (x ≤ last) × IsFirstTo limit s x w × ((y : ℕ) → from ≤ y → y < x → HasNoWalkTo limit s y)
    × (o ≡ Some (noted (note s.places) (sets_out width x).0 w)))

abbrev pub GivesTrace : Sight → ℕ → ℕ → ℕ → Option Trace → Type 0
GivesTrace s width from last o = GivesTraceTo None s width from last o

-- Whether one of the starts has a walk.
abbrev pub Tells : Sight → ℕ → ℕ → Option Ending → Type 0
Tells s from last None = (y : ℕ) → from ≤ y → y ≤ last → HasNoWalkFrom s y
Tells s from last (Some r) = (x : ℕ) × (w : List Pair) × (from ≤ x) × (x ≤ last) × IsFirstFrom s x w

-- The trace of the best walk so far.
abbrev pub best_of : Option Ending → List (Option ℕ) → Option Trace
best_of best found = option_map (λ (r : Ending). done r.pattern r.start r.end found) best

-- All that is under way before the position `at`.
abbrev pub PendingTo : Option ℕ → Sight → ℕ → ℕ → ℕ → List Thread → Option Ending → List (Option ℕ) → Option Trace → Type 0
PendingTo limit s width last at curr best found o =
    CarriesTo limit s at [] [] (map pending curr ++ waiting_starts (is_none best) width at last) (best_of best found) o

abbrev pub Pending : Sight → ℕ → ℕ → ℕ → List Thread → Option Ending → List (Option ℕ) → Option Trace → Type 0
Pending s width last at curr best found o = PendingTo None s width last at curr best found o

-- The threads wait for `at` or later. Those that wait longer are within a scalar, so none begins
-- before they go on. Each position since a thread's walk began was counted.
pub record IsLined (s : Sight) (n hi width at insertions : ℕ) (curr : ThreadList) : Type 0 where
  pub inside : AllIn n at (min hi (at + 3)) curr.items
  pub width_is : curr.width ≡ width
  pub room : reader_count s.places < curr.room
  pub waiting : count_from (at + 1) curr.items ≤ count_of reads_scalar s.places
  pub within : (x : ℕ) → at ≤ x → 0 < count_from (x + 1) curr.items → scalar_at (ahead s.text s.hi x) ≡ None
  pub begun : AllFrom (at - insertions) curr.items

-- Each position of the walk was counted.
abbrev pub IsCounted : ℕ → Option Ending → Type 0
IsCounted insertions best = MatchOption best (Unit {0}) (λ (r : Ending). r.end + 1 ≤ insertions + r.start)
