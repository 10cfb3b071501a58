-- Determinizers: what states are made of. It is a byte program, the direction of the search, the
-- kind of match, and what is read.
use Rattle.std.specs.Prelude.{◌≡◌, ◌↔◌, ℕ, ◌<◌, Bool, true, false, not, ◌&&◌, List, [], ◌∷◌, length, Option, Some, None, nat_eq, slice_get}
use Rattle.rc_text.specs.declared.types.MatchKind.{MatchKind}
use Rattle.rc_text.specs.declared.types.Anchored.{Anchored}
use Rattle.rc_text.specs.declared.types.Anchored.TheVariants.{No, Yes, Pattern}
use Rattle.rc_program.specs.Laws.{IsClosed}
use Rattle.rc_program.specs.Program.{Place, accept, place_at}
use Rattle.rc_determinize.specs.Steps.{HasPlace, AreOnce, AreBelow, IsRising}
use Rattle.rc_determinize.specs.declared.sides.Seen.{Seen}
use Rattle.rc_determinize.specs.declared.sides.Sides.{Sides}
use Rattle.rc_determinize.specs.Sides.{told, sides_of, IsReadable}
use Rattle.rc_determinize.specs.States.{Setting, IsSetting, State, IsFirstBeside}
use Rattle.rc_determinize.specs.Kinds.{IsNextByOver, bound_of, longest, IsListOf}
use Rattle.rc_determinize.specs.Backward.{IsPriorOver, IsLastBeside}

-- In which direction bytes are read, and forwards, which kind of match is found.
pub data Direction : Type 0 where
  forwards : MatchKind → Direction
  backwards : Direction

-- What is read: bytes, each known alone, of which some may not be read; or symbols, which are bytes
-- with both their sides.
pub data Alphabet : Type 0 where
  bytes : Alphabet
  symbols : Alphabet

-- A byte program, which is entered at place 0; the entry of each of its patterns, in their order;
-- the direction; and what is read.
pub record Machine : Type 0 where
  pub setting : Setting
  pub entries : List ℕ
  pub direction : Direction
  pub alphabet : Alphabet

-- The state to which a byte leads, or the end of what the search sees, by what is told of its sides.
-- Backwards, a state's `matched` is the pattern whose entry was reached.
abbrev pub leads_over : Direction → List Place → List ℕ → State → Sides → State → Type 0
leads_over (forwards kind) places entries = IsNextByOver kind places 0
leads_over backwards places entries = IsPriorOver places entries

abbrev pub LeadsOver : Machine → State → Sides → State → Type 0
LeadsOver m = leads_over m.direction m.setting.places m.entries

-- The same, if the byte is known alone.
abbrev pub leads_by : Direction → Setting → List ℕ → State → Option ℕ → State → Type 0
leads_by d g entries s beside = leads_over d g.places entries s (sides_of g.needs g.terminator beside)

abbrev pub Leads : Machine → State → Option ℕ → State → Type 0
Leads m = leads_by m.direction m.setting m.entries

-- The bound below which all entries of a state's list are, and the greatest length of that list,
-- for a program of so many places.
abbrev pub entry_bound : Direction → ℕ → ℕ
entry_bound (forwards kind) places = bound_of kind places
entry_bound backwards places = places

abbrev pub longest_in : Direction → ℕ → ℕ
longest_in (forwards kind) places = longest kind places
longest_in backwards places = places

-- The list has places of the program, each once; forwards for leftmost-longest with marks between
-- them.
abbrev pub IsListIn : Direction → ℕ → List ℕ → Type 0
IsListIn (forwards kind) places list = IsListOf kind places list
IsListIn backwards places list = AreOnce list × AreBelow places list

-- The state at the end of a match of this pattern, with these facts about the side after: it lists
-- the pattern's match places.
pub record IsLastOfBeside (p : ℕ) (places : List Place) (facts : Seen) (s : State) : Type 0 where
  pub list : (q : ℕ) → HasPlace q s.list ↔ (place_at places q ≡ accept p)
  pub rising : IsRising s.list
  pub matched : s.matched ≡ None
  pub goes_on : s.goes_on ≡ false
  pub beside : s.beside ≡ facts

-- The state in which a search begins, with these facts about the side beside it. Forwards it enters
-- the program: only at the first position if it is anchored, and at the entry of the one pattern
-- that is asked for. Backwards it begins at the match places, of the one pattern that is asked for
-- or of all.
abbrev pub begins_beside : Direction → List Place → List ℕ → Anchored → Seen → State → Type 0
begins_beside (forwards kind) places entries No facts s = IsFirstBeside 0 facts false s
begins_beside (forwards kind) places entries Yes facts s = IsFirstBeside 0 facts true s
begins_beside (forwards kind) places entries (Pattern p) facts s = (entry : ℕ) × (slice_get entries p ≡ Some entry) × IsFirstBeside entry facts true s
begins_beside backwards places entries No facts s = IsLastBeside places facts s
begins_beside backwards places entries Yes facts s = IsLastBeside places facts s
begins_beside backwards places entries (Pattern p) facts s = IsLastOfBeside p places facts s

abbrev pub BeginsBeside : Machine → Anchored → Seen → State → Type 0
BeginsBeside m = begins_beside m.direction m.setting.places m.entries

-- The same, if the byte there is known alone, or none is there.
abbrev pub begins_by : Direction → Setting → List ℕ → Anchored → Option ℕ → State → Type 0
begins_by d g entries anchored beside = begins_beside d g.places entries anchored (told g.needs g.terminator beside)

abbrev pub Begins : Machine → Anchored → Option ℕ → State → Type 0
Begins m = begins_by m.direction m.setting m.entries

-- Searches may be anchored so: the pattern asked for, if any, is one of the program's.
abbrev pub IsAsked : Machine → Anchored → Type 0
IsAsked m (Pattern p) = p < length m.entries
IsAsked m _ = Unit {0}

abbrev pub is_empty : List ℕ → Bool
is_empty [] = true
is_empty (q ∷ qs) = false

-- Nothing goes on from the state.
abbrev pub is_dead : State → Bool
is_dead s = is_empty s.list && not s.goes_on

-- The list has nothing but the place at which the program is entered.
abbrev pub is_root_alone : List ℕ → Bool
is_root_alone [] = false
is_root_alone (q ∷ []) = nat_eq q 0
is_root_alone (q ∷ p ∷ qs) = false

-- Nothing is under way but walks that begin at the state's position or later.
abbrev pub is_idle : State → Bool
is_idle s = is_root_alone s.list && s.goes_on

-- It is a machine: its places read bytes alone, no way leads out of it, and place 0 and the entries
-- are within it.
pub record IsMachine (m : Machine) : Type 0 where
  pub setting : IsSetting m.setting
  pub closed : IsClosed m.setting.places
  pub rooted : 0 < length m.setting.places
  pub entered : AreBelow (length m.setting.places) m.entries

-- Bytes of one class lead to the same states, and either all of them may be read or none.
pub record AreOfOneClass (m : Machine) (b c : ℕ) : Type 0 where
  pub read : IsReadable m.setting.needs (Some b) → IsReadable m.setting.needs (Some c)
  pub lead : (s t : State) → Leads m s (Some b) t → Leads m s (Some c) t
  pub begin : (anchored : Anchored) (s : State) → Begins m anchored (Some b) s → Begins m anchored (Some c) s

-- The class of each byte, and a byte of each class.
pub record IsClassing (m : Machine) (classes samples : List ℕ) : Type 0 where
  pub size : length classes ≡ 256
  pub sampled : (b class : ℕ) → slice_get classes b ≡ Some class → (c : ℕ) × (c < 256) × (slice_get samples class ≡ Some c) × (slice_get classes c ≡ Some class)
  pub alike : (b c class : ℕ) → slice_get classes b ≡ Some class → slice_get classes c ≡ Some class → AreOfOneClass m b c
