-- Cache: the states of one direction, which are added as searches reach them.
use Rattle.std.specs.Prelude.{◌≡◌, ◌⊎◌, ℕ, ◌+◌, ◌*◌, ◌/◌, ◌<◌, ◌≤◌, Bool, true, false, List, [], ◌∷◌, length, Option, Some, None, slice_get, slice_index_or}
use Rattle.rc_text.specs.declared.types.Anchored.{Anchored}
use Rattle.rc_text.specs.declared.types.Anchored.TheVariants.{No, Yes, Pattern}
use Rattle.rc_determinize.specs.States.{State}
use Rattle.rc_dfa.specs.declared.automaton.Automaton.{Automaton}
use Rattle.rc_dfa.specs.declared.automaton.Direction.{Direction}
use Rattle.rc_dfa.specs.Machine as machines
use Rattle.rc_dfa.specs.Machine.{Machine, Alphabet, symbols, IsMachine, longest_in, Leads, Begins, IsAsked, AreOfOneClass, is_dead}
use Rattle.rc_dfa.specs.Automata.{machine_of, classes_of, columns_of}
use Rattle.rc_dfa.specs.Samples.{class_count}
use Rattle.rc_dfa.specs.Symbols.{IsPast, LeadsTagged, BeginsTagged, IsColumning, column_by, columns_for}
use Rattle.rc_dfa.specs.Laws.{IsWithin}
use Rattle.rc_dfa.specs.Runs.{IsByte, MayRead}
use Rattle.rc_lazy_dfa.specs.declared.letters.Letter.{Letter}
use Rattle.rc_lazy_dfa.specs.declared.letters.Letter.TheVariants.{Alone, Tagged}
use Rattle.rc_lazy_dfa.specs.Cells.{unknown, dead, quit, marks}
use Rattle.rc_lazy_dfa.specs.declared.store.Store.{Store}
use Rattle.rc_table_search.specs.declared.refusal.Refusal.{Refusal}
use Rattle.rc_table_search.specs.declared.refusal.Refusal.TheVariants.{Memory, Short}

-- The frame of the rows: a machine, the class of each byte, and how many cells a row has: one for
-- each column and one for the end.
pub record Frame : Type 0 where
  pub machine : Machine
  pub classes : List ℕ
  pub width : ℕ

abbrev pub frame_of : Automaton → Direction → Frame
frame_of a d = record { machine = machine_of a d; classes = classes_of a; width = columns_of a + 1 }

pub record IsFrame (f : Frame) : Type 0 where
  pub machine : IsMachine f.machine
  pub size : length f.classes ≡ 256
  pub below : (b class : ℕ) → slice_get f.classes b ≡ Some class → class < class_count f.classes
  pub alike : (b c class : ℕ) → slice_get f.classes b ≡ Some class → slice_get f.classes c ≡ Some class → AreOfOneClass f.machine b c
  pub columns : f.width ≡ columns_for f.machine.alphabet f.classes + 1
  pub columning : IsColumning f.machine f.classes
  pub wide : 0 < f.width

-- THE COUNT

-- The weight of a state with its row, in bytes.
abbrev pub weight_of : ℕ → State → ℕ
weight_of width s = 8 * width + 32 + 8 * length s.list

-- How many entries their lists have.
abbrev pub listed_by : List State → ℕ
listed_by [] = 0
listed_by (s ∷ ss) = length s.list + listed_by ss

-- How many start cells there are: for each kind of anchoring, one for each column of what stands
-- beside.
abbrev pub starts_in : Frame → ℕ
starts_in f = (length f.machine.entries + 2) * f.width

-- How many bytes these states take: 8 for each cell of a row and each start cell, and for each
-- state 32 and 8 for each entry of its list, a place or a mark between places of different starts.
-- Three more states are counted, with no entries: that of which nothing is known yet, the dead one,
-- and that for a byte that may not be read.
abbrev pub count_of : Frame → List State → ℕ
count_of f states = 8 * ((length states + 3) * f.width) + 8 * starts_in f + 32 * (length states + 3) + 8 * listed_by states

-- The least capacity: for five states, each with as many entries as a list has at most.
abbrev pub minimum_of : Frame → ℕ
minimum_of f = 8 * (5 * f.width) + 8 * starts_in f + 5 * (32 + 8 * longest_in f.machine.direction (length f.machine.setting.places))

-- CELLS

-- The row of the state.
abbrev pub IsRow : ℕ → List State → ℕ → State → Type 0
IsRow width states row s = (id : ℕ) × (slice_get states id ≡ Some s) × (row ≡ id * width)

-- The cell leads to the state: to its row, or to none if nothing goes on and no match was found.
abbrev pub Names : ℕ → List State → ℕ → State → Type 0
Names width states cell s =
    ((cell ≡ dead) × (is_dead s ≡ true) × (s.matched ≡ None))
    ⊎ ((row : ℕ) × IsRow width states row s × (cell ≡ row + marks s))

-- What is read may be read; a symbol always may.
abbrev pub MayReadLetter : Machine → Letter → Type 0
MayReadLetter m (Alone beside) = MayRead m beside
MayReadLetter m (Tagged y) = Unit {0}

-- Whether the machine searches backwards.
abbrev pub goes_back : machines.Direction → Bool
goes_back (machines.forwards kind) = false
goes_back machines.backwards = true

-- It leads to a state, or a search begins beside it in one.
abbrev pub LeadsByLetter : Frame → State → Letter → State → Type 0
LeadsByLetter f s (Alone beside) = Leads f.machine s beside
LeadsByLetter f s (Tagged y) = LeadsTagged (goes_back f.machine.direction) f.machine s y

abbrev pub BeginsByLetter : Frame → Anchored → Letter → State → Type 0
BeginsByLetter f anchored (Alone beside) = Begins f.machine anchored beside
BeginsByLetter f anchored (Tagged y) = BeginsTagged (goes_back f.machine.direction) f.machine anchored y

-- What is read leads where the cell says, or may not be read.
abbrev pub IsKnownBy : Frame → List State → Letter → (State → Type 0) → ℕ → Type 0
IsKnownBy f states letter To cell =
    ((cell ≡ quit) × (¬ MayReadLetter f.machine letter))
    ⊎ (MayReadLetter f.machine letter × ((t : State) × To t × Names f.width states cell t))

abbrev pub IsCell : Frame → List State → Letter → (State → Type 0) → ℕ → Type 0
IsCell f states letter To cell = (cell ≡ unknown) ⊎ IsKnownBy f states letter To cell

-- The same of a byte that is known alone, or of the end.
abbrev pub IsKnown : Frame → List State → Option ℕ → (State → Type 0) → ℕ → Type 0
IsKnown f states beside = IsKnownBy f states (Alone beside)

-- It is of this alphabet.
abbrev pub IsLetter : Alphabet → Letter → Type 0
IsLetter a (Alone beside) = IsByte beside
IsLetter a (Tagged y) = (a ≡ symbols) × IsPast y

-- Its column.
abbrev pub IsColumn : Frame → Letter → ℕ → Type 0
IsColumn f (Alone (Some b)) column = slice_get f.classes b ≡ Some column
IsColumn f (Alone None) column = column + 1 ≡ f.width
IsColumn f (Tagged y) column = IsLetter f.machine.alphabet (Tagged y) × (column ≡ column_by f.classes y)

-- The number of a kind of anchoring.
abbrev pub mode_of : Anchored → ℕ
mode_of No = 0
mode_of Yes = 1
mode_of (Pattern p) = p + 2

-- Each cell that is known is the step from the state of its row, for all that its column stands for.
pub record AreCells (f : Frame) (states : List State) (cells : List ℕ) : Type 0 where
  pub rows : length cells ≡ length states * f.width
  pub told : (row column : ℕ) (s : State) (letter : Letter) → IsRow f.width states row s → IsColumn f letter column →
      IsCell f states letter (LeadsByLetter f s letter) (slice_index_or cells (row + column) unknown)

-- Each start cell that is known is where a search begins that is anchored so.
pub record AreStarts (f : Frame) (states : List State) (starts : List ℕ) : Type 0 where
  pub size : length starts ≡ starts_in f
  pub told : (anchored : Anchored) (column : ℕ) (letter : Letter) → IsAsked f.machine anchored → IsColumn f letter column →
      IsCell f states letter (BeginsByLetter f anchored letter) (slice_index_or starts (mode_of anchored * f.width + column) unknown)

-- The states have places of the program, each once; for leftmost-longest with marks between them.
pub record AreWithin (f : Frame) (states : List State) : Type 0 where
  pub each : (id : ℕ) (s : State) → slice_get states id ≡ Some s → IsWithin f.machine s

-- It was made for this machine and these classes. Its cells are true, whatever numbers its states
-- have, and it takes no more than its capacity.
pub record Held (f : Frame) (s : Store) : Type 0 where
  pub frame : IsFrame f
  pub width : s.width ≡ f.width
  pub within : AreWithin f s.states
  pub cells : AreCells f s.states s.cells.items
  pub starts : AreStarts f s.states s.starts.items
  pub used : s.used ≡ count_of f s.states
  pub light : s.used ≤ s.capacity
  pub roomy : minimum_of f ≤ s.capacity
  pub fits : s.capacity ≤ 18446744073709551615

-- WHAT IS SPENT

-- So many states may weigh more than the capacity.
abbrev pub IsShort : Frame → Store → ℕ → Type 0
IsShort f s n = s.capacity < s.used + n * minimum_of f

-- Each state is held where it was.
abbrev pub Grows : List State → List State → Type 0
Grows old new = (id : ℕ) (s : State) → slice_get old id ≡ Some s → slice_get new id ≡ Some s

-- What the count of clears says of two moments: it never falls, and unless it is at its greatest it
-- tells whether all states were dropped between them. If it is the same, each state is held where it
-- was. If it rose, it did so at most once for each of the so many states that were added at most, and
-- no others than these are held.
pub record Counts (old new : Store) (n : ℕ) : Type 0 where
  pub rises : old.clears ≤ new.clears
  pub few : new.clears ≤ old.clears + n
  pub grown : length new.states ≤ length old.states + n
  pub kept : new.clears ≡ old.clears → old.clears < 18446744073709551615 → Grows old.states new.states
  pub dropped : old.clears < new.clears → length new.states ≤ n

-- From the first to the second at most so many states were added, and it was cleared only if it may
-- have been short.
pub record Spends (f : Frame) (old new : Store) (n : ℕ) : Type 0 where
  pub capacity : new.capacity ≡ old.capacity
  pub counts : Counts old new n
  pub added : ((new.clears ≡ old.clears) × (new.used ≤ old.used + n * minimum_of f)) ⊎ IsShort f old n

-- Clearing is futile: it was done three times, and since the last time each state served fewer than
-- ten bytes on average.
abbrev pub IsFutile : Store → ℕ → Type 0
IsFutile s served = (3 ≤ s.clears) × (served / 10 < length s.states)

-- Why a state wasn't added: memory was refused, or the cache was cleared three times before and may
-- be short again.
abbrev pub IsRefused : Frame → Store → Store → Refusal → Type 0
IsRefused f old new Memory = Unit {0}
IsRefused f old new Short = (3 ≤ new.clears) × IsShort f old 1
