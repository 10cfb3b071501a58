-- Only proofs use this file.
-- Overlapping search: which patterns are met, and what is known of them at a position.
use Rattle.std.specs.Prelude.{◌≡◌, ◌⊎◌, ℕ, ◌+◌, ◌*◌, ◌<◌, ◌≤◌, Bool, true, false, List, length, Option, Some, slice_get}
use Rattle.rc_text.specs.declared.types.Anchored.{Anchored}
use Rattle.rc_text.specs.declared.types.MatchKind.TheVariants.{All as all_matches}
use Rattle.rc_text.specs.Text.{Searched}
use Rattle.rc_pattern_set.specs.Sets.{Has}
use Rattle.rc_program.specs.Text.{Text}
use Rattle.rc_program.specs.Program.{Place, accept, place_at, ways}
use Rattle.rc_program.specs.Sought.{text_of}
use Rattle.rc_determinize.specs.Sets.{Comes, EndsHere}
use Rattle.rc_determinize.specs.States.{State, IsInside}
use Rattle.rc_determinize.specs.Steps.{HasPlace}
use Rattle.rc_dfa.specs.Machine.{Machine, bytes, Begins, IsAsked, forwards}
use Rattle.rc_dfa.specs.Laws.{starts_of}
use Rattle.rc_dfa.specs.Runs.{MayRead, Runs, behind_at}
use Rattle.rc_lazy_dfa.specs.Stores.{Frame, IsRow, IsColumn}
use Rattle.rc_lazy_dfa.specs.Halves.{IsHalf}
use Rattle.rc_lazy_dfa.specs.declared.which.Ends.{Ends}
use Rattle.rc_lazy_dfa.specs.declared.letters.Letter.TheVariants.{Alone}
use Rattle.rc_lazy_dfa.specs.declared.which.Progress.{Progress}
use Rattle.rc_lazy_dfa.specs.declared.which.Progress.TheVariants.{Through, Done, GivenUp}

-- PATTERNS AND SETS

-- Within the bounds, a walk comes to a match place of the pattern at the position.
abbrev pub IsMetAt : Machine → Text → ℕ → ℕ → Anchored → ℕ → ℕ → Type 0
IsMetAt m t hi from anchored p y =
    (q : ℕ) × Comes (ways m.setting.places t hi) (starts_of m anchored from hi) (q, y) × (place_at m.setting.places q ≡ accept p)

-- The pattern is met at some position.
abbrev pub IsMet : Machine → Text → ℕ → ℕ → Anchored → ℕ → Type 0
IsMet m t hi from anchored p = (y : ℕ) × IsMetAt m t hi from anchored p y

-- The list has a match place of the pattern.
abbrev pub IsAmong : List Place → List ℕ → ℕ → Type 0
IsAmong places list p = (q : ℕ) × HasPlace q list × (place_at places q ≡ accept p)

-- Ways that read nothing lead from the state to a match place of the pattern, if this byte is ahead,
-- or none.
abbrev pub EndsAt : Machine → State → Option ℕ → ℕ → Type 0
EndsAt m s beside p = (q : ℕ) × EndsHere m.setting s beside q × (place_at m.setting.places q ≡ accept p)

-- The set keeps what it had, and adds only such patterns.
pub record AddsOnly (Is : ℕ → Type 0) (old new : List Bool) : Type 0 where
  pub capacity : length new ≡ length old
  pub keeps : (p : ℕ) → Has old p → Has new p
  pub only : (p : ℕ) → Has new p → Has old p ⊎ Is p

-- It has each such pattern below its capacity.
abbrev pub HasEach : (ℕ → Type 0) → List Bool → Type 0
HasEach Is set = (p : ℕ) → p < length set → Is p → Has set p

-- A SEARCH

-- An overlapping search, of which the code has only a part at a time: by which rows, over what, from
-- which position up to which bound, and how; and the set before it.
pub record Overlap : Type 0 where
  pub frame : Frame
  pub seen : Searched
  pub from : ℕ
  pub bound : ℕ
  pub anchored : Anchored
  pub old : List Bool

abbrev pub text_over : Overlap → Text
text_over o = text_of o.frame.machine.setting.terminator o.seen

-- It reads bytes, and searches for `MatchKind::All`, within what is seen.
pub record IsOverlap (o : Overlap) : Type 0 where
  pub reads : o.frame.machine.alphabet ≡ bytes
  pub overlaps : o.frame.machine.direction ≡ forwards all_matches
  pub asked : IsAsked o.frame.machine o.anchored
  pub inside : IsInside (text_over o) o.from o.bound
  pub ordered : o.from ≤ o.bound

abbrev pub MeetsAt : Overlap → ℕ → ℕ → Type 0
MeetsAt o = IsMetAt o.frame.machine (text_over o) o.bound o.from o.anchored

-- The pattern is met at some position, or at one before this.
abbrev pub Meets : Overlap → ℕ → Type 0
Meets o = IsMet o.frame.machine (text_over o) o.bound o.from o.anchored

abbrev pub MeetsBefore : Overlap → ℕ → ℕ → Type 0
MeetsBefore o i p = (y : ℕ) × (y < i) × MeetsAt o p y

-- The bytes up to the position lead to this state.
pub record ComesTo (o : Overlap) (i : ℕ) (s : State) : Type 0 where
  pub within : i ≤ o.bound
  pub first : State
  pub read : MayRead o.frame.machine (behind_at (text_over o) o.from)
  pub begins : Begins o.frame.machine o.anchored (behind_at (text_over o) o.from) first
  pub found : Option (ℕ × ℕ)
  pub runs : Runs o.frame.machine (text_over o) o.bound o.from first i s found

-- Where a cell is collected, the set has each pattern that ends at the state of its row, whatever byte
-- of its class is ahead. Only cells of these states are.
pub record AreCollected (f : Frame) (states : List State) (collected set : List Bool) : Type 0 where
  pub short : length collected ≤ length states * f.width
  pub told : (row column : ℕ) (s : State) (beside : Option ℕ) → IsRow f.width states row s → IsColumn f (Alone beside) column →
      slice_get collected (row + column) ≡ Some true → HasEach (EndsAt f.machine s beside) set

-- The search stands at the position, in this row, and the set has each pattern that was met before.
pub record IsUnderway (o : Overlap) (e : Ends) (i row : ℕ) (set : List Bool) : Type 0 where
  pub half : IsHalf o.frame e.half
  pub state : State
  pub in_row : IsRow o.frame.width e.half.store.states row state
  pub comes : ComesTo o i state
  pub collected : AreCollected o.frame e.half.store.states e.collected.items set
  pub adds : AddsOnly (Meets o) o.old set
  pub has : HasEach (MeetsBefore o i) set

-- It is over: the set has what it may have, and if it told all, each pattern that is met.
pub record IsTold (o : Overlap) (e : Ends) (all : Bool) (set : List Bool) : Type 0 where
  pub half : IsHalf o.frame e.half
  pub adds : AddsOnly (Meets o) o.old set
  pub has : all ≡ true → HasEach (Meets o) set

abbrev pub IsLeg : Overlap → Ends → ℕ → Progress → List Bool → Type 0
IsLeg o e i (Through row) set = IsUnderway o e i row set
IsLeg o e i Done set = IsTold o e true set
IsLeg o e i GivenUp set = IsTold o e false set
