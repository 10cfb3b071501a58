-- Only proofs use this file.
-- Searches by a table: what their runs keep, and how they end.
use Rattle.std.specs.Prelude.{◌≡◌, ℕ, ◌+◌, ◌<◌, ◌≤◌, Bool, false, not, List, Option, Some, None, Result, IfOk, IfErr}
use Rattle.rc_text.specs.Text.{Searched, slice_end}
use Rattle.rc_program.specs.Text.{Text}
use Rattle.rc_program.specs.Sought.{text_of}
use Rattle.rc_determinize.specs.States.{State}
use Rattle.rc_symbols.specs.Symbols.{IsSymbolAt}
use Rattle.rc_dfa.specs.Machine.{Machine, IsAsked}
use Rattle.rc_dfa.specs.Runs.{MayReadSide, BeginsBy, LeadsAcross, met_last}
use Rattle.rc_dfa.specs.Ended.{gave_up}
use Rattle.rc_dfa.specs.Inside.{IsPieceOf}
use Rattle.rc_dfa.specs.Symbols.{symbol_of}
use Rattle.rc_dfa.specs.declared.symbols.Tagged.{Tagged}
use Rattle.rc_dfa.specs.declared.ended.Ended.{Ended}
use Rattle.rc_dfa.specs.declared.ended.Reading.{Reading}
use Rattle.rc_text.specs.declared.types.Anchored.{Anchored}
use Rattle.rc_table_search.specs.Walks.{has_died, next_of, row_of}
use Rattle.rc_table_search.specs.Ways.{Course, EndsFrom, HasEndedBy, HasEndedFrom, IsAhead, IsBeside, IsInSlice, IsOn, RunsBy, far_at, offset_of, side_at, span}
use Rattle.rc_table_search.specs.Views.{View, IsNoted, KnowsSide}
use Rattle.rc_table_search.specs.Refusals.{is_memory}
use Rattle.rc_table_search.specs.declared.refusal.Refusal.{Refusal}
use Rattle.rc_table_search.specs.declared.run.Stand.{Stand}
use Rattle.rc_table_search.specs.declared.search.Request.{Request}
use Rattle.rc_table_search.specs.declared.search.Progress.{Progress}
use Rattle.rc_table_search.specs.declared.search.Progress.TheVariants.{Through, Over}

-- What a search began with: the text, and the cache.
pub record Origin (Cache : Type 0) : Type 0 where
  pub seen : Searched
  pub begun : Cache

abbrev pub text_in : Machine → Searched → Text
text_in m seen = text_of m.setting.terminator seen

abbrev pub course_of : Request → Course
course_of q = record { from = q.from; bound = q.end; anchored = q.anchored; earliest = q.extent.earliest }

-- The states that a search adds: at most one where it begins, one for each byte, and one at the
-- end.
abbrev pub all_spent : Bool → Request → ℕ
all_spent backwards q = span backwards q.from q.end + 2

-- The search ended so. Forwards it looked at the bytes before r alone, unless it gave up.
pub record IsOver {C : Type 0} (v : View C) (backwards : Bool) (o : Origin C) (q : Request) (c : C) (r : ℕ) (e : Ended) : Type 0 where
  pub cache : v.IsCache c
  pub spends : v.Spends o.begun c (all_spent backwards q)
  pub ended : (m : Machine) → v.IsOf m → IsAsked m q.anchored → HasEndedBy backwards m (text_in m o.seen) (course_of q) q.extent.may_rest r e
  pub gives_up : (memory : Bool) → gave_up e ≡ Some memory → v.GivesUp o.begun c (all_spent backwards q) memory

-- WHAT STANDS BESIDE

-- A search that is anchored so and goes on from the position begins where the cell says.
pub record BeginsAt {C : Type 0} (v : View C) (backwards : Bool) (seen : Searched) (c : C) (anchored : Anchored) (from cell : ℕ) : Type 0 where
  pub is_row : has_died cell ≡ false → v.IsRow c (row_of cell)
  pub begins : (m : Machine) → v.IsOf m → IsAsked m anchored → KnowsSide v c m (side_at (not backwards) (text_in m seen) from)
      (BeginsBy m.alphabet m anchored (side_at (not backwards) (text_in m seen) from)) cell

-- From the row of the first cache, what is read next at the position leads where the cell says, by
-- the second.
pub record LeadsAt {C : Type 0} (v : View C) (backwards : Bool) (seen : Searched) (old new : C) (i row cell : ℕ) : Type 0 where
  pub is_row : has_died cell ≡ false → v.IsRow new (row_of cell)
  pub leads : (m : Machine) → v.IsOf m → (s : State) → v.HasState old m row s → KnowsSide v new m (side_at backwards (text_in m seen) i)
      (LeadsAcross m.alphabet m (side_at backwards (text_in m seen) i) (far_at backwards (text_in m seen) i) s) cell

-- The byte is read next at the position. Of one past ASCII this is known.
pub record IsTagged (backwards : Bool) (seen : Searched) (i b : ℕ) (tagged : Tagged) : Type 0 where
  pub there : IsBeside backwards seen.content i b
  pub inside : IsInSlice backwards seen i
  pub symbol : 128 ≤ b → (terminator : ℕ) → IsSymbolAt (text_of terminator seen) (offset_of backwards i) (symbol_of (record { byte = b; tagged = tagged }))

-- It began in the state of the row, by what stands beside.
pub record HasBegun {C : Type 0} (v : View C) (backwards : Bool) (o : Origin C) (q : Request) (c : C) (stand : Stand) : Type 0 where
  pub cache : v.IsCache c
  pub is_row : v.IsRow c stand.row
  pub spends : v.Spends o.begun c 1
  pub unmet : stand.noted ≡ None
  pub begins : (m : Machine) → v.IsOf m → IsAsked m q.anchored → (s : State) × v.HasState c m stand.row s
      × MayReadSide m.alphabet m (side_at (not backwards) (text_in m o.seen) q.from)
      × BeginsBy m.alphabet m q.anchored (side_at (not backwards) (text_in m o.seen) q.from) s

abbrev pub IsBegun : {C : Type 0} → View C → Bool → Origin C → Request → C → Progress → Type 0
IsBegun v backwards o q c (Through s) = HasBegun v backwards o q c s
IsBegun v backwards o q c (Over reading) = IsOver v backwards o q c reading.read reading.ended

-- FROM A ROW ON

-- What a run goes on from: the text, the cache, and a row of it.
pub record Outset (Cache : Type 0) : Type 0 where
  pub seen : Searched
  pub begun : Cache
  pub row : ℕ

-- From the state `first`, the bytes up to the position lead to the state of the row, and the note
-- stands for what was found last.
pub record IsHere {C : Type 0} (v : View C) (backwards : Bool) (seen : Searched) (q : Request) (c : C) (m : Machine) (first : State) (i : ℕ) (stand : Stand) : Type 0 where
  pub state : State
  pub in_row : v.HasState c m stand.row state
  pub found : Option (ℕ × ℕ)
  pub tells : IsNoted v m stand.noted found
  pub standing : RunsBy backwards m (text_in m seen) (course_of q) first i state found

-- The run stands at the position, whatever machine the table is of, and whatever state of it the row
-- has from which the run went on.
pub record IsAt {C : Type 0} (v : View C) (backwards : Bool) (o : Outset C) (q : Request) (c : C) (i : ℕ) (stand : Stand) : Type 0 where
  pub cache : v.IsCache c
  pub is_row : v.IsRow c stand.row
  pub on : IsOn backwards q.from i
  pub spends : v.Spends o.begun c (span backwards q.from i)
  pub stands : (m : Machine) → v.IsOf m → (first : State) → v.HasState o.begun m o.row first → IsHere v backwards o.seen q c m first i stand

-- Wherever the byte is read next, a run that stood so goes on so.
abbrev pub GoesOver : {C : Type 0} → View C → Bool → C → ℕ → Tagged → Stand → Stand → Type 0
GoesOver {C} v backwards c b tagged stand next = (o : Outset C) (q : Request) (i : ℕ) → IsAt v backwards o q c i stand → IsTagged backwards o.seen i b tagged →
    0 < span backwards i q.end → IsAt v backwards o q c (next_of backwards i) next

-- Wherever the piece stands, a run that stood so at the first place goes on so at the second.
abbrev pub GoesAcross : {C : Type 0} → View C → Bool → C → List ℕ → ℕ → ℕ → Stand → Stand → Type 0
GoesAcross {C} v backwards c piece from to stand next = (o : Outset C) (q : Request) (start : ℕ) → IsAhead backwards o.seen q.end start piece →
    IsAt v backwards o q c (start + from) stand → IsAt v backwards o q c (start + to) next

-- What is read next at the position leads where the cell says, from where the run stood. Or a state
-- was refused.
pub record HasLed {C : Type 0} (v : View C) (backwards : Bool) (o : Outset C) (q : Request) (c : C) (i : ℕ) (stand : Stand) (cell : Result ℕ Refusal) : Type 0 where
  pub before : C
  pub here : IsAt v backwards o q before i stand
  pub cache : v.IsCache c
  pub spends : v.Spends before c 1
  pub leads : IfOk cell (LeadsAt v backwards o.seen before c i stand.row)
  pub refused : IfErr cell (λ e. v.GivesUp before c 1 (is_memory e))

-- The states that it adds: at most one for each byte, and one at the end.
abbrev pub run_spent : Bool → Request → ℕ
run_spent backwards q = span backwards q.from q.end + 1

-- The run ended so. Forwards it looked at the bytes before r alone, unless it gave up.
pub record HasRun {C : Type 0} (v : View C) (backwards : Bool) (o : Outset C) (q : Request) (c : C) (r : ℕ) (e : Ended) : Type 0 where
  pub cache : v.IsCache c
  pub spends : v.Spends o.begun c (run_spent backwards q)
  pub ended : (m : Machine) → v.IsOf m → (first : State) → v.HasState o.begun m o.row first →
      HasEndedFrom backwards m (text_in m o.seen) (course_of q) first q.extent.may_rest r e
  pub gives_up : (memory : Bool) → gave_up e ≡ Some memory → v.GivesUp o.begun c (run_spent backwards q) memory

-- The run goes on at the position, or has ended.
abbrev pub IsLeg : {C : Type 0} → View C → Bool → Outset C → Request → C → ℕ → Progress → Type 0
IsLeg v backwards o q c i (Through s) = IsAt v backwards o q c i s
IsLeg v backwards o q c i (Over reading) = HasRun v backwards o q c reading.read reading.ended

-- If something goes on from the cell, it has a row of the cache.
abbrev pub IsRowOf : {C : Type 0} → View C → C → ℕ → Type 0
IsRowOf v c cell = has_died cell ≡ false → v.IsRow c (row_of cell)

-- If the run goes on, it does so at a row of the cache.
abbrev pub GoesOnIn : {C : Type 0} → View C → C → Progress → Type 0
GoesOnIn v c (Through s) = v.IsRow c s.row
GoesOnIn v c (Over reading) = Unit {0}

-- Wherever the piece stands, a search forwards from the place begins where the cell says.
abbrev pub BeginsInside : {C : Type 0} → View C → C → Anchored → List ℕ → ℕ → ℕ → Type 0
BeginsInside v c anchored piece place cell = (seen : Searched) (bound start : ℕ) → IsPieceOf seen bound start piece → bound ≤ slice_end seen →
    BeginsAt v false seen c anchored (start + place) cell

-- Wherever the piece stands, a run that stood so by the first cache at the first place stands so by
-- the second at the second.
abbrev pub ReadsOn : {C : Type 0} → View C → Bool → Request → List ℕ → ℕ → C → ℕ → Stand → C → ℕ → Stand → Type 0
ReadsOn {C} v backwards q piece start old from begin new to stand = (o : Outset C) → IsAhead backwards o.seen q.end start piece →
    IsAt v backwards o q old (start + from) begin → IsAt v backwards o q new (start + to) stand

-- Wherever the piece stands, a run that stood so by the first cache at the place ended so, by the
-- second.
abbrev pub EndsOn : {C : Type 0} → View C → Bool → Request → List ℕ → ℕ → C → ℕ → Stand → C → Reading → Type 0
EndsOn {C} v backwards q piece start old from begin new reading = (o : Outset C) → IsAhead backwards o.seen q.end start piece →
    IsAt v backwards o q old (start + from) begin → HasRun v backwards o q new reading.read reading.ended

-- The result of a run that found this last.
pub record Says {C : Type 0} (v : View C) (backwards : Bool) (IsLast : Machine → Option (ℕ × ℕ) → Type 0) (e : Ended) : Type 0 where
  pub done : gave_up e ≡ None
  pub says : (m : Machine) → v.IsOf m → (found : Option (ℕ × ℕ)) → IsLast m found → (t : Text) (c : Course) (first : State) (may_rest : Bool) (r : ℕ) →
      EndsFrom backwards m t c first r (met_last found) → HasEndedFrom backwards m t c first may_rest r e
