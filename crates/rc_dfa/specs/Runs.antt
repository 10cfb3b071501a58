-- Runs: from state to state over the bytes of a text. Both DFAs run like this.
use Rattle.std.specs.Prelude.{◌≡◌, ℕ, ◌+◌, ◌<◌, ◌≤◌, Bool, true, Option, Some, None}
use Rattle.rc_text.specs.declared.types.Anchored.{Anchored}
use Rattle.rc_program.specs.Text.{Text, before_at, after_at}
use Rattle.rc_program.specs.Looks.{Side}
use Rattle.rc_determinize.specs.declared.sides.Seen.{Seen}
use Rattle.rc_determinize.specs.Sides.{byte_of, told_side, sides_near, IsReadable}
use Rattle.rc_determinize.specs.States.{State, best_at}
use Rattle.rc_determinize.specs.Backward.{least_at}
use Rattle.rc_dfa.specs.Machine.{Alphabet, bytes, symbols, Machine, Leads, LeadsOver, Begins, BeginsBeside, is_dead, is_idle}

-- The byte at the position, or before it, within what the search sees; none at its ends.
abbrev pub ahead_at : Text → ℕ → Option ℕ
ahead_at t i = byte_of (after_at t i)

abbrev pub behind_at : Text → ℕ → Option ℕ
behind_at t i = byte_of (before_at t i)

-- The byte beside a position, if there is one, is less than 256.
abbrev pub IsByte : Option ℕ → Type 0
IsByte None = Unit {0}
IsByte (Some b) = b < 256

-- It may be read if it is known alone.
abbrev pub MayRead : Machine → Option ℕ → Type 0
MayRead m = IsReadable m.setting.needs

-- What stands there may be read.
abbrev pub MayReadSide : Alphabet → Machine → Side → Type 0
MayReadSide bytes m side = MayRead m (byte_of side)
MayReadSide symbols m side = Unit {0}

-- The state to which the byte leads that stands on one side, and on the other side of the new
-- state's position.
abbrev pub LeadsAcross : Alphabet → Machine → Side → Side → State → State → Type 0
LeadsAcross bytes m near far s next = Leads m s (byte_of near) next
LeadsAcross symbols m near far s next =
    LeadsOver m s (sides_near m.setting.needs m.setting.terminator near (told_side m.setting.needs m.setting.terminator far)) next

-- The same at a bound, where the byte is looked at and not read.
abbrev pub LeadsBy : Alphabet → Machine → Side → State → State → Type 0
LeadsBy bytes m side s next = Leads m s (byte_of side) next
LeadsBy symbols m side s next = (far : Seen) × LeadsOver m s (sides_near m.setting.needs m.setting.terminator side far) next

-- The state in which a search begins, by what stands beside it.
abbrev pub BeginsBy : Alphabet → Machine → Anchored → Side → State → Type 0
BeginsBy bytes m anchored side = Begins m anchored (byte_of side)
BeginsBy symbols m anchored side = BeginsBeside m anchored (told_side m.setting.needs m.setting.terminator side)

-- `RunsOver a m t hi from first i s met`: from the state `first` at the position `from`, what is read
-- up to the position i leads to the state s. `met` is what was found last on the way, with its
-- position.
pub data RunsOver (a : Alphabet) (m : Machine) (t : Text) (hi from : ℕ) (first : State) : ℕ → State → Option (ℕ × ℕ) → Type 0 where
  begun : RunsOver a m t hi from first from first None
  goes_on : {met : Option (ℕ × ℕ)} (i : ℕ) (s next : State) → RunsOver a m t hi from first i s met → i < hi → MayReadSide a m (after_at t i) →
      LeadsAcross a m (after_at t i) (before_at t (i + 1)) s next → RunsOver a m t hi from first (i + 1) next (best_at i next.matched met)

abbrev pub Runs : Machine → Text → ℕ → ℕ → State → ℕ → State → Option (ℕ × ℕ) → Type 0
Runs m = RunsOver m.alphabet m

-- How a search forwards ended. It may be with the last find, if there is one, and its position. It
-- may be at the offset of a byte that may not be read. Or it is at a position before which nothing
-- was found, and at which nothing is under way but walks that begin there or later.
pub data RunEnd : Type 0 where
  met_last : Option (ℕ × ℕ) → RunEnd
  stopped_at : ℕ → RunEnd
  idle_at : ℕ → RunEnd

pub data EndsOver (a : Alphabet) (m : Machine) (t : Text) (hi from : ℕ) (first : State) (earliest : Bool) : RunEnd → Type 0 where
  -- At the upper bound, where the byte beyond decides what is found.
  at_bound : {met : Option (ℕ × ℕ)} (s next : State) → RunsOver a m t hi from first hi s met → MayReadSide a m (after_at t hi) →
      LeadsBy a m (after_at t hi) s next → EndsOver a m t hi from first earliest (met_last (best_at hi next.matched met))
  -- Where nothing goes on.
  dead : {met : Option (ℕ × ℕ)} (i : ℕ) (s : State) → RunsOver a m t hi from first i s met → is_dead s ≡ true →
      EndsOver a m t hi from first earliest (met_last met)
  -- At the first match, if that is enough.
  early : {met : ℕ × ℕ} (i : ℕ) (s : State) → earliest ≡ true → RunsOver a m t hi from first i s (Some met) →
      EndsOver a m t hi from first earliest (met_last (Some met))
  quit : {met : Option (ℕ × ℕ)} (i : ℕ) (s : State) → RunsOver a m t hi from first i s met → i ≤ hi → ¬ MayReadSide a m (after_at t i) →
      EndsOver a m t hi from first earliest (stopped_at i)
  -- Where the search may begin anew.
  rests : (i : ℕ) (s : State) → RunsOver a m t hi from first i s None → i ≤ hi → is_idle s ≡ true → EndsOver a m t hi from first earliest (idle_at i)

abbrev pub EndsSo : Machine → Text → ℕ → ℕ → State → Bool → RunEnd → Type 0
EndsSo m = EndsOver m.alphabet m

-- A whole search forwards. It begins at `from`, by what stands before, if that may be read.
pub data SearchEndsOver (a : Alphabet) (m : Machine) (t : Text) (hi from : ℕ) (anchored : Anchored) (earliest : Bool) : RunEnd → Type 0 where
  ran : {e : RunEnd} (first : State) → MayReadSide a m (before_at t from) → BeginsBy a m anchored (before_at t from) first →
      EndsOver a m t hi from first earliest e → SearchEndsOver a m t hi from anchored earliest e
  unread : (p : ℕ) → p + 1 ≡ from → ¬ MayReadSide a m (before_at t from) → SearchEndsOver a m t hi from anchored earliest (stopped_at p)

abbrev pub SearchEnds : Machine → Text → ℕ → ℕ → Anchored → Bool → RunEnd → Type 0
SearchEnds m = SearchEndsOver m.alphabet m

-- `RunsDownOver a m t lo end first i s least`: from the state `first` at the position `end`, what is
-- read down to the position i leads to the state s. `least` is the least position above i at which
-- some entry was reached, with the number of the first that was.
pub data RunsDownOver (a : Alphabet) (m : Machine) (t : Text) (lo end : ℕ) (first : State) : ℕ → State → Option (ℕ × ℕ) → Type 0 where
  begun : RunsDownOver a m t lo end first end first None
  goes_down : {least : Option (ℕ × ℕ)} (i : ℕ) (s next : State) → RunsDownOver a m t lo end first (i + 1) s least → lo ≤ i →
      MayReadSide a m (before_at t (i + 1)) → LeadsAcross a m (before_at t (i + 1)) (after_at t i) s next →
      RunsDownOver a m t lo end first i next (least_at (i + 1) next.matched least)

abbrev pub RunsDown : Machine → Text → ℕ → ℕ → State → ℕ → State → Option (ℕ × ℕ) → Type 0
RunsDown m = RunsDownOver m.alphabet m

-- How a search backwards ended: in one of the same ways, and the position is the least one.
pub data EndsDownOver (a : Alphabet) (m : Machine) (t : Text) (lo end : ℕ) (first : State) (earliest : Bool) : RunEnd → Type 0 where
  -- At the lower bound, where the byte before decides what is found.
  at_bound : {least : Option (ℕ × ℕ)} (s next : State) → RunsDownOver a m t lo end first lo s least → MayReadSide a m (before_at t lo) →
      LeadsBy a m (before_at t lo) s next → EndsDownOver a m t lo end first earliest (met_last (least_at lo next.matched least))
  dead : {least : Option (ℕ × ℕ)} (i : ℕ) (s : State) → RunsDownOver a m t lo end first i s least → is_dead s ≡ true →
      EndsDownOver a m t lo end first earliest (met_last least)
  early : {least : ℕ × ℕ} (i : ℕ) (s : State) → earliest ≡ true → RunsDownOver a m t lo end first i s (Some least) →
      EndsDownOver a m t lo end first earliest (met_last (Some least))
  quit : {least : Option (ℕ × ℕ)} (p : ℕ) (s : State) → RunsDownOver a m t lo end first (p + 1) s least → lo ≤ p + 1 →
      ¬ MayReadSide a m (before_at t (p + 1)) → EndsDownOver a m t lo end first earliest (stopped_at p)

abbrev pub EndsDown : Machine → Text → ℕ → ℕ → State → Bool → RunEnd → Type 0
EndsDown m = EndsDownOver m.alphabet m

-- A whole search backwards. It begins at `end`, by what stands there, if that may be read.
pub data SearchEndsDownOver (a : Alphabet) (m : Machine) (t : Text) (lo end : ℕ) (anchored : Anchored) (earliest : Bool) : RunEnd → Type 0 where
  ran : {e : RunEnd} (first : State) → MayReadSide a m (after_at t end) → BeginsBy a m anchored (after_at t end) first →
      EndsDownOver a m t lo end first earliest e → SearchEndsDownOver a m t lo end anchored earliest e
  unread : ¬ MayReadSide a m (after_at t end) → SearchEndsDownOver a m t lo end anchored earliest (stopped_at end)

abbrev pub SearchEndsDown : Machine → Text → ℕ → ℕ → Anchored → Bool → RunEnd → Type 0
SearchEndsDown m = SearchEndsDownOver m.alphabet m
