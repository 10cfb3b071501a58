-- How far a DFA search forwards looked at a text, whatever holds its states.
use Rattle.std.specs.Prelude.{◌≡◌, ℕ, ◌+◌, ◌≤◌, Bool, true, Option, Some, None, IsTrue, slice_get}
use Rattle.rc_text.specs.declared.types.Anchored.{Anchored}
use Rattle.rc_program.specs.Text.{Text, before_at, after_at}
use Rattle.rc_program.specs.Program.{place_at}
use Rattle.rc_program.specs.Answer.{pattern_at}
use Rattle.rc_determinize.specs.States.{State, best_at}
use Rattle.rc_dfa.specs.Machine.{Alphabet, Machine, is_dead, is_idle}
use Rattle.rc_dfa.specs.Runs.{MayReadSide, BeginsBy, LeadsBy, RunsOver, RunEnd, met_last, stopped_at, idle_at}
use Rattle.rc_dfa.specs.declared.ended.Ended.{Ended}
use Rattle.rc_dfa.specs.declared.ended.Ended.TheVariants.{Found, Idle, Quit, GaveUp}

-- The run ended so, and looked at what is read before r alone.
pub data EndsBelowOver (a : Alphabet) (m : Machine) (t : Text) (hi from : ℕ) (first : State) (earliest : Bool) : RunEnd → ℕ → Type 0 where
  -- At the upper bound it looked at the byte there.
  at_bound : {met : Option (ℕ × ℕ)} (s next : State) → RunsOver a m t hi from first hi s met → MayReadSide a m (after_at t hi) →
      LeadsBy a m (after_at t hi) s next →
      EndsBelowOver a m t hi from first earliest (met_last (best_at hi next.matched met)) (hi + 1)
  -- Where nothing goes on it looked at the bytes before.
  dead : {met : Option (ℕ × ℕ)} (i : ℕ) (s : State) → RunsOver a m t hi from first i s met → is_dead s ≡ true →
      EndsBelowOver a m t hi from first earliest (met_last met) i
  early : {met : ℕ × ℕ} (i : ℕ) (s : State) → earliest ≡ true → RunsOver a m t hi from first i s (Some met) →
      EndsBelowOver a m t hi from first earliest (met_last (Some met)) i
  -- It looked at the byte that it may not read.
  quit : {met : Option (ℕ × ℕ)} (i : ℕ) (s : State) → RunsOver a m t hi from first i s met → i ≤ hi → ¬ MayReadSide a m (after_at t i) →
      EndsBelowOver a m t hi from first earliest (stopped_at i) (i + 1)
  rests : (i : ℕ) (s : State) → RunsOver a m t hi from first i s None → i ≤ hi → is_idle s ≡ true →
      EndsBelowOver a m t hi from first earliest (idle_at i) i

abbrev pub EndsBelow : Machine → Text → ℕ → ℕ → State → Bool → RunEnd → ℕ → Type 0
EndsBelow m = EndsBelowOver m.alphabet m

-- A whole search forwards. It also looks at the byte before its start.
pub data SearchEndsBelowOver (a : Alphabet) (m : Machine) (t : Text) (hi from : ℕ) (anchored : Anchored) (earliest : Bool) : RunEnd → ℕ → Type 0 where
  ran : {e : RunEnd} {r : ℕ} (first : State) → MayReadSide a m (before_at t from) → BeginsBy a m anchored (before_at t from) first →
      EndsBelowOver a m t hi from first earliest e r → SearchEndsBelowOver a m t hi from anchored earliest e r
  unread : (p : ℕ) → p + 1 ≡ from → ¬ MayReadSide a m (before_at t from) → SearchEndsBelowOver a m t hi from anchored earliest (stopped_at p) from

abbrev pub SearchEndsBelow : Machine → Text → ℕ → ℕ → Anchored → Bool → RunEnd → ℕ → Type 0
SearchEndsBelow m = SearchEndsBelowOver m.alphabet m

-- A search forwards may end so, and looked at what is read before r alone. How far it looked before
-- it gave up isn't told.
abbrev pub HasEndedBelow : Machine → Text → ℕ → ℕ → Anchored → Bool → Bool → Ended → ℕ → Type 0
HasEndedBelow m t hi from anchored earliest may_rest (Found None) r = SearchEndsBelow m t hi from anchored earliest (met_last None) r
HasEndedBelow m t hi from anchored earliest may_rest (Found (Some h)) r =
    (q : ℕ) × (pattern_at (place_at m.setting.places q) ≡ h.pattern) × SearchEndsBelow m t hi from anchored earliest (met_last (Some (q, h.at))) r
HasEndedBelow m t hi from anchored earliest may_rest (Idle i) r = IsTrue may_rest × SearchEndsBelow m t hi from anchored earliest (idle_at i) r
HasEndedBelow m t hi from anchored earliest may_rest (Quit b p) r =
    (slice_get t.content p ≡ Some b) × SearchEndsBelow m t hi from anchored earliest (stopped_at p) r
HasEndedBelow m t hi from anchored earliest may_rest (GaveUp p memory) r = (from ≤ p) × (p ≤ hi)
