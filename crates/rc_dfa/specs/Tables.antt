-- Cells of tables: what a run reads by them, whatever its alphabet.
use Rattle.std.specs.Prelude.{ℕ, ◌+◌, ◌<◌}
use Rattle.rc_text.specs.declared.types.Anchored.{Anchored}
use Rattle.rc_program.specs.Looks.{Side}
use Rattle.rc_program.specs.Text.{Text, before_at, after_at}
use Rattle.rc_symbols.specs.Symbols.{Symbol, IsSymbolAt}
use Rattle.rc_determinize.specs.Sides.{byte_of}
use Rattle.rc_determinize.specs.States.{State, IsInside}
use Rattle.rc_dfa.specs.Columns.{sides_tagged, told_tagged}
use Rattle.rc_dfa.specs.Machine.{Alphabet, symbols, Machine, Leads, LeadsOver, Begins, BeginsBeside}
use Rattle.rc_dfa.specs.Runs.{ahead_at, behind_at, MayRead, MayReadSide, LeadsAcross, LeadsBy, BeginsBy}

-- The law of what tables know of bytes and symbols.
pub record TableLaw : Type 0 where
  -- A byte that may be read if it is known alone leads alike whatever is read.
  pub may : (a : Alphabet) (m : Machine) (side : Side) → MayRead m (byte_of side) → MayReadSide a m side
  pub ahead : (a : Alphabet) (m : Machine) (t : Text) (hi i : ℕ) (s next : State) → i < hi → IsInside t i hi → MayRead m (ahead_at t i) →
      Leads m s (ahead_at t i) next → LeadsAcross a m (after_at t i) (before_at t (i + 1)) s next
  pub behind : (a : Alphabet) (m : Machine) (t : Text) (hi i : ℕ) (s next : State) → i < hi → IsInside t i hi → MayRead m (behind_at t (i + 1)) →
      Leads m s (behind_at t (i + 1)) next → LeadsAcross a m (before_at t (i + 1)) (after_at t i) s next
  pub bound_ahead : (a : Alphabet) (m : Machine) (t : Text) (i : ℕ) (s next : State) → MayRead m (ahead_at t i) → Leads m s (ahead_at t i) next →
      LeadsBy a m (after_at t i) s next
  pub bound_behind : (a : Alphabet) (m : Machine) (t : Text) (i : ℕ) (s next : State) → MayRead m (behind_at t i) → Leads m s (behind_at t i) next →
      LeadsBy a m (before_at t i) s next
  pub begins : (a : Alphabet) (m : Machine) (anchored : Anchored) (t : Text) (i : ℕ) (s : State) → MayRead m (behind_at t i) →
      Begins m anchored (behind_at t i) s → BeginsBy a m anchored (before_at t i) s
  pub begins_back : (a : Alphabet) (m : Machine) (anchored : Anchored) (t : Text) (i : ℕ) (s : State) → MayRead m (ahead_at t i) →
      Begins m anchored (ahead_at t i) s → BeginsBy a m anchored (after_at t i) s
  -- Where symbols are read, each byte of the slice leads as it does with its tags.
  pub symbol_ahead : (m : Machine) (t : Text) (i : ℕ) (y : Symbol) (s next : State) → IsSymbolAt t i y →
      LeadsOver m s (sides_tagged m.setting.needs m.setting.terminator y.byte y.opens y.shuts) next →
      LeadsAcross symbols m (after_at t i) (before_at t (i + 1)) s next
  pub symbol_behind : (m : Machine) (t : Text) (i : ℕ) (y : Symbol) (s next : State) → IsSymbolAt t i y →
      LeadsOver m s (sides_tagged m.setting.needs m.setting.terminator y.byte y.shuts y.opens) next →
      LeadsAcross symbols m (before_at t (i + 1)) (after_at t i) s next
  pub begins_after : (m : Machine) (anchored : Anchored) (t : Text) (i : ℕ) (y : Symbol) (s : State) → IsSymbolAt t i y →
      BeginsBeside m anchored (told_tagged m.setting.needs m.setting.terminator y.byte y.shuts) s → BeginsBy symbols m anchored (before_at t (i + 1)) s
  pub begins_before : (m : Machine) (anchored : Anchored) (t : Text) (i : ℕ) (y : Symbol) (s : State) → IsSymbolAt t i y →
      BeginsBeside m anchored (told_tagged m.setting.needs m.setting.terminator y.byte y.opens) s → BeginsBy symbols m anchored (after_at t i) s
