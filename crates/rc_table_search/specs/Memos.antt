-- Only proofs use this file.
-- Memos over a table: what their marks say.
use Rattle.std.specs.Prelude.{◌≡◌, ℕ, ◌<◌, ◌≤◌, Bool, false, Option, Some, None}
use Rattle.rc_text.specs.Text.{Searched}
use Rattle.rc_program.specs.Text.{Text}
use Rattle.rc_program.specs.Program.{place_at}
use Rattle.rc_program.specs.Answer.{pattern_at}
use Rattle.rc_program.specs.Sought.{text_of}
use Rattle.rc_determinize.specs.States.{State}
use Rattle.rc_dfa.specs.Machine.{Machine}
use Rattle.rc_dfa.specs.Ended.{gave_up}
use Rattle.rc_dfa.specs.Runs.{Runs, met_last}
use Rattle.rc_dfa.specs.Reads.{EndsBelow}
use Rattle.rc_dfa.specs.Memos.{Has}
use Rattle.rc_dfa.specs.declared.ended.Met.{Met}
use Rattle.rc_dfa.specs.declared.ended.Reading.{Reading}
use Rattle.rc_dfa.specs.declared.memo.Mark.{Mark}
use Rattle.rc_dfa.specs.declared.memo.Memo.{Memo}
use Rattle.rc_table_search.specs.Views.{View, IsNoted}
use Rattle.rc_table_search.specs.Ways.{Course, HasEndedFrom}

-- From the state at the position `from` on, this is found last, and the run looks at the bytes before
-- r alone.
abbrev pub FindsBelow : Machine → Text → ℕ → ℕ → State → Bool → Option Met → ℕ → Type 0
FindsBelow m t hi from first early None r = EndsBelow m t hi from first early (met_last None) r
FindsBelow m t hi from first early (Some h) r =
    (q : ℕ) × (pattern_at (place_at m.setting.places q) ≡ h.pattern) × EndsBelow m t hi from first early (met_last (Some (q, h.at))) r

-- So it is from the mark's position on, whatever state its row has.
pub record IsMark {C : Type 0} (v : View C) (c : C) (seen : Searched) (bound : ℕ) (early : Bool) (k : Mark) : Type 0 where
  pub is_row : v.IsRow c k.row
  pub ends : (m : Machine) → v.IsOf m → (s : State) → v.HasState c m k.row s →
      FindsBelow m (text_of m.setting.terminator seen) bound k.at s early k.found k.read

-- What the memo says is true, unless its era is over.
pub record IsMemo {C : Type 0} (v : View C) (c : C) (seen : Searched) (bound : ℕ) (early : Bool) (t : Memo) : Type 0 where
  pub past : t.era ≤ v.era c
  pub marks : v.era c ≡ t.era → t.era < 18446744073709551615 → (k : Mark) → Has t k → IsMark v c seen bound early k

-- A run that went on from one course to another ends as that one does: with what was found last
-- there, or else before.
pub record Joins {C : Type 0} (v : View C) (noted : Option (ℕ × ℕ)) (rest whole : Reading) : Type 0 where
  pub refused : gave_up whole.ended ≡ gave_up rest.ended
  pub says : (m : Machine) → v.IsOf m → (found : Option (ℕ × ℕ)) → IsNoted v m noted found → (t : Text) (c d : Course) (first s : State) → d.bound ≡ c.bound →
      d.earliest ≡ c.earliest → c.from ≤ d.from → Runs m t c.bound c.from first d.from s found → HasEndedFrom false m t d s false rest.read rest.ended →
      HasEndedFrom false m t c first false whole.read whole.ended
