-- Required literals: what they and the bytes that no match contains are good for.
use Rattle.std.specs.Prelude.{ℕ, Bool, List, All}
use Rattle.rc_pattern.specs.Re.{Re}
use Rattle.rc_pattern.specs.WellFormed.{HasBounds}
use Rattle.rc_program.specs.Text.{Text}
use Rattle.rc_program.specs.Program.{program, shown}
use Rattle.rc_literals.specs.Needs.{Holds, LeavesOut, Confines}

pub record NeedLaw : Type 0 where
  -- They confine the walks of the patterns' program, with their groups or without.
  pub confines : (hs : List Re) (grouped : Bool) (terminator : ℕ) (needles : List (List ℕ)) (stops : List Bool) → All HasBounds (shown grouped hs) →
      ((t : Text) → Holds t hs needles) → ((t : Text) → LeavesOut t hs stops) → Confines (program (shown grouped hs)) terminator needles stops
