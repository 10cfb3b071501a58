-- Only proofs use this file.
-- Required literals: those of each match, if searches go by them.
use Rattle.std.specs.Prelude.{◌≡◌, ℕ, List, Option, Some}
use Rattle.rc_program.specs.Program.{Place}
use Rattle.rc_needles.specs.Prefilters.{needles_of}
use Rattle.rc_literals.specs.Needs.{Confines}
use Rattle.rc_literals.specs.declared.guard.Needs.{Needs}

-- If there are any, they confine the walks of the places.
abbrev pub NeedsConfine : Option Needs → List Place → ℕ → Type 0
NeedsConfine needs places terminator = (n : Needs) → needs ≡ Some n → Confines places terminator (needles_of n.needles) n.stops.table
