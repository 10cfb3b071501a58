-- Conversions: what states in code are, and the setting of a program.
use Rattle.std.specs.Prelude.{List, ℕ}
use Rattle.rc_utf8.specs.Places.{places_of}
use Rattle.rc_utf8.specs.declared.place.BytePlace as code
use Rattle.rc_determinize.specs.declared.sides.Asked.{Asked}
use Rattle.rc_determinize.specs.declared.state.State as code_state
use Rattle.rc_determinize.specs.States.{Setting, State}

-- The setting of a program in code.
abbrev pub setting_of : List code.BytePlace → Asked → ℕ → Setting
setting_of places needs terminator = record { places = places_of places; needs = needs; terminator = terminator }

-- The state that a state in code is.
abbrev pub state_of : code_state.State → State
state_of s = record { list = s.list.items; beside = s.beside; goes_on = s.goes_on; matched = s.matched }
