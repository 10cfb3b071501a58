use Rattle.std.proofs.Common.{take}
use Rattle.rc_program.specs.Closing.{AreFlags}
use Rattle.rc_program.specs.Heads.{flags_in}
use Rattle.rc_program.specs.Places.{places_of}
use Rattle.rc_program.proofs.heads.joined.Given as goal

abbrev pub invariant-loop-number : goal.invariant-loop-number
invariant-loop-number l = AreFlags (places_of l.places) (flags_in l.tables) (take l.number-index l.opened) l.flags.items
