use Rattle.rc_program.specs.Heads.{AreHeads, flags_in}
use Rattle.rc_program.specs.Places.{places_of}
use Rattle.rc_program.proofs.heads.heads_of.Given as goal

abbrev pub invariant-loop-place : goal.invariant-loop-place
invariant-loop-place l = AreHeads (places_of l.places) (flags_in l.tables.items)
