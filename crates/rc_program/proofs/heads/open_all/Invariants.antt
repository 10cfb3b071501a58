use Rattle.rc_program.specs.Closing.{AreOpened}
use Rattle.rc_program.specs.Heads.{flags_in}
use Rattle.rc_program.specs.Places.{places_of}
use Rattle.rc_program.proofs.heads.open_all.Given as goal

abbrev pub invariant-loop-next : goal.invariant-loop-next
invariant-loop-next l = AreOpened (places_of l.places) (flags_in l.tables) l.place l.next l.opened.items
