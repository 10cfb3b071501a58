use Rattle.rc_utf8.specs.Places.{places_of}
use Rattle.rc_determinize.proofs.ClassLemmas.{AreClassesSoFar}
use Rattle.rc_determinize.proofs.classes.classes.Given as goal

abbrev pub invariant-loop-byte : goal.invariant-loop-byte
invariant-loop-byte l = AreClassesSoFar (places_of l.places) l.needs l.terminator l.classes.items l.class l.byte
