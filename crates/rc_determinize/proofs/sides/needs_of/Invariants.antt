use Rattle.rc_utf8.specs.Places.{places_of}
use Rattle.rc_determinize.proofs.NeedsLemmas.{AreNeedsSoFar}
use Rattle.rc_determinize.proofs.sides.needs_of.Given as goal

abbrev pub invariant-loop-place : goal.invariant-loop-place
invariant-loop-place l = AreNeedsSoFar l.needs (places_of l.places) l.place-index
