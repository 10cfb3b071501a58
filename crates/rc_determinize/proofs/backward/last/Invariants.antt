use Rattle.std.proofs.Common.{None}
use Rattle.rc_utf8.specs.Places.{places_of}
use Rattle.rc_determinize.proofs.LastLemmas.{AreMatches}
use Rattle.rc_determinize.proofs.backward.last.Given as goal

abbrev pub invariant-loop-i : goal.invariant-loop-i
invariant-loop-i l = AreMatches None (places_of l.places) l.to.list.items l.i
