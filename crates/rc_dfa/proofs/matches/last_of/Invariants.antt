use Rattle.std.proofs.Common.{Some}
use Rattle.rc_utf8.specs.Places.{places_of}
use Rattle.rc_determinize.proofs.LastLemmas.{AreMatches}
use Rattle.rc_dfa.proofs.matches.last_of.Given as goal

abbrev pub invariant-loop-i : goal.invariant-loop-i
invariant-loop-i l = AreMatches (Some l.pattern) (places_of l.places) l.to.list.items l.i
