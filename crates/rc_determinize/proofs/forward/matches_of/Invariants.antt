use Rattle.rc_utf8.specs.Places.{places_of}
use Rattle.rc_determinize.proofs.MatchLemmas.{AreMatched}
use Rattle.rc_determinize.proofs.forward.matches_of.Given as goal

abbrev pub invariant-loop-index : goal.invariant-loop-index
invariant-loop-index l = AreMatched (places_of l.places) l.entered.items l.ends.items l.index
