use Rattle.rc_dfa.proofs.PastLemmas.{AreColumnsSoFar}
use Rattle.rc_dfa.proofs.past.columns_of.Given as goal

abbrev pub invariant-loop-byte : goal.invariant-loop-byte
invariant-loop-byte l = AreColumnsSoFar l.classes.items l.columns.items l.byte
