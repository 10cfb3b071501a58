use Rattle.rc_determinize.proofs.ClassLemmas.{AreOwnSoFar}
use Rattle.rc_determinize.proofs.classes.single_classes.Given as goal

abbrev pub invariant-loop-byte : goal.invariant-loop-byte
invariant-loop-byte l = AreOwnSoFar l.classes.items l.byte
