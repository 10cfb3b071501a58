use Rattle.rc_dfa.proofs.SampleLemmas.{AreSamplesSoFar}
use Rattle.rc_dfa.proofs.samples.samples_of.Given as goal

abbrev pub invariant-loop-byte : goal.invariant-loop-byte
invariant-loop-byte l = AreSamplesSoFar l.classes.items l.samples.items l.byte
