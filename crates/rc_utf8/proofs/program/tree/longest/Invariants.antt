use Rattle.std.proofs.Common.{◌≡◌, max, drop}
use Rattle.rc_utf8.specs.Bytes.{}
use Rattle.rc_utf8.specs.Places.{longest, sequences_of}
use Rattle.rc_utf8.proofs.program.tree.longest.Given as goal

abbrev pub invariant-loop-sequence : goal.invariant-loop-sequence
invariant-loop-sequence l = max l.longest (longest (sequences_of (drop l.sequence-index l.sequences))) ≡ longest (sequences_of l.sequences)
