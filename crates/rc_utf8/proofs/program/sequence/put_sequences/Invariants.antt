use Rattle.std.proofs.Common.{◌≡◌, ◌++◌, drop, map}
use Rattle.rc_pattern.specs.Meaning.{char_range}
use Rattle.rc_utf8.specs.Bytes.{all_pieces, sequences}
use Rattle.rc_utf8.specs.Places.{sequences_of}
use Rattle.rc_utf8.proofs.program.sequence.put_sequences.Given as goal

abbrev pub invariant-loop-i : goal.invariant-loop-i
invariant-loop-i l =
    sequences_of l.list.items ++ sequences (all_pieces (map char_range (drop l.i l.ranges))) ≡ sequences (all_pieces (map char_range l.ranges))
