use Rattle.std.proofs.Common.{take}
use Rattle.rc_pattern.specs.Meaning.{byte_range}
use Rattle.rc_utf8.specs.Places.{AllBegin, all_left_at, sequences_of}
use Rattle.rc_utf8.proofs.program.tree.group_len.Given as goal

abbrev pub invariant-loop-i : goal.invariant-loop-i
invariant-loop-i l = AllBegin (byte_range l.range) (take l.i (all_left_at l.level (sequences_of l.sequences)))
