use Rattle.std.proofs.Common.{map, take}
use Rattle.rc_pattern.specs.Meaning.{char_range}
use Rattle.rc_program.specs.Closing.{AreJoined}
use Rattle.rc_program.specs.Heads.{leads}
use Rattle.rc_program.specs.Program.{in_ranges}
use Rattle.rc_program.proofs.heads.fill_scalars.Given as goal

abbrev pub invariant-loop-range : goal.invariant-loop-range
invariant-loop-range l = AreJoined 256 (in_ranges (map leads (map char_range (take l.range-index l.ranges)))) l.fn.flags l.flags
