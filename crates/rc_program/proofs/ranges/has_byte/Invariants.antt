use Rattle.std.proofs.Common.{◌≡◌, drop, map}
use Rattle.rc_pattern.specs.Meaning.{byte_range}
use Rattle.rc_program.specs.Program.{in_ranges}
use Rattle.rc_program.proofs.ranges.has_byte.Given as goal

abbrev pub invariant-loop-range : goal.invariant-loop-range
invariant-loop-range l =
    in_ranges (map byte_range (drop l.range-index l.ranges)) l.byte ≡ in_ranges (map byte_range l.ranges) l.byte
