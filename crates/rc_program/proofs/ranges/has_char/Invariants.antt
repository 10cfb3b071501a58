use Rattle.std.proofs.Common.{◌≡◌, drop, map}
use Rattle.rc_pattern.specs.Meaning.{char_range}
use Rattle.rc_program.specs.Program.{in_ranges}
use Rattle.rc_program.proofs.ranges.has_char.Given as goal

abbrev pub invariant-loop-range : goal.invariant-loop-range
invariant-loop-range l =
    in_ranges (map char_range (drop l.range-index l.ranges)) l.character ≡ in_ranges (map char_range l.ranges) l.character
