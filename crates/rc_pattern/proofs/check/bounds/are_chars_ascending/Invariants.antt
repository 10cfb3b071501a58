use Rattle.std.proofs.Common.{◌↔◌, map, drop}
use Rattle.rc_pattern.specs.Meaning.{char_range}
use Rattle.rc_pattern.specs.WellFormed.{AreAscending}
use Rattle.rc_pattern.proofs.check.bounds.are_chars_ascending.Given as goal

abbrev pub invariant-loop-range : goal.invariant-loop-range
invariant-loop-range l = AreAscending l.from (map char_range (drop l.range-index l.ranges)) ↔ AreAscending 0 (map char_range l.ranges)
