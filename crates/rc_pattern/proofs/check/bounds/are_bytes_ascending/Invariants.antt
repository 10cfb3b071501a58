use Rattle.std.proofs.Common.{◌↔◌, map, drop}
use Rattle.rc_pattern.specs.Meaning.{byte_range}
use Rattle.rc_pattern.specs.WellFormed.{AreAscending}
use Rattle.rc_pattern.proofs.check.bounds.are_bytes_ascending.Given as goal

abbrev pub invariant-loop-range : goal.invariant-loop-range
invariant-loop-range l = AreAscending l.from (map byte_range (drop l.range-index l.ranges)) ↔ AreAscending 0 (map byte_range l.ranges)
