use Rattle.std.proofs.Common.{◌≡◌, max, map, drop}
use Rattle.rc_pattern.specs.Meaning.{char_range}
use Rattle.rc_pattern.proofs.LengthLemmas.{longest}
use Rattle.rc_pattern.proofs.hir.lengths.maximum_of_chars.Given as goal

abbrev pub invariant-loop-range : goal.invariant-loop-range
invariant-loop-range l = max l.longest (longest (map char_range (drop l.range-index l.ranges))) ≡ longest (map char_range l.ranges)
