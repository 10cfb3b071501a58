use Rattle.std.proofs.Common.{◌≡◌, map, drop}
use Rattle.rc_pattern.specs.Meaning.{char_range}
use Rattle.rc_pattern.specs.Properties.{least, least_encoded}
use Rattle.rc_pattern.proofs.hir.lengths.minimum_of_chars.Given as goal

abbrev pub invariant-loop-range : goal.invariant-loop-range
invariant-loop-range l =
    least l.shortest (least_encoded (map char_range (drop l.range-index l.ranges))) ≡ least_encoded (map char_range l.ranges)
