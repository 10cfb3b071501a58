use Rattle.std.proofs.Common.{map, take}
use Rattle.std.specs.List.{list_any}
use Rattle.rc_pattern.specs.Meaning.{byte_range}
use Rattle.rc_program.specs.Closing.{AreJoined}
use Rattle.rc_determinize.specs.Classes.{parts}
use Rattle.rc_determinize.proofs.classes.flag_ranges.Given as goal

abbrev pub invariant-loop-range : goal.invariant-loop-range
invariant-loop-range l = AreJoined 255 (λ b. list_any (parts b) (map byte_range (take l.range-index l.ranges.items))) l.fn.borders l.borders
