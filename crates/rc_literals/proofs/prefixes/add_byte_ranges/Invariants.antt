use Rattle.std.proofs.Common.{Some}
use Rattle.rc_pattern.specs.Meaning.{byte_range}
use Rattle.rc_literals.specs.Extraction.{greatest_whole, range_bytes}
use Rattle.rc_needles.specs.Tables.{needles_in}
use Rattle.rc_literals.proofs.ExtractionLemmas.{IsLeft}
use Rattle.rc_literals.proofs.prefixes.add_byte_ranges.Given as goal

abbrev pub invariant-loop-range : goal.invariant-loop-range
invariant-loop-range l =
    IsLeft greatest_whole (λ r. Some (range_bytes (byte_range r))) (needles_in l.initial.list.items) (needles_in l.list.items) l.ranges l.range-index
