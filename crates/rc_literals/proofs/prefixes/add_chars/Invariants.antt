use Rattle.std.proofs.Common.{◌≡◌, ◌+◌, Some}
use Rattle.rc_pattern.specs.Meaning.{char_range}
use Rattle.rc_literals.specs.Extraction.{filled, greatest_whole, grown, range_chars}
use Rattle.rc_needles.specs.Tables.{needles_in}
use Rattle.rc_literals.proofs.ExtractionLemmas.{scalars_left}
use Rattle.rc_literals.proofs.prefixes.add_chars.Given as goal

abbrev pub invariant-loop-code : goal.invariant-loop-code
invariant-loop-code l =
    grown greatest_whole (needles_in l.initial.list.items) (Some (range_chars (char_range l.fn.range)))
    ≡ filled greatest_whole (needles_in l.list.items) (scalars_left l.code (l.fn.range.end + 1))
