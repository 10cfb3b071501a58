use Rattle.std.proofs.Common.{◌≡◌, ◌+◌, ◌-◌, ◌∷◌, [], map, Some}
use Rattle.std.specs.List.{range_with_len}
use Rattle.rc_pattern.specs.Meaning.{byte_range}
use Rattle.rc_literals.specs.Extraction.{filled, greatest_whole, grown, range_bytes}
use Rattle.rc_needles.specs.Tables.{needles_in}
use Rattle.rc_literals.proofs.prefixes.add_bytes.Given as goal

abbrev pub invariant-loop-byte : goal.invariant-loop-byte
invariant-loop-byte l =
    grown greatest_whole (needles_in l.initial.list.items) (Some (range_bytes (byte_range l.fn.range)))
    ≡ filled greatest_whole (needles_in l.list.items) (map (λ b. b ∷ []) (range_with_len l.byte (l.fn.range.end + 1 - l.byte)))
