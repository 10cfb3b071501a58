-- Capture slots: those of a match, by its kind.
use Rattle.std.specs.Prelude.{ℕ, ◌+◌, ◌*◌, List, Option, Some, None, slice_set, replicate}
use Rattle.std.specs.Option.{option_map}
use Rattle.rc_text.specs.Found.{Found}
use Rattle.rc_text.specs.declared.types.MatchKind.{MatchKind}
use Rattle.rc_text.specs.declared.types.MatchKind.TheVariants.{All as all_matches, LeftmostFirst as leftmost_first, LeftmostLongest as leftmost_longest}
use Rattle.rc_program.specs.Answer.{Search, groups}
use Rattle.rc_program.specs.Greatest.{greatest}
use Rattle.rc_program.specs.Longest.{longest_groups}

-- n slots with the whole match alone.
abbrev pub span_slots : ℕ → Found → List (Option ℕ)
span_slots n m = slice_set (slice_set (replicate n None) (2 * m.pattern) (Some m.start)) (2 * m.pattern + 1) (Some m.end)

-- The first n slots of the match of a kind.
abbrev pub slots_by : MatchKind → Search → ℕ → Option (List (Option ℕ))
slots_by all_matches s n = option_map (span_slots n) (greatest s)
slots_by leftmost_first s n = groups s n
slots_by leftmost_longest s n = longest_groups s n
