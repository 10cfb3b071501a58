-- Half matches: what a search forwards finds of a match is its end.
use Rattle.std.specs.Prelude.{◌≡◌, ℕ, Bool, Option, Some, None}
use Rattle.rc_text.specs.Found.{Found, HalfFound}
use Rattle.rc_text.specs.declared.types.MatchKind.{MatchKind}
use Rattle.rc_text.specs.declared.types.MatchKind.TheVariants.{All as all_matches, LeftmostFirst as leftmost_first, LeftmostLongest as leftmost_longest}
use Rattle.rc_program.specs.Answer.{Search}
use Rattle.rc_program.specs.Greatest.{IsSpelledIn}
use Rattle.rc_program.specs.Kinds.{IsAnswerBy}

-- Which pattern is returned with the end of the match: its own; with `MatchKind::All`, one of those
-- that end there.
abbrev pub IsToldWith : MatchKind → Search → Found → ℕ → Type 0
IsToldWith leftmost_first s m p = p ≡ m.pattern
IsToldWith leftmost_longest s m p = p ≡ m.pattern
IsToldWith all_matches s m p = (x : ℕ) × IsSpelledIn s (record { pattern = p; start = x; end = m.end })

-- The end of a match that the search may answer, or nothing if it may answer nothing.
abbrev pub IsForwardHalf : MatchKind → Bool → Search → Option HalfFound → Type 0
IsForwardHalf kind earliest s None = IsAnswerBy kind earliest s None
IsForwardHalf kind earliest s (Some h) = (m : Found) × IsAnswerBy kind earliest s (Some m) × (h.offset ≡ m.end) × IsToldWith kind s m h.pattern
