-- Leftmost kinds of match: those that begin at the least start are leftmost-first and
-- leftmost-longest.
use Rattle.std.specs.Prelude.{ℕ, List, [], Option}
use Rattle.rc_walks.specs.Walks.{Pair}
use Rattle.rc_program.specs.Answer.{Search}
use Rattle.rc_text.specs.declared.types.MatchKind.{MatchKind}
use Rattle.rc_text.specs.declared.types.MatchKind.TheVariants.{All as all_matches, LeftmostFirst as leftmost_first, LeftmostLongest as leftmost_longest}
use Rattle.rc_determinize.specs.Gives.{Gives}
use Rattle.rc_determinize.specs.Laws.{IsRaised}
use Rattle.rc_determinize.specs.LongestLaws.{GivesLongest, IsLongestRaised}

-- It is one of these kinds.
abbrev pub IsLeftmost : MatchKind → Type 0
IsLeftmost all_matches = ⊥
IsLeftmost leftmost_first = Unit {0}
IsLeftmost leftmost_longest = Unit {0}

-- Where the walk ends that counts, of the first of the pairs from which one leads: the first walk,
-- or the longest one. Or there is no walk.
abbrev pub GivesBy : MatchKind → (Pair → List Pair) → (Pair → Type 0) → List Pair → Option Pair → Type 0
GivesBy all_matches ways Ends from r = Unit {0}
GivesBy leftmost_first ways Ends from r = Gives ways Ends [] from r
GivesBy leftmost_longest ways Ends from r = GivesLongest ways Ends from r

-- All starts before `from` were passed over. With `MatchKind::All`, none is.
abbrev pub IsRaisedBy : MatchKind → Search → ℕ → Type 0
IsRaisedBy all_matches s from = Unit {0}
IsRaisedBy leftmost_first s from = IsRaised s from
IsRaisedBy leftmost_longest s from = IsLongestRaised s from
