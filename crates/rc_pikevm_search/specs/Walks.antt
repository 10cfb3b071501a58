-- Lists of matches: the walks of one.
use Rattle.std.specs.Prelude.{◌≡◌, ◌≢◌, ℕ, ◌+◌, ◌-◌, Bool, false, List, Option, Some, None, map, if◌then◌else◌}
use Rattle.rc_text.specs.Found.{Found}
use Rattle.rc_text.specs.declared.types.MatchKind.{MatchKind}
use Rattle.rc_text.specs.declared.types.MatchKind.TheVariants.{All as all_matches, LeftmostFirst as leftmost_first, LeftmostLongest as leftmost_longest}
use Rattle.rc_program.specs.Answer.{Search, Chosen, chosen, found, last_of}
use Rattle.rc_program.specs.Kinds.{answer_by_from, matches_by_kind}
use Rattle.rc_program.specs.Longest.{longest_chosen}
use Rattle.rc_program.specs.Matches.{begin_of, end_of, from_on, is_again, matches_by}

abbrev pub walk_start : Chosen → ℕ
walk_start c = c.start

abbrev pub walk_end : Chosen → ℕ
walk_end c = (last_of c.walk).1

-- The walk of the match of a kind; of a greatest match only the span is known.
abbrev pub chosen_by : MatchKind → Search → Option Chosen
chosen_by all_matches s = None
chosen_by leftmost_first s = chosen s
chosen_by leftmost_longest s = longest_chosen s

-- The walk that a search from k on chooses.
abbrev pub chosen_from : MatchKind → Search → ℕ → Option Chosen
chosen_from kind s k = chosen_by kind (from_on s k)

-- The walks of the matches that are left if the span starts at k, and the match before ended at
-- `last`.
unfoldable pub walks_left : MatchKind → Search → ℕ → Option ℕ → List Chosen
walks_left kind s k last = matches_by walk_start walk_end (chosen_from kind s) (s.hi + 1 - k) k last

-- The match is empty, and ends where the one before ended.
abbrev pub again : Option ℕ → Option Found → Bool
again last None = false
again last (Some m) = is_again begin_of end_of last m

-- Where the next match is looked for.
abbrev pub next_start : MatchKind → Search → ℕ → Option ℕ → ℕ
next_start kind s k last = if again last (answer_by_from kind s k) then k + 1 else k

-- These walks are those of the list of matches of a kind, but for the greatest ones.
abbrev pub WalksLaw : Type 0
WalksLaw = (kind : MatchKind) (s : Search) (k : ℕ) (last : Option ℕ) → kind ≢ all_matches →
    map (found s) (walks_left kind s k last) ≡ matches_by_kind kind s k last
