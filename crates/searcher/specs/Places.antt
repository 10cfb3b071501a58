-- Matches and groups as numbers.
use Rattle.std.specs.Prelude.{◌≡◌, ℕ, ◌+◌, ◌<◌, ◌≤◌, ◌⊎◌, Bool, List, [], ◌++◌, length, map, take, slice_get, Option, Some, None, IfSome}
use Rattle.rc_text.specs.Found.{Found}
use Rattle.rc_text.specs.declared.types.Span.{Span}
use Rattle.rc_pattern_set.specs.Sets.{Has}
use Rattle.rc_program.specs.Answer.{Search}
use Rattle.rc_pikevm.specs.PatternSpans.{HasSpan}
use Rattle.rc_captures.specs.Captures.{group_span}
use Rattle.rc_captures.specs.declared.captures.Captures.{Captures}
use Rattle.searcher.specs.declared.answers.GroupAt.{GroupAt}
use Rattle.searcher.specs.declared.answers.MatchAt.{MatchAt}

-- the match as definitions have it
abbrev pub found_at : MatchAt → Found
found_at m = record { pattern = m.pattern; start = m.start; end = m.end }

-- What a batch holds: the first of the matches that were left, as many as `count`, and the others are left. Where it isn't full, none is.
pub record IsFilled (left_before left_now : List Found) (batch : List MatchAt) (count : ℕ) : Type 0 where
  pub within : count ≤ length batch
  pub listed : left_before ≡ map found_at (take count batch) ++ left_now
  pub over : count < length batch → left_now ≡ []

-- Where an iteration goes on after a batch with so many matches: `from` and `next` are the places before and after it, and `last` and `after`
-- are where the match before the place ended. It goes on from the end of the last match, or from where it was if there is none.
pub record GoesOn (batch : List MatchAt) (count : ℕ) (from : ℕ) (last : Option ℕ) (next : ℕ) (after : Option ℕ) : Type 0 where
  pub none : count ≡ 0 → (next ≡ from) × (after ≡ last)
  pub some : (k : ℕ) → count ≡ k + 1 → IfSome (slice_get batch k) (λ m. (next ≡ m.end) × (after ≡ Some m.end))

-- a span as a group
abbrev pub group_of : Option Span → GroupAt
group_of None = record { start = 18446744073709551615; end = 18446744073709551615 }
group_of (Some s) = record { start = s.start; end = s.end }

-- these are the groups that the captures hold, from group 0 on, and none where there is no such group
abbrev pub AreGroups : Captures → List GroupAt → Type 0
AreGroups c groups = (k : ℕ) → k < length groups → slice_get groups k ≡ Some (group_of (group_span c k))

-- what stands in a place of marks: 1 where it holds, 0 where it doesn't
abbrev pub IsMark : Type 0 → Option ℕ → Type 0
IsMark holds mark = (holds × (mark ≡ Some 1)) ⊎ ((¬ holds) × (mark ≡ Some 0))

-- each place says whether its number is a member of the set
abbrev pub AreMarksOf : List Bool → List ℕ → Type 0
AreMarksOf set marks = (p : ℕ) → p < length marks → IsMark (Has set p) (slice_get marks p)

-- each place says whether the pattern with its number, one of the first n, has a match within the bounds
pub record AreMarks (n : ℕ) (s : Search) (marks : List ℕ) : Type 0 where
  pub marked : (p : ℕ) → p < length marks → IsMark ((p < n) × HasSpan s p) (slice_get marks p)
