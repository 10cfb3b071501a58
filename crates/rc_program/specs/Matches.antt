-- Lists of matches: all matches of a search, and the pieces between them.
use Rattle.std.specs.Prelude.{◌≡◌, ℕ, zero, suc, ◌+◌, ◌-◌, ◌<◌, ◌≤◌, Bool, false, ◌&&◌, List, [], ◌∷◌, length, take, Option, Some, None, if◌then◌else◌, nat_eq, min, max}
use Rattle.rc_text.specs.Found.{Found}
use Rattle.rc_text.specs.declared.types.Span.{Span}
use Rattle.rc_program.specs.Answer.{Search, answer}

-- Over matches of any kind: `begin` and `end` give the span of one.
module _ {X : Type 0} (begin end : X → ℕ) where
  -- The match is empty, and ends where the one before ended.
  abbrev pub is_again : Option ℕ → X → Bool
  is_again None m = false
  is_again (Some last) m = nat_eq (begin m) (end m) && nat_eq (end m) last

  -- Each begins where the one before ended or later, and ends after it, and no later than `high`.
  abbrev pub AreInOrder : ℕ → List X → Type 0
  AreInOrder high [] = Unit {0}
  AreInOrder high (m ∷ []) = (begin m ≤ end m) × (end m ≤ high)
  AreInOrder high (m ∷ n ∷ ms) = (begin m ≤ end m) × (end m ≤ begin n) × (end m < end n) × AreInOrder high (n ∷ ms)

-- Over any way to look for one from a start on: `find k` is the match.
module _ {X : Type 0} (begin end : X → ℕ) (find : ℕ → Option X) where
  abbrev pub unless_again : ℕ → Option ℕ → Option X → Option X
  unless_again k last None = None
  unless_again k last (Some m) = if is_again begin end last m then find (k + 1) else Some m

  -- The match from k on, if the one before ended at `last`.
  abbrev pub next_match : ℕ → Option ℕ → Option X
  next_match k last = unless_again k last (find k)

  -- These are the matches from k on, if the one before ended at `last`.
  pub data AreMatches : ℕ → Option ℕ → List X → Type 0 where
    ends : {k : ℕ} {last : Option ℕ} → next_match k last ≡ None → AreMatches k last []
    goes_on : {k : ℕ} {last : Option ℕ} {ms : List X} (m : X) → next_match k last ≡ Some m →
        AreMatches (end m) (Some (end m)) ms → AreMatches k last (m ∷ ms)

  abbrev pub and_on : (X → List X) → Option X → List X
  and_on rest None = []
  and_on rest (Some m) = m ∷ rest m

  -- The first n of them.
  abbrev pub matches_by : ℕ → ℕ → Option ℕ → List X
  matches_by zero k last = []
  matches_by (suc n) k last = and_on (λ m. matches_by n (end m) (Some (end m))) (next_match k last)

  -- A match from k on begins at k and at `low` or later, and ends at `high` or before.
  abbrev pub LiesWithin : ℕ → ℕ → Type 0
  LiesWithin low high = (k : ℕ) (m : X) → find k ≡ Some m → (k ≤ begin m) × (low ≤ begin m) × (begin m ≤ end m) × (end m ≤ high)

abbrev pub begin_of : Found → ℕ
begin_of m = m.start

abbrev pub end_of : Found → ℕ
end_of m = m.end

-- The same search, with the span's start at k.
abbrev pub from_on : Search → ℕ → Search
from_on s k = record s { lo = max k s.text.slice_start }

abbrev pub answer_from : Search → ℕ → Option Found
answer_from s k = answer (from_on s k)

-- The matches that are left if the span starts at k, and the match before ended at `last`.
unfoldable pub matches_left : Search → ℕ → Option ℕ → List Found
matches_left s k last = matches_by begin_of end_of (answer_from s) (s.hi + 1 - k) k last

-- The pieces from `from` on.
abbrev pub pieces_from : ℕ → ℕ → List Found → List Span
pieces_from from hi [] = record { start = from; end = hi } ∷ []
pieces_from from hi (m ∷ ms) = record { start = from; end = m.start } ∷ pieces_from m.end hi ms

-- The pieces between the matches, from 0 to hi.
abbrev pub pieces_of : ℕ → List Found → List Span
pieces_of hi ms = pieces_from 0 hi ms

-- At most so many pieces from `from` on: the last one takes in what further matches would cut.
abbrev pub pieces_left : ℕ → ℕ → ℕ → List Found → List Span
pieces_left zero from hi ms = []
pieces_left (suc n) from hi ms = pieces_from from hi (take n ms)

-- At most so many pieces, from 0 to hi.
abbrev pub pieces_at_most : ℕ → ℕ → List Found → List Span
pieces_at_most n hi ms = pieces_left n 0 hi ms

-- A piece, a match, a piece, and so on.
abbrev pub in_turn : List Span → List Found → List Span
in_turn [] ms = []
in_turn (p ∷ ps) [] = p ∷ ps
in_turn (p ∷ ps) (m ∷ ms) = p ∷ record { start = m.start; end = m.end } ∷ in_turn ps ms

-- Each begins where the one before ends, the first at `from`, and the last ends at `to`.
abbrev pub AreJoined : ℕ → ℕ → List Span → Type 0
AreJoined from to [] = from ≡ to
AreJoined from to (s ∷ spans) = (s.start ≡ from) × (s.start ≤ s.end) × AreJoined s.end to spans

-- The law of the list of matches, if the span starts at k.
pub record MatchesLaw : Type 0 where
  pub are_matches : (s : Search) (k : ℕ) → AreMatches begin_of end_of (answer_from s) k None (matches_left s k None)
  pub alone : (s : Search) (k : ℕ) (ms : List Found) → AreMatches begin_of end_of (answer_from s) k None ms → ms ≡ matches_left s k None
  pub in_order : (s : Search) (k : ℕ) → AreInOrder begin_of end_of s.hi (matches_left s k None)
  pub few : (s : Search) (k : ℕ) → length (matches_left s k None) ≤ s.hi + 1 - max k s.text.slice_start
  pub within : (s : Search) → LiesWithin begin_of end_of (answer_from s) s.text.slice_start s.hi

-- The law of the pieces between matches in order, also if their number is limited.
pub record PiecesLaw : Type 0 where
  pub count : (hi : ℕ) (ms : List Found) → length (pieces_of hi ms) ≡ length ms + 1
  pub cover : (hi : ℕ) (ms : List Found) → AreInOrder begin_of end_of hi ms → AreJoined 0 hi (in_turn (pieces_of hi ms) ms)
  -- There are as many as the limit allows, and they cover the same.
  pub limited_count : (n hi : ℕ) (ms : List Found) → length (pieces_at_most n hi ms) ≡ min n (length ms + 1)
  pub limited_cover : (n hi : ℕ) (ms : List Found) → AreInOrder begin_of end_of hi ms →
      AreJoined 0 hi (in_turn (pieces_at_most (suc n) hi ms) (take n ms))
  -- A limit that isn't reached changes nothing.
  pub unlimited : (n hi : ℕ) (ms : List Found) → length ms < n → pieces_at_most n hi ms ≡ pieces_of hi ms
