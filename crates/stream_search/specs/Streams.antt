-- Streams: a text that is still coming in, and the matches that were told of it so far.
use Rattle.std.specs.Prelude.{◌≡◌, ℕ, ◌≤◌, Bool, true, false, List, ◌++◌, drop, length, Option, Some}
use Rattle.rc_text.specs.Found.{Found}
use Rattle.rc_text.specs.declared.types.MatchKind.{MatchKind}
use Rattle.rc_program.specs.Answer.{Search}
use Rattle.rc_program.specs.Matches.{AreMatches, begin_of, end_of}
use Rattle.rc_reach.specs.Live.{found_by, list_by}
use Rattle.rc_reach.specs.Partial.{Partial, final, from_place}

-- The content that a stream may become, once it was fed these bytes: each that goes on from them.
-- If no more follows, they alone.
abbrev pub MayBecome : Bool → List ℕ → List ℕ → Type 0
MayBecome false fed content = (more : List ℕ) × (content ≡ fed ++ more)
MayBecome true fed content = content ≡ fed

-- The list begins with these matches.
abbrev pub BeginsWith : List Found → List Found → Type 0
BeginsWith told all = (rest : List Found) × (all ≡ told ++ rest)

-- The list of the content is these matches, and then those that a search from `from` on finds, if
-- the match before ended at `last`.
abbrev pub GoesOn : MatchKind → Search → List ℕ → List Found → ℕ → Option ℕ → Type 0
GoesOn kind s content told from last = (rest : List Found) →
    AreMatches begin_of end_of (found_by kind s content) from last rest →
    list_by kind s content ≡ told ++ rest

-- A stream was fed these bytes, and these matches were told of it. Of the bytes the first `gone`
-- were let go, and the others are kept. The search goes on from `from`, and the last match ended at
-- `last`.
pub record IsStream (kind : MatchKind) (s : Search) (fed : List ℕ) (told : List Found)
    (is_finished : Bool) (kept : List ℕ) (gone from : ℕ) (last : Option ℕ) : Type 0 where
  -- The theorem: what was told is a beginning of the list of each content that this may become.
  pub begins : (content : List ℕ) → MayBecome is_finished fed content →
      BeginsWith told (list_by kind s content)
  -- The rest of the list comes from `from` on.
  pub goes_on : (content : List ℕ) → MayBecome is_finished fed content →
      GoesOn kind s content told from last
  pub kept_is : kept ≡ drop gone fed
  pub inside : gone ≤ length fed

-- What these bytes tell of a search from `at` on is true of each content that they may become: it
-- has the match, or a search from the place finds the same.
abbrev pub IsTold : MatchKind → Search → Bool → List ℕ → ℕ → Partial → Type 0
IsTold kind s is_finished bytes at (final m) = (content : List ℕ) →
    MayBecome is_finished bytes content → found_by kind s content at ≡ Some m
IsTold kind s is_finished bytes at (from_place k) = (content : List ℕ) →
    MayBecome is_finished bytes content → found_by kind s content at ≡ found_by kind s content k
