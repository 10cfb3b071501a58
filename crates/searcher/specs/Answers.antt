-- What a searcher is made of, and what it answers.
use Rattle.std.specs.Prelude.{◌≡◌, ℕ, ◌<◌, ◌≤◌, List, length, if◌then◌else◌, Option, Some, None, IsSome}
use Rattle.std.specs.Borrow.{Bor}
use Rattle.rc_text.specs.Limits.{most_patterns}
use Rattle.rc_text.specs.Found.{Found}
use Rattle.rc_text.specs.declared.types.MatchKind.{MatchKind}
use Rattle.rc_program.specs.Answer.{Search}
use Rattle.rc_program.specs.Kinds.{answer_by, matches_by_kind}
use Rattle.rc_program.specs.Sought.{search_for}
use Rattle.rc_reach.specs.Partial.{IsPartial, final, from_place}
use Rattle.rc_build.specs.Refusals.{IsBuildable, limit_by}
use Rattle.rc_build.specs.TextRefusals.{AllRead, IsTextRefusal, texts_of}
use Rattle.api_meta.specs.Views.{regex_kind, regex_patterns, regex_settings, sought}
use Rattle.api_meta.specs.declared.partial.Partial.{Partial}
use Rattle.api_meta.specs.declared.partial.Partial.TheVariants.{Final, From}
use Rattle.api_meta.specs.declared.regex.Regex.{Regex}
use Rattle.searcher.specs.Flags.{is_on, kind_of, search_settings, size_limit_in, syntax_settings}
use Rattle.searcher.specs.Ranges.{AreTexts, IsBroken, at_start, in_range}
use Rattle.searcher.specs.Searching.{Searching}
use Rattle.searcher.specs.declared.answers.Bounds.{Bounds}
use Rattle.searcher.specs.declared.answers.Refusal.{Refusal}
use Rattle.searcher.specs.declared.answers.Refusal.TheVariants.{Build, Memory, NoKind, NotUtf8, TooMany}
use Rattle.searcher.specs.declared.settings.Settings.{Settings}

-- the search of a text in a range by a regex
abbrev pub search_in : Regex → List ℕ → ℕ → ℕ → Search
search_in r text start end = search_for (sought r) (in_range text start end)

-- the match that it finds
abbrev pub answer_in : Regex → List ℕ → ℕ → ℕ → Option Found
answer_in r text start end = answer_by (regex_kind r) (search_in r text start end)

-- the search of a text for a match that begins where the range does
abbrev pub search_at : Regex → List ℕ → ℕ → ℕ → Search
search_at r text start end = search_for (sought r) (at_start text start end)

-- the match that it finds
abbrev pub answer_at : Regex → List ℕ → ℕ → ℕ → Option Found
answer_at r text start end = answer_by (regex_kind r) (search_at r text start end)

-- the match in a text within bounds
abbrev pub answer_over : Regex → List ℕ → Bounds → Option Found
answer_over r text b = if is_on b.anchored then answer_at r text b.start b.end else answer_in r text b.start b.end

-- the matches of the text in a range
abbrev pub matches_in : Regex → List ℕ → ℕ → ℕ → List Found
matches_in r text start end = matches_by_kind (regex_kind r) (search_in r text start end) start None

-- the matches of the text, up to `end`, that are left to the iteration
abbrev pub left_in : Searching → List ℕ → ℕ → List Found
left_in s text end = matches_by_kind (regex_kind s.regex) (search_in s.regex text s.from end) s.from s.last

-- The partial answer is true of the search from `start` on of each text that goes on from this one. A place to go on from is one of the text.
abbrev pub IsPartialIn : Regex → List ℕ → ℕ → Partial → Type 0
IsPartialIn r text start (Final m) = IsPartial (regex_kind r) (search_in r text start 18446744073709551615) (final m)
IsPartialIn r text start (From k) =
    IsPartial (regex_kind r) (search_in r text start 18446744073709551615) (from_place k) × (start ≤ k) × (k ≤ length text)

-- All is the same but the groups.
abbrev pub IsSame : (s t : Searching) → Type 0
IsSame s t = t ≡ record s { captures = t.captures }

-- The second searcher is of the regex of the first, its iteration begins where the text does, and it keeps no list and no other search.
pub record IsShare (s t : Searching) : Type 0 where
  pub regex : t.regex ≡ s.regex
  pub from : t.from ≡ 0
  pub last : t.last ≡ None
  pub live : t.live ≡ None
  pub stream : t.stream ≡ None
  pub stepper : t.stepper ≡ None

-- The searcher is of the patterns as which these texts are read, under these settings. Its iteration begins where the text does, and it keeps
-- no list and no other search. No refusal but out of memory applies.
pub record IsBuilt (settings : Settings) (patterns : List (Bor (List ℕ))) (s : Searching) : Type 0 where
  pub kind : MatchKind
  pub kinded : kind_of settings.kind ≡ Some kind
  pub few : length patterns ≤ most_patterns
  pub texts : AreTexts patterns
  pub read : AllRead (syntax_settings settings) (texts_of patterns) (regex_patterns s.regex)
  pub buildable : IsBuildable (limit_by (Some (size_limit_in settings)) (syntax_settings settings)) (regex_patterns s.regex)
  pub set : regex_settings s.regex ≡ search_settings settings kind
  pub from : s.from ≡ 0
  pub last : s.last ≡ None
  pub live : s.live ≡ None
  pub stream : s.stream ≡ None
  pub stepper : s.stepper ≡ None

-- some kind has the number
abbrev pub HasKind : Settings → Type 0
HasKind settings = IsSome (kind_of settings.kind)

-- some kind has the number, and there aren't too many texts
abbrev pub IsCounted : Settings → List (Bor (List ℕ)) → Type 0
IsCounted settings patterns = HasKind settings × (length patterns ≤ most_patterns)

-- The refusal is the first one that applies to the settings and the texts. Out of memory may come at any time.
abbrev pub IsRefused : Settings → List (Bor (List ℕ)) → Refusal → Type 0
IsRefused settings patterns NoKind = kind_of settings.kind ≡ None
IsRefused settings patterns TooMany = HasKind settings × (most_patterns < length patterns)
IsRefused settings patterns (NotUtf8 p) = IsCounted settings patterns × IsBroken patterns p
IsRefused settings patterns (Build e) =
    IsCounted settings patterns × AreTexts patterns × IsTextRefusal (Some (size_limit_in settings)) (syntax_settings settings) (texts_of patterns) e
IsRefused settings patterns Memory = Unit {0}
