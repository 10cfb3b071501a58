-- List steppers: the matches of a content, slice by slice.
use Rattle.std.specs.Prelude.{◌≡◌, ℕ, ◌+◌, ◌-◌, ◌<◌, ◌≤◌, true, List, ◌++◌, Option, None, max}
use Rattle.rc_text.specs.Found.{Found}
use Rattle.api_meta.specs.Views.{regex_kind}
use Rattle.api_meta.specs.declared.regex.Regex.{Regex}
use Rattle.rc_program.specs.Matches.{begin_of, end_of, next_match}
use Rattle.stream_search.specs.Searches.{seeks}
use Rattle.stream_search.specs.Stepping.{found_from}
use Rattle.stream_search.specs.Streams.{IsStream}

-- A list stepper as contracts see it.
pub record Listing : Type 0 where
  pub regex : Regex
  -- Where the search goes on, and where the last match ended.
  pub from : ℕ
  pub last : Option ℕ
  -- Where the last slice ended.
  pub position : ℕ

-- A list stepper before any slice.
abbrev pub unbegun : Regex → Listing
unbegun r = record { regex = r; from = 0; last = None; position = 0 }

-- It told these matches of the content. They are the first of its list, and the others come from
-- where the search goes on.
abbrev pub HasTold : List ℕ → List Found → Listing → Type 0
HasTold content told s =
    IsStream (regex_kind s.regex) (seeks s.regex) content told true content 0 s.from s.last

-- The content has no more matches from where the search goes on.
abbrev pub HasNone : List ℕ → Listing → Type 0
HasNone content s = next_match begin_of end_of (found_from s.regex content) s.from s.last ≡ None

-- Where the next slice ends: so many bytes further on, or as many as are read again if they are
-- more, and at least one.
abbrev pub slice_end : Listing → ℕ → ℕ
slice_end s budget = max s.position s.from + max (max budget (s.position - s.from)) 1

-- The match lies in so many bytes, from where the search goes on.
abbrev pub LiesFrom : Listing → ℕ → Found → Type 0
LiesFrom s len m = (s.from ≤ m.start) × (m.start ≤ m.end) × (m.end ≤ len)

-- From s to t it told the matches that were added.
pub record Adds (content : List ℕ) (s : Listing) (before : List Found) (t : Listing)
    (after : List Found) : Type 0 where
  pub more : List Found
  pub added : after ≡ before ++ more
  pub told : (told : List Found) → HasTold content told s → HasTold content (told ++ more) t

-- A slice was searched, and the content goes on after it.
pub record IsSliced (s : Listing) (budget len : ℕ) (t : Listing) : Type 0 where
  pub position : t.position ≡ slice_end s budget
  pub inside : t.position < len
  -- The search goes on between where it went on before and the end of the slice, or a byte behind.
  pub onward : s.from ≤ t.from
  pub within : t.from ≤ t.position + 1
