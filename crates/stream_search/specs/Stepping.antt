-- Steppers: a search of a content that goes on slice by slice.
use Rattle.std.specs.Prelude.{◌≡◌, ◌⊎◌, ℕ, ◌+◌, ◌-◌, ◌<◌, ◌≤◌, List, ◌++◌, Option, length, max, take}
use Rattle.rc_text.specs.Found.{Found}
use Rattle.rc_reach.specs.Live.{found_by}
use Rattle.api_meta.specs.Views.{regex_kind}
use Rattle.api_meta.specs.declared.partial.Partial.{Partial}
use Rattle.api_meta.specs.declared.partial.Partial.TheVariants.{Final, From}
use Rattle.api_meta.specs.declared.regex.Regex.{Regex}
use Rattle.stream_search.specs.Searches.{seeks}
use Rattle.stream_search.specs.declared.step.Progress.{Progress}
use Rattle.stream_search.specs.declared.step.Progress.TheVariants.{Done, NotYet}

-- A stepper as contracts see it.
pub record Stepping : Type 0 where
  pub regex : Regex
  -- Where the search goes on.
  pub from : ℕ
  -- How many bytes were looked at.
  pub position : ℕ

-- A stepper before any slice.
abbrev pub begun : Regex → ℕ → Stepping
begun r start = record { regex = r; from = start; position = start }

-- The match of a content from a place on.
abbrev pub found_from : Regex → List ℕ → ℕ → Option Found
found_from r content start = found_by (regex_kind r) (seeks r) content start

-- A search of the content from `start` on finds what one finds from where the stepper goes on.
abbrev pub IsUnderWay : List ℕ → ℕ → Stepping → Type 0
IsUnderWay content start s = found_from s.regex content start ≡ found_from s.regex content s.from

-- Where the next slice ends: so many bytes further on, or as many as are read again if they are
-- more, and at least one.
abbrev pub slice_end : Stepping → ℕ → ℕ
slice_end s budget = s.position + max (max budget (s.position - s.from)) 1

-- However a content goes on after these bytes, a search from where the stepper goes on finds this.
abbrev pub Settles : Stepping → (bytes : List ℕ) → Option Found → Type 0
Settles s bytes m = (more : List ℕ) → found_from s.regex (bytes ++ more) s.from ≡ m

-- The answer is one of a slice: the content ends in it, or what follows it can't change the answer.
abbrev pub IsOfSlice : Stepping → (budget : ℕ) → (content : List ℕ) → Option Found → Type 0
IsOfSlice s budget content m = (length content ≤ slice_end s budget) ⊎ Settles s (take (slice_end s budget) content) m

-- A slice was searched, and the content goes on after it.
pub record IsSliced (s : Stepping) (budget len : ℕ) (t : Stepping) : Type 0 where
  pub position : t.position ≡ slice_end s budget
  pub inside : t.position < len
  -- The search goes on between where it went on before and the end of the slice.
  pub onward : s.from ≤ t.from
  pub within : t.from ≤ t.position

-- If there is no match yet, the search goes on between this place and the end of the slice.
abbrev pub GoesTo : ℕ → ℕ → Partial → Type 0
GoesTo at end (Final m) = Unit {0}
GoesTo at end (From k) = (at ≤ k) × (k ≤ end)

-- What holds of the answer, if there is one.
abbrev pub IfDone : Progress → (Option Found → Type 0) → Type 0
IfDone (Done m) P = P m
IfDone NotYet P = Unit {0}

-- What holds if there is none yet.
abbrev pub IfNotYet : Progress → Type 0 → Type 0
IfNotYet (Done m) P = Unit {0}
IfNotYet NotYet P = P
