-- What a status tells of a search in slices that a handle keeps, and what it leaves.
use Rattle.std.specs.Prelude.{◌≡◌, ◌⊎◌, ℕ, List, length, Some, None, MatchOption}
use Rattle.std.specs.Borrow.{Bor}
use Rattle.rc_text.specs.Joined.{IsTooLong, joined}
use Rattle.stream_search.specs.Stepping.{IsSliced, IsUnderWay, Stepping, begun, found_from}
use Rattle.searcher.specs.Places.{found_at}
use Rattle.searcher.specs.Searching.{Searching}
use Rattle.searcher.specs.declared.answers.MatchAt.{MatchAt}
use Rattle.zorfelith_c.specs.Statuses.{done, found, memory, more_after, no_stepper, too_long}

-- The searcher is as it was but for its search in slices, of which this is so if it keeps one.
abbrev pub OfStepper : Searching → ℕ → Searching → (Stepping → Stepping → Type 0) → Type 0
OfStepper s status t Leaves =
    (t ≡ record s { stepper = t.stepper }) × MatchOption s.stepper ((status ≡ no_stepper) × (t.stepper ≡ None)) (λ old. MatchOption t.stepper ⊥ (Leaves old))

-- a new search from a place on, or memory was refused and all is as it was
abbrev pub TellsNew : ℕ → Searching → ℕ → Searching → Type 0
TellsNew start s status t =
    ((status ≡ done) × (t ≡ record s { stepper = Some (begun s.regex start) })) ⊎ ((status ≡ memory) × (t ≡ s))

-- another search, by the same regex
abbrev pub TellsBegun : ℕ → ℕ → (s t : Stepping) → Type 0
TellsBegun start status s t = (status ≡ done) × (t ≡ begun s.regex start)

-- The search goes on after a slice, and finds what it would have found.
pub record GoesOn (text : List ℕ) (budget : ℕ) (s t : Stepping) : Type 0 where
  pub regex : t.regex ≡ s.regex
  pub way : (start : ℕ) → IsUnderWay text start s → IsUnderWay text start t
  pub sliced : IsSliced s budget (length text) t

-- one of these, whose status it is
abbrev pub TellsSlice : List (Bor (List ℕ)) → ℕ → ℕ → MatchAt → (s t : Stepping) → Type 0
TellsSlice chunks budget status m s t =
    ((status ≡ found) × (t ≡ s) × ((start : ℕ) → IsUnderWay (joined chunks) start s → Some (found_at m) ≡ found_from s.regex (joined chunks) start))
    ⊎ ((status ≡ done) × (t ≡ s) × ((start : ℕ) → IsUnderWay (joined chunks) start s → None ≡ found_from s.regex (joined chunks) start))
    ⊎ ((status ≡ more_after) × GoesOn (joined chunks) budget s t)
    ⊎ ((status ≡ too_long) × IsTooLong chunks × (t ≡ s))

-- where it came to
abbrev pub TellsPosition : ℕ → ℕ → (s t : Stepping) → Type 0
TellsPosition status position s t = (status ≡ done) × (position ≡ s.position) × (t ≡ s)
