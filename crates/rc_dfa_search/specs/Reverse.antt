-- Half matches: what a search backwards finds of a match that ends at the upper bound is its start.
use Rattle.std.specs.Prelude.{◌≡◌, ℕ, ◌<◌, ◌≤◌, ◌⊎◌, Bool, true, false, not, ◌||◌, Option, Some, None, IfSome, option_map}
use Rattle.rc_text.specs.Found.{Found, HalfFound}
use Rattle.rc_text.specs.Text.{is_boundary}
use Rattle.rc_program.specs.Answer.{Search}
use Rattle.rc_program.specs.Greatest.{IsSpelledIn}
use Rattle.rc_program.specs.Kinds.{is_early}
use Rattle.rc_determinize.specs.Spans.{IsSpelled}

-- Some walk of the half's pattern leads from its position to the upper bound, wherever the search
-- may begin.
pub record IsSpelledToEnd (s : Search) (h : HalfFound) : Type 0 where
  pub within : (s.lo ≤ h.offset) × (h.offset ≤ s.hi)
  pub is_spelled : IsSpelled s h.pattern h.offset s.hi

-- The least such position, and there the least pattern.
pub record IsLeastStart (s : Search) (h : HalfFound) : Type 0 where
  pub is_spelled : IsSpelledToEnd s h
  pub is_least : (x p : ℕ) → s.lo ≤ x → IsSpelled s p x s.hi → (h.offset < x) ⊎ ((h.offset ≡ x) × (h.pattern ≤ p))

-- No walk leads to the upper bound.
abbrev pub HasNoStart : Search → Type 0
HasNoStart s = (x p : ℕ) → s.lo ≤ x → ¬ IsSpelled s p x s.hi

-- With the earliest flag on, any such position may be returned, unless matches may be passed over.
abbrev pub IsStartWhere : Bool → Search → HalfFound → Type 0
IsStartWhere true s h = IsSpelledToEnd s h
IsStartWhere false s h = IsLeastStart s h

-- A search backwards from the upper bound may return this. If matches may be passed over, none may
-- end off a boundary.
abbrev pub IsReverseHalf : Bool → Search → Option HalfFound → Type 0
IsReverseHalf earliest s None = HasNoStart s ⊎ ((s.passes_over ≡ true) × (is_boundary s.text.content s.hi ≡ false))
IsReverseHalf earliest s (Some h) = IsStartWhere (is_early earliest s) s h × ((not s.passes_over || is_boundary s.text.content s.hi) ≡ true)

-- The half of a match that such a search returns.
abbrev pub start_of : Found → HalfFound
start_of m = record { pattern = m.pattern; offset = m.start }

-- The match from the start that such a search returns to the upper bound.
abbrev pub IsMatchToEnd : Bool → Search → Option Found → Type 0
IsMatchToEnd earliest s o = IsReverseHalf earliest s (option_map start_of o) × IfSome o (λ m. m.end ≡ s.hi)

-- Each span that is spelled ends at the upper bound.
abbrev pub EndsAtBound : Search → Type 0
EndsAtBound s = (m : Found) → IsSpelledIn s m → m.end ≡ s.hi
