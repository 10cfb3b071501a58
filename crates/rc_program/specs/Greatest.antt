-- Greatest spans: the greatest of those that walks of a search spell.
use Rattle.std.specs.Prelude.{◌≡◌, ◌↔◌, ℕ, zero, suc, ◌+◌, ◌*◌, ◌<◌, ◌≤◌, ◌⊎◌, Bool, false, ◌&&◌, List, [], ◌∷◌, length, Option, Some, None, IsTrue, nat_eq, max, All}
use Rattle.std.specs.Option.{option_or, option_map}
use Rattle.rc_text.specs.Found.{Found}
use Rattle.rc_pattern.specs.Re.{Re}
use Rattle.rc_pattern.specs.WellFormed.{HasBounds}
use Rattle.rc_walks.specs.Walks.{Pair, IsWalk}
use Rattle.rc_walks.specs.Tries.{walk_by}
use Rattle.rc_program.specs.Program.{Place, accept, place_at, is_match_place, program}
use Rattle.rc_program.specs.Spells.{SpelledBy}
use Rattle.rc_program.specs.Answer.{Search, only, ends, next_of, last_of, IsStart, first_given, start_count, answer}

-- The search allows a walk that leads from the match's start to its end, and ends at the match
-- place of its pattern.
pub record IsSpelledIn (s : Search) (m : Found) : Type 0 where
  pub is_start : IsStart s m.start
  pub walk : List Pair
  pub is_walk : IsWalk (next_of s) (λ n. IsTrue (ends s n)) [] ((0, m.start) ∷ []) walk
  pub pattern : place_at s.places (last_of walk).0 ≡ accept m.pattern
  pub position : (last_of walk).1 ≡ m.end

-- The search allows walks of the pattern.
abbrev pub AllowsPattern : Search → ℕ → Type 0
AllowsPattern s p = IsTrue (is_match_place (only s.anchoring) (accept p))

-- Nothing is spelled.
abbrev pub HasNoSpan : Search → Type 0
HasNoSpan s = (m : Found) → ¬ IsSpelledIn s m

-- n has a lesser end; or the same end and a greater start; or the same end and start, and no lesser
-- pattern.
abbrev pub IsNoGreater : Found → Found → Type 0
IsNoGreater n m =
    (n.end < m.end) ⊎ ((n.end ≡ m.end) × ((m.start < n.start) ⊎ ((n.start ≡ m.start) × (m.pattern ≤ n.pattern))))

-- It is spelled, and each that is spelled is no greater.
pub record IsGreatest (s : Search) (m : Found) : Type 0 where
  pub is_spelled : IsSpelledIn s m
  pub is_most : (n : Found) → IsSpelledIn s n → IsNoGreater n m

-- The greatest as a function. The law `GreatestLaw` says that this is the greatest.

-- A walk may end here, for pattern p at the position e.
abbrev pub ends_for : Search → ℕ → ℕ → Pair → Bool
ends_for s p e n = ends s n && is_match_place (Some p) (place_at s.places n.0) && nat_eq n.1 e

-- Pattern p from x to e, if a walk leads there.
abbrev pub span_by : Search → ℕ → ℕ → ℕ → Option Found
span_by s e x p =
    option_map (λ (w : List Pair). let m : Found = record { pattern = p; start = x; end = e } in m)
    (walk_by (next_of s) (ends_for s p e) (length s.places * (s.hi + 1)) [] (0, x))

-- The result of the last of the numbers below n that has one.
abbrev pub last_below : (ℕ → Option Found) → ℕ → Option Found
last_below gives zero = None
last_below gives (suc n) = option_or (gives n) (last_below gives n)

-- More than the number of each pattern that has a match place.
abbrev pub past_patterns : List Place → ℕ
past_patterns [] = 0
past_patterns (accept p ∷ places) = max (p + 1) (past_patterns places)
past_patterns (q ∷ places) = past_patterns places

-- The least pattern from x to e.
abbrev pub by_patterns : Search → ℕ → ℕ → Option Found
by_patterns s e x = first_given (span_by s e x) (past_patterns s.places) 0

-- The least start to e, and there the least pattern.
abbrev pub to_end : Search → ℕ → Option Found
to_end s e = first_given (by_patterns s e) (start_count s) s.lo

-- The greatest end, and there the least start, and there the least pattern.
unfoldable pub greatest : Search → Option Found
greatest s = last_below (to_end s) (s.hi + 1)

-- The function gives the greatest, and nothing if nothing is spelled.
pub record GreatestLaw : Type 0 where
  pub some : (s : Search) (m : Found) → (greatest s ≡ Some m) ↔ IsGreatest s m
  pub none : (s : Search) → (greatest s ≡ None) ↔ HasNoSpan s
  -- A search by the program of some patterns spells what the patterns spell.
  pub by_program : (hs : List Re) (s : Search) (m : Found) → All HasBounds hs → s.places ≡ program hs →
      IsSpelledIn s m ↔ (IsStart s m.start × AllowsPattern s m.pattern × (m.end ≤ s.hi) × SpelledBy s.text 0 hs m.pattern m.start m.end)
  -- The answer is spelled.
  pub answer_spelled : (s : Search) (m : Found) → answer s ≡ Some m → IsSpelledIn s m
  -- If matches may not be passed over, something is spelled exactly if there is an answer.
  pub same_none : (s : Search) → s.passes_over ≡ false → (greatest s ≡ None) ↔ (answer s ≡ None)
  -- Passing over changes nothing here.
  pub regardless : (s : Search) (over : Bool) → greatest (record s { passes_over = over }) ≡ greatest s
  -- It is within the bounds.
  pub within : (s : Search) (m : Found) → IsSpelledIn s m → (s.lo ≤ m.start) × (m.start ≤ m.end) × (m.end ≤ s.hi)
