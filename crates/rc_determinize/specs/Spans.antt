-- Greatest spans: those of `MatchKind::All`, by states forwards and backwards.
use Rattle.std.specs.Prelude.{◌≡◌, ◌↔◌, ℕ, ◌+◌, ◌<◌, ◌≤◌, List, [], ◌∷◌, length, Option, Some, None, IsTrue, slice_index}
use Rattle.rc_walks.specs.Walks.{Pair, IsWalk}
use Rattle.rc_program.specs.Text.{Text}
use Rattle.rc_program.specs.Program.{accept, place_at, ways}
use Rattle.rc_program.specs.Answer.{Search, next_of, ends, last_of, is_anchored}
use Rattle.rc_program.specs.Greatest.{IsGreatest, HasNoSpan}
use Rattle.rc_determinize.specs.Run.{Reaches, IsGoal}
use Rattle.rc_determinize.specs.States.{Setting, is_match, all_starts}
use Rattle.rc_determinize.specs.Sets.{Comes, IsLeastMatch}
use Rattle.rc_determinize.specs.Backward.{IsLeastSoFar}
use Rattle.rc_determinize.specs.Laws.{IsSettingOf}

-- It holds of some match place.
abbrev pub IsSomeMatch : Setting → (ℕ → Type 0) → Type 0
IsSomeMatch g Holds = (q : ℕ) × Holds q × IsTrue (is_match g.places q)

-- The last position before i at which a walk from one of the first pairs ends.
abbrev pub IsLastSoFar : Setting → Text → ℕ → List Pair → ℕ → Option ℕ → Type 0
IsLastSoFar g t hi origin i None = (y : ℕ) → y < i → ¬ IsSomeMatch g (λ q. Comes (ways g.places t hi) origin (q, y))
IsLastSoFar g t hi origin i (Some e) =
    (e < i) × IsSomeMatch g (λ q. Comes (ways g.places t hi) origin (q, e))
    × ((y : ℕ) → e < y → y < i → ¬ IsSomeMatch g (λ q. Comes (ways g.places t hi) origin (q, y)))

-- The position if a match was found here, or else the one before.
abbrev pub last_at : ℕ → Option ℕ → Option ℕ → Option ℕ
last_at i None last = last
last_at i (Some q) last = Some i

-- A walk of pattern p leads from x to e.
abbrev pub IsSpelled : Search → ℕ → ℕ → ℕ → Type 0
IsSpelled s p x e =
    (w : List Pair) × IsWalk (next_of s) (λ n. IsTrue (ends s n)) [] ((0, x) ∷ []) w × (place_at s.places (last_of w).0 ≡ accept p) × ((last_of w).1 ≡ e)

-- The roots stand for the patterns, in their order: a walk of pattern p leads from x to e if root
-- number p reaches an end there.
abbrev pub AreRoots : Search → List ℕ → Type 0
AreRoots s roots = (p x e : ℕ) → IsSpelled s p x e
    ↔ ((p < length roots) × Reaches (next_of s) (IsGoal (λ n. IsTrue (ends s n)) e) (slice_index roots p, x))

-- The last end forwards, and from there the least start backwards with its first root, are the
-- greatest span.
pub record GreatestSpanLaw : Type 0 where
  pub later : (g : Setting) (t : Text) (hi : ℕ) (origin : List Pair) (i : ℕ) (matched last : Option ℕ) →
      IsLeastMatch g.places (λ q. Comes (ways g.places t hi) origin (q, i)) matched → IsLastSoFar g t hi origin i last →
      IsLastSoFar g t hi origin (i + 1) (last_at i matched last)
  pub greatest : (s : Search) (g : Setting) (roots : List ℕ) (e x k : ℕ) → IsSettingOf s g → AreRoots s roots → s.lo ≤ s.hi →
      IsLastSoFar g s.text s.hi (all_starts (is_anchored s.anchoring) 0 s.lo s.hi) (s.hi + 1) (Some e) →
      IsLeastSoFar g s.text s.hi e roots s.lo (Some (x, k)) → IsGreatest s (record { pattern = k; start = x; end = e })
  pub none : (s : Search) (g : Setting) → IsSettingOf s g → s.lo ≤ s.hi →
      IsLastSoFar g s.text s.hi (all_starts (is_anchored s.anchoring) 0 s.lo s.hi) (s.hi + 1) None → HasNoSpan s
