-- Matches of a list that follow one another, up to a place.
use Rattle.std.specs.Prelude.{◌≡◌, ◌≢◌, ◌<◌, ◌≤◌, ℕ, Bool, false, true, List, [], ◌∷◌, ◌++◌, Option, Some, None, IfSome}
use Rattle.rc_text.specs.Found.{Found}
use Rattle.rc_program.specs.Matches.{begin_of, end_of, next_match}

-- From k on these are the next matches, if the one before ended at `last`, and each begins before b. The list then goes on from j, and
-- its last match ended at l.
abbrev pub AreNext : (ℕ → Option Found) → ℕ → List Found → ℕ → Option ℕ → ℕ → Option ℕ → Type 0
AreNext find b [] k last j l = (j ≡ k) × (l ≡ last)
AreNext find b (m ∷ ms) k last j l =
    (next_match begin_of end_of find k last ≡ Some m) × (m.start < b) × AreNext find b ms m.end (Some m.end) j l

-- They were added to a list.
pub record AddsNext (find : ℕ → Option Found) (b k : ℕ) (last : Option ℕ) (before : List Found) (j : ℕ) (l : Option ℕ) (after : List Found) : Type 0 where
  pub more : List Found
  pub added : after ≡ before ++ more
  pub next : AreNext find b more k last j l

-- Whether another match comes. If one does, it begins at b or later.
pub record ComesBehind (b : ℕ) (o : Option Found) (comes : Bool) : Type 0 where
  pub none : comes ≡ false → o ≡ None
  pub some : comes ≡ true → o ≢ None
  pub far : IfSome o (λ m. b ≤ m.start)
