-- Only proofs use this file.
-- Look-ahead: how many bytes after their position assertions look at.
use Rattle.std.specs.Prelude.{◌≡◌, ℕ, ◌+◌, ◌≤◌, Bool, true, List, Option, Some, IfSome}
use Rattle.rc_text.specs.Found.{Found}
use Rattle.rc_text.specs.declared.types.MatchKind.{MatchKind}
use Rattle.rc_pattern.specs.declared.hir.Look.{Look}
use Rattle.rc_program.specs.Program.{Place, guard, place_at}
use Rattle.rc_reach.specs.Reads.{looks_ahead}
use Rattle.rc_strategy.specs.Lengths.{is_leftmost}

-- No assertion of the places looks at more bytes after its position.
abbrev pub LookAhead : ℕ → List Place → Type 0
LookAhead a places = (q : ℕ) (l : Look) (n : ℕ) → place_at places q ≡ guard l n → looks_ahead l ≤ a

-- It is the least such number. If matches may be passed over, the byte at the end of a walk counts
-- too.
pub record IsLookahead (passes_over : Bool) (places : List Place) (a : ℕ) : Type 0 where
  pub looks : LookAhead a places
  pub passing : passes_over ≡ true → 1 ≤ a
  pub least : (b : ℕ) → LookAhead b places → (passes_over ≡ true → 1 ≤ b) → a ≤ b

-- If no match is longer than n bytes, one that begins at its least start is settled by at most
-- n + a bytes from there.
abbrev pub IsNearBy : MatchKind → Option ℕ → ℕ → Option Found → ℕ → Type 0
IsNearBy kind greatest a found r = IfSome found (λ m. (n : ℕ) → is_leftmost kind ≡ true →
    greatest ≡ Some n → r ≤ m.start + n + a)
