-- Reaches: how many bytes settle what a search finds.
use Rattle.std.specs.Prelude.{◌≡◌, ◌≢◌, ℕ, ◌+◌, ◌≤◌, All, IsTrue, List, Option, Some, None, IfSome}
use Rattle.rc_text.specs.Found.{Found}
use Rattle.rc_text.specs.Plain.{is_anchored}
use Rattle.rc_text.specs.Text.{Searched, low}
use Rattle.rc_text.specs.declared.types.MatchKind.{MatchKind}
use Rattle.rc_text.specs.declared.types.MatchKind.TheVariants.{All as all_matches}
use Rattle.rc_pattern.specs.Re.{Re}
use Rattle.rc_pattern.specs.Properties.{has_look}
use Rattle.rc_pattern.specs.declared.hir.Look.{Look}
use Rattle.rc_captures.specs.declared.captures.Captures.{Captures}
use Rattle.rc_program.specs.Answer.{Search}
use Rattle.rc_program.specs.Sought.{Sought, passes_over}
use Rattle.rc_pikevm_search.specs.Tells.{TellsBy}
use Rattle.rc_reach.specs.Laws.{greatest_len}
use Rattle.rc_reach.specs.Reads.{looks_ahead}
use Rattle.rc_reach.specs.Settled.{AgreesBelow, IsInside}

-- Each search that is the same below r has the match of the captures, with its groups.
abbrev pub TellsBelow : MatchKind → ℕ → Search → Captures → Type 0
TellsBelow kind r s caps = (t : Search) → IsInside t → AgreesBelow r s t → TellsBy kind t caps

-- If no pattern is longer than n bytes, a match that begins at its least start is settled n + 4
-- bytes from there.
abbrev pub IsNear : MatchKind → List Re → Option Found → ℕ → Type 0
IsNear kind hs found r =
    kind ≢ all_matches → IfSome found (λ m. (n : ℕ) → greatest_len hs ≡ Some n → r ≤ m.start + n + 4)

-- No assertion of the patterns looks at more than a bytes after its position. If matches may be
-- passed over, the byte after a match is looked at too.
pub record LooksAhead (q : Sought) (a : ℕ) : Type 0 where
  pub assertions : All (λ h. (l : Look) → IsTrue (has_look h l) → looks_ahead l ≤ a) q.patterns
  pub passing : IsTrue (passes_over q) → 1 ≤ a

-- If no pattern is longer than n bytes, and none looks at more than a bytes after a position, a
-- match that begins at its least start is settled n + a bytes from there.
abbrev pub IsSharp : MatchKind → Sought → Option Found → ℕ → Type 0
IsSharp kind q found r = kind ≢ all_matches → IfSome found
    (λ m. (n a : ℕ) → greatest_len q.patterns ≡ Some n → LooksAhead q a → r ≤ m.start + n + a)

-- If no pattern is longer than n bytes, that nothing matches at the start of an anchored search is
-- settled n + 4 bytes from there.
abbrev pub IsNearStart : List Re → Searched → Option Found → ℕ → Type 0
IsNearStart hs i found r = IsTrue (is_anchored i.anchored) → found ≡ None → (n : ℕ) →
    greatest_len hs ≡ Some n → r ≤ low i + n + 4
