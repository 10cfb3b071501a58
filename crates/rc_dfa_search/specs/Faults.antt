-- Match errors: why a DFA search may end without an answer.
use Rattle.std.specs.Prelude.{◌≡◌, ℕ, ◌+◌, ◌<◌, ◌≤◌, Bool, false, ◌||◌, List, [], ◌∷◌, ◌⊎◌, Some, IsTrue, slice_get}
use Rattle.rc_pattern.specs.Re.{Re}
use Rattle.rc_pattern.specs.Properties.{has_look}
use Rattle.rc_pattern.specs.declared.hir.Look.{Look}
use Rattle.rc_text.specs.declared.types.MatchError.{MatchError}
use Rattle.rc_text.specs.declared.types.MatchError.TheVariants.{Quit, GaveUp}
use Rattle.rc_program.specs.Answer.{Search}
use Rattle.rc_program.specs.Program.{Place, choice, byte, branch, scalar, guard, slot, accept}
use Rattle.rc_determinize.specs.Sides.{is_unicode}

-- One of the patterns has an assertion that depends on Unicode's words.
abbrev pub SpeaksOfUnicode : List Re → Type 0
SpeaksOfUnicode [] = ⊥
SpeaksOfUnicode (h ∷ hs) = ((l : Look) × IsTrue (is_unicode l) × IsTrue (has_look h l)) ⊎ SpeaksOfUnicode hs

-- the assertion that stands at the place speaks of Unicode's words
abbrev pub speaks_at : Place → Bool
speaks_at (choice ns) = false
speaks_at (byte rs n) = false
speaks_at (branch ts) = false
speaks_at (scalar rs n) = false
speaks_at (guard l n) = is_unicode l
speaks_at (slot k n) = false
speaks_at (accept p) = false

-- some place of the program has such an assertion
abbrev pub speaks_of_unicode : List Place → Bool
speaks_of_unicode [] = false
speaks_of_unicode (p ∷ ps) = speaks_at p || speaks_of_unicode ps

-- The search may quit at the byte: an assertion of the patterns depends on Unicode's words, and so does one of the
-- program, and the byte isn't ASCII. The byte is at the offset, within what the search sees, and at most one byte outside its bounds.
pub record MayQuit (hs : List Re) (s : Search) (b p : ℕ) : Type 0 where
  pub unicode : SpeaksOfUnicode hs
  pub placed : IsTrue (speaks_of_unicode s.places)
  pub large : 128 ≤ b
  pub there : slice_get s.text.content p ≡ Some b
  pub inside : (s.text.slice_start ≤ p) × (p < s.text.slice_end)
  pub near : (s.lo ≤ p + 1) × (p ≤ s.hi)

-- The search quit at such a byte; or it gave up between its bounds and is one that may, out of
-- memory or not.
abbrev pub IsFault : List Re → Search → (Bool → Type 0) → MatchError → Type 0
IsFault hs s MayGiveUp (Quit b p) = MayQuit hs s b p
IsFault hs s MayGiveUp (GaveUp p memory) = (s.lo ≤ p) × (p ≤ s.hi) × MayGiveUp memory
