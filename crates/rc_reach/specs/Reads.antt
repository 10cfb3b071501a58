-- Reading: what a search has to look at, by the trails of its program.
use Rattle.std.specs.Prelude.{ℕ, ◌+◌, ◌<◌, ◌≤◌, ◌⊎◌, List, [], ◌∷◌, Option, Some, None, IsTrue}
use Rattle.rc_pattern.specs.declared.hir.Look.{Look}
use Rattle.rc_pattern.specs.declared.hir.Look.TheVariants.{Start, StartLF, WordUnicode, WordUnicodeNegate, WordStartUnicode, WordEndUnicode, WordStartHalfAscii, WordStartHalfUnicode, WordEndHalfUnicode}
use Rattle.rc_walks.specs.Walks.{Pair}
use Rattle.rc_trails.specs.Trails.{AreSeen, AreSeenBy}
use Rattle.rc_program.specs.Program.{Place, choice, byte, branch, scalar, guard, slot, accept, place_at}
use Rattle.rc_program.specs.Answer.{Search, Chosen, IsStart, IsFirstFrom, HasNoWalkFrom, is_anchored, last_of, next_of}
use Rattle.rc_program.specs.Longest.{IsLongestFrom}

-- How many bytes after its position an assertion looks at, at most.
abbrev pub looks_ahead : Look → ℕ
looks_ahead Start = 0
looks_ahead StartLF = 0
looks_ahead WordStartHalfAscii = 0
looks_ahead WordStartHalfUnicode = 0
looks_ahead WordUnicode = 4
looks_ahead WordUnicodeNegate = 4
looks_ahead WordStartUnicode = 4
looks_ahead WordEndUnicode = 4
looks_ahead WordEndHalfUnicode = 4
looks_ahead l = 1

-- How many bytes after its position tell the ways out of a place.
abbrev pub sight : Place → ℕ
sight (choice ns) = 0
sight (byte rs n) = 1
sight (branch ts) = 1
sight (scalar rs n) = 4
sight (guard l n) = looks_ahead l
sight (slot k n) = 0
sight (accept p) = 0

-- The bytes before r tell the ways out of the pair.
abbrev pub IsKnownBelow : Search → ℕ → Pair → Type 0
IsKnownBelow s r n = n.1 + sight (place_at s.places n.0) ≤ r

-- The bytes before r tell what the start x gives. It has no walk, and each of its trails stays
-- below r. Or it has a first walk, each trail that comes no later stays below r, and so does the
-- byte at the end of the walk if matches may be passed over.
abbrev pub IsKnownStart : Search → ℕ → ℕ → Option (List Pair) → Type 0
IsKnownStart s r x None =
    HasNoWalkFrom s x × AreSeen (next_of s) [] ((0, x) ∷ []) (IsKnownBelow s r)
IsKnownStart s r x (Some w) =
    IsFirstFrom s x w × AreSeenBy (next_of s) [] ((0, x) ∷ []) w (IsKnownBelow s r)
    × (IsTrue s.passes_over → (last_of w).1 < r)

-- Each start up to x is known.
abbrev pub AreKnownStarts : Search → ℕ → ℕ → Type 0
AreKnownStarts s r x =
    (y : ℕ) → IsStart s y → y ≤ x → (o : Option (List Pair)) × IsKnownStart s r y o

-- The last start is known to be the last: the upper bound is below r, or there is one start alone.
abbrev pub IsBoundKnown : Search → ℕ → Type 0
IsBoundKnown s r = (s.hi < r) ⊎ (IsTrue (is_anchored s.anchoring) × (s.lo ≤ r))

-- The search for the preferred match reads below r alone: at each start up to that of the match,
-- or at all starts if there is none.
abbrev pub ReadsBelow : Search → ℕ → Option Chosen → Type 0
ReadsBelow s r (Some c) = AreKnownStarts s r c.start
ReadsBelow s r None = AreKnownStarts s r s.hi × IsBoundKnown s r

-- The bytes before r tell the longest walk of the start x: all its trails stay below r, and so
-- does the byte at the end of that walk if matches may be passed over.
abbrev pub IsKnownWholly : Search → ℕ → ℕ → Type 0
IsKnownWholly s r x =
    AreSeen (next_of s) [] ((0, x) ∷ []) (IsKnownBelow s r)
    × ((w : List Pair) → IsLongestFrom s x w → IsTrue s.passes_over → (last_of w).1 < r)

-- They tell it of each start up to x.
abbrev pub AreKnownWholly : Search → ℕ → ℕ → Type 0
AreKnownWholly s r x = (y : ℕ) → IsStart s y → y ≤ x → IsKnownWholly s r y

-- The search for the longest match reads below r alone.
abbrev pub ReadsAllBelow : Search → ℕ → Option Chosen → Type 0
ReadsAllBelow s r (Some c) = AreKnownWholly s r c.start
ReadsAllBelow s r None = AreKnownWholly s r s.hi × IsBoundKnown s r

-- The search for the greatest match reads below r alone: along all trails of all starts.
pub record ReadsWholeBelow (s : Search) (r : ℕ) : Type 0 where
  pub starts : (y : ℕ) → IsStart s y → AreSeen (next_of s) [] ((0, y) ∷ []) (IsKnownBelow s r)
  pub bound : IsBoundKnown s r
