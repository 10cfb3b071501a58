-- Only proofs use this file.
-- Capture slots: those that places name, and whose places they are.
use Rattle.std.specs.Prelude.{◌≡◌, ℕ, ◌*◌, ◌≤◌, List, Option, IfSome}
use Rattle.rc_pattern.specs.Re.{Re}
use Rattle.rc_program.specs.Program.{Place, slot, place_at, program}
use Rattle.rc_onepass.specs.Rows.{IsOnePassOf}
use Rattle.rc_onepass.specs.declared.onepass.OnePass.{OnePass}

-- They only name slots of groups, which come after two for each of so many patterns.
abbrev pub NamesGroups : ℕ → List Place → Type 0
NamesGroups patterns places = (q k n : ℕ) → place_at places q ≡ slot k n → 2 * patterns ≤ k

-- They are the program of some patterns.
abbrev pub IsOfPatterns : List Place → Type 0
IsOfPatterns places = ∥ ((hs : List Re) × (places ≡ program hs)) ∥₁

-- If there is a one-pass DFA, it is that of the places.
abbrev pub MayBeOnePass : List Place → Option OnePass → Type 0
MayBeOnePass places onepass = IfSome onepass (IsOnePassOf places)
