-- Only proofs use this file.
-- Prefilters: what a search may go by from needle to needle.
use Rattle.std.specs.Prelude.{◌≡◌, ℕ, ◌<◌, ◌≤◌, ◌⊎◌, Bool, false, List, Some, slice_get}
use Rattle.rc_program.specs.Program.{Place}
use Rattle.rc_needles.specs.Guards.{Guards}
use Rattle.rc_needles.specs.Prefilters.{needles_of}
use Rattle.rc_literals.specs.Needs.{Confines, IsBehindStop, is_stop}
use Rattle.rc_literals.specs.declared.guard.Guard.{Guard}
use Rattle.rc_literals.specs.declared.guard.Guard.TheVariants.{Begins, Holds}
use Rattle.rc_literals.specs.declared.guard.Start.{Start}

-- The needles that it goes by, in order.
abbrev pub guard_needles : Guard → List (List ℕ)
guard_needles (Begins p) = needles_of p.now
guard_needles (Holds n) = needles_of n.now.needles

-- It may be relied on in searches by the program.
abbrev pub IsGuard : List Place → ℕ → Guard → Type 0
IsGuard places terminator (Begins p) = Guards places terminator (needles_of p.now)
IsGuard places terminator (Holds n) = Confines places terminator (needles_of n.now.needles) n.now.stops.table

-- No byte from the first position to the second is one of the set.
abbrev pub HasNoStop : List Bool → List ℕ → ℕ → ℕ → Type 0
HasNoStop stops content from to = (x b : ℕ) → from ≤ x → x < to → slice_get content x ≡ Some b → is_stop stops b ≡ false

-- It is the least position, `at` or later, from which no byte of the set comes before the needle.
pub record IsBehind (stops : List Bool) (content : List ℕ) (at needle from : ℕ) : Type 0 where
  pub none : HasNoStop stops content from needle
  pub least : (from ≡ at) ⊎ IsBehindStop stops content from

-- Where a search begins for a needle: there, or after the last byte before it that no match
-- contains.
abbrev pub BeginsFor : Guard → List ℕ → ℕ → Start → Type 0
BeginsFor (Begins p) content at s = s.from ≡ s.needle
BeginsFor (Holds n) content at s = IsBehind n.now.stops.table content at s.needle s.from
