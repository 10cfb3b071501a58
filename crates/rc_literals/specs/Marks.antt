-- Only proofs use this file.
-- Overlapping search for exact literals: sets of patterns that have a match.
use Rattle.std.specs.Prelude.{◌≡◌, ◌↔◌, ◌⊎◌, ◌<◌, ◌≤◌, ℕ, Bool, true, List, length, slice_get, slice_index}
use Rattle.rc_pattern_set.specs.Sets.{Has}
use Rattle.rc_needles.specs.Needles.{stands_within}
use Rattle.rc_needles.specs.Tables.{numbered}
use Rattle.rc_literals.specs.Answers.{Owned}

-- The needle of this number is one of pattern p, and occurs at i.
pub record IsAt (o : Owned) (content : List ℕ) (hi i p number : ℕ) : Type 0 where
  pub there : number < length o.needles
  pub owned : slice_index o.owners number ≡ p
  pub stands : stands_within content hi i (numbered o.needles number) ≡ true

-- The set keeps what it had, and adds each pattern below its capacity of which a needle occurs at
-- some position from the first up to the second, excluded.
pub record AddsFrom (o : Owned) (content : List ℕ) (hi from to : ℕ) (old new : List Bool) : Type 0 where
  pub capacity : length new ≡ length old
  pub members : (p : ℕ) → Has new p ↔ (Has old p ⊎ ((p < length old)
      × (i : ℕ) × (from ≤ i) × (i < to) × (number : ℕ) × IsAt o content hi i p number))

-- One of them begins with the other: as far as both go, they have the same bytes.
abbrev pub AreRelated : List ℕ → List ℕ → Type 0
AreRelated xs ys = (k : ℕ) → k < length xs → k < length ys → slice_get xs k ≡ slice_get ys k

-- The set has the owner of each needle that is related to that of number n.
abbrev pub HasRelated : Owned → List Bool → ℕ → Type 0
HasRelated o set n = (k : ℕ) → k < length o.needles → AreRelated (numbered o.needles n) (numbered o.needles k) →
    Has set (slice_index o.owners k)

-- So it has for each needle whose number is noted.
abbrev pub AreDone : Owned → List ℕ → List Bool → Type 0
AreDone o notes set = (slot : ℕ) → slot < length notes → slice_index notes slot < length o.needles →
    HasRelated o set (slice_index notes slot)
