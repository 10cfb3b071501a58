-- Only proofs use this file.
-- Searches that see the same, from one position up to another. The second sees it d bytes further
-- on.
use Rattle.std.specs.Prelude.{◌≡◌, ℕ, ◌+◌, ◌-◌, ◌<◌, ◌≤◌, map, take, slice_get}
use Rattle.rc_walks.specs.Walks.{Pair}
use Rattle.rc_program.specs.Text.{before_at, ahead, beyond}
use Rattle.rc_program.specs.Answer.{Search, Chosen}
use Rattle.rc_reach.specs.Reads.{IsKnownBelow}

pub record AreAlike (d low r : ℕ) (s t : Search) : Type 0 where
  pub places : t.places ≡ s.places
  pub terminator : t.text.terminator ≡ s.text.terminator
  pub anchoring : t.anchoring ≡ s.anchoring
  pub passes_over : t.passes_over ≡ s.passes_over
  pub lo : t.lo ≡ s.lo + d
  pub above : low ≤ s.lo
  -- The same positions are within the bounds.
  pub bound : (p : ℕ) → low ≤ p → p ≤ r → (p ≤ s.hi → p + d ≤ t.hi) × (p + d ≤ t.hi → p ≤ s.hi)
  pub before : (p : ℕ) → low ≤ p → p ≤ r → p ≤ s.hi → before_at t.text (p + d) ≡ before_at s.text p
  pub read : (p : ℕ) → low ≤ p → p ≤ r → p ≤ s.hi →
      take (r - p) (ahead t.text t.hi (p + d)) ≡ take (r - p) (ahead s.text s.hi p)
  pub seen : (p : ℕ) → low ≤ p → p ≤ r → p ≤ s.hi →
      take (r - p) (beyond t.text (p + d)) ≡ take (r - p) (beyond s.text p)
  pub content : (p : ℕ) → low ≤ p → p < r → p ≤ s.hi →
      slice_get t.text.content (p + d) ≡ slice_get s.text.content p

-- The pair, d bytes further on.
abbrev pub further : ℕ → Pair → Pair
further d n = (n.0, n.1 + d)

-- A start and its walk, d bytes further on.
abbrev pub chosen_further : ℕ → Chosen → Chosen
chosen_further d c = record { start = c.start + d; walk = map (further d) c.walk }

-- The pair is at `low` or later, and within the bound, and its ways are known.
abbrev pub IsSeen : Search → ℕ → ℕ → Pair → Type 0
IsSeen s low r n = (low ≤ n.1) × (n.1 ≤ s.hi) × IsKnownBelow s r n
