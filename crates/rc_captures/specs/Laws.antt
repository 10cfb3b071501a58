-- What holds of all groups and captures.
use Rattle.std.specs.Prelude.{◌≡◌, ◌≢◌, ◌⊎◌, ◌↔◌, ℕ, ◌+◌, ◌*◌, ◌<◌, ◌≤◌, List, length, Option, Some, None, slice_get}
use Rattle.rc_pattern.specs.WellFormed.{AreDistinct}
use Rattle.rc_captures.specs.Names.{Names, IsSlotOf, slots, slot_len, implicit_slot_len, to_index, to_name}
use Rattle.rc_captures.specs.Captures.{captures_names, captures_slots, span_of, group_span, match_of, IsCapturesFor, HasMatch}
use Rattle.rc_captures.specs.Lends.{with_slots}
use Rattle.rc_captures.specs.declared.captures.Captures.{Captures}

-- The slots below `slot_len` are shared out among the groups: each is one group's alone.
pub record SlotsLaw : Type 0 where
  pub pair : (names : Names) (p g : ℕ) (s : ℕ × ℕ) → slots names p g ≡ Some s → (s.1 ≡ s.0 + 1) × (s.1 < slot_len names)
  pub apart : (names : Names) (p g q h : ℕ) (s t : ℕ × ℕ) → slots names p g ≡ Some s → slots names q h ≡ Some t → (p ≢ q) ⊎ (g ≢ h) → (s.1 < t.0) ⊎ (t.1 < s.0)
  pub all : (names : Names) (k : ℕ) → k < slot_len names → (p : ℕ) × IsSlotOf names p k
  pub whole : (names : Names) (p g : ℕ) (s : ℕ × ℕ) → slots names p g ≡ Some s → (s.1 < implicit_slot_len names) ↔ (g ≡ 0)

-- A name gives the first group of that name, and where no name stands twice the two look-ups are inverse.
pub record NamesLaw : Type 0 where
  pub first : (names : Names) (p g : ℕ) (name : List ℕ) → to_index names p name ≡ Some g → (to_name names p g ≡ Some name) × ((k : ℕ) → k < g → to_name names p k ≢ Some name)
  pub none : (names : Names) (p : ℕ) (name : List ℕ) → to_index names p name ≡ None → (k : ℕ) → to_name names p k ≢ Some name
  pub inverse : (names : Names) (p g : ℕ) (gs : List (Option (List ℕ))) (name : List ℕ) → slice_get names p ≡ Some gs → AreDistinct gs → (to_index names p name ≡ Some g) ↔ (to_name names p g ≡ Some name)

-- Captures that hold a match answer it, and the spans of its groups, as far as their slots are kept.
pub record MatchLaw : Type 0 where
  pub kept : (c : Captures) (p : ℕ) (found : ℕ → Option ℕ) (g : ℕ) (s : ℕ × ℕ) → HasMatch c p found → slots (captures_names c) p g ≡ Some s → s.1 < length (captures_slots c) → group_span c g ≡ span_of (found s.0) (found s.1)
  pub left_out : (c : Captures) (p : ℕ) (found : ℕ → Option ℕ) (g : ℕ) (s : ℕ × ℕ) → HasMatch c p found → slots (captures_names c) p g ≡ Some s → length (captures_slots c) ≤ s.1 → group_span c g ≡ None
  pub absent : (c : Captures) (p : ℕ) (found : ℕ → Option ℕ) (g : ℕ) → HasMatch c p found → slots (captures_names c) p g ≡ None → group_span c g ≡ None
  pub whole : (names : Names) (c : Captures) (p : ℕ) (found : ℕ → Option ℕ) (start end : ℕ) → IsCapturesFor names c → HasMatch c p found → p < length names → found (2 * p) ≡ Some start → found (2 * p + 1) ≡ Some end → start ≤ end → match_of c ≡ Some (record { pattern = p; start = start; end = end })

-- Captures whose slots were lent are of the same patterns as before, and keep what was written.
pub record LentLaw : Type 0 where
  pub same : (names : Names) (c : Captures) (written : List (Option ℕ)) → IsCapturesFor names c → IsCapturesFor names (with_slots c written)
  pub written : (c : Captures) (written : List (Option ℕ)) → length written ≡ length (captures_slots c) → captures_slots (with_slots c written) ≡ written
