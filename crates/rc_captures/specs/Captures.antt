-- What contracts see of captures, and what they tell of a match.
use Rattle.std.specs.Prelude.{◌≡◌, ◌⊎◌, ℕ, ◌<◌, List, length, Option, Some, None, slice_get, option_map, option_and_then, if◌then◌else◌, nat_le}
use Rattle.std.specs.Option.{option_flatten, option_zip}
use Rattle.rc_text.specs.declared.types.Span.{Span}
use Rattle.rc_text.specs.Found.{Found}
use Rattle.rc_captures.specs.Names.{Names, IsSlotOf, slots, slot_len, implicit_slot_len, to_index}
use Rattle.rc_captures.specs.Groups.{names_of}
use Rattle.rc_captures.specs.declared.captures.Captures.{Captures}

-- for each pattern the names of its groups 1, 2, .. in order
abbrev pub captures_names : Captures → Names
captures_names c = names_of c.info

-- the pattern that matched
abbrev pub captures_pattern : Captures → Option ℕ
captures_pattern c = c.pattern

-- the slots that are kept
abbrev pub captures_slots : Captures → List (Option ℕ)
captures_slots c = c.slots.items

-- the position in a slot; `None` where the slot is empty or isn't there
abbrev pub slot_value : List (Option ℕ) → ℕ → Option ℕ
slot_value kept k = option_flatten (slice_get kept k)

-- from the one position to the other, where both are there
abbrev pub span_of : Option ℕ → Option ℕ → Option Span
span_of start end = option_map (λ p. record { start = p.0; end = p.1 }) (option_zip start end)

-- the span of a group of the pattern that matched
abbrev pub group_span : Captures → ℕ → Option Span
group_span c g = option_and_then (λ p. option_and_then (λ s. span_of (slot_value (captures_slots c) s.0) (slot_value (captures_slots c) s.1)) (slots (captures_names c) p g)) (captures_pattern c)

-- the span of the group of that name
abbrev pub named_span : Captures → List ℕ → Option Span
named_span c name = option_and_then (λ p. option_and_then (group_span c) (to_index (captures_names c) p name)) (captures_pattern c)

-- the match of a pattern at a span; a start above the end makes none
abbrev pub match_at : ℕ → Span → Option Found
match_at p s = if nat_le s.start s.end then Some (record { pattern = p; start = s.start; end = s.end }) else None

-- the pattern that matched with the span of its group 0
abbrev pub match_of : Captures → Option Found
match_of c = option_and_then (λ p. option_and_then (match_at p) (group_span c 0)) (captures_pattern c)

-- The captures are of patterns with these names: they keep all slots, or those of the whole matches alone.
pub record IsCapturesFor (names : Names) (c : Captures) : Type 0 where
  pub named : captures_names c ≡ names
  pub sized : (length (captures_slots c) ≡ slot_len names) ⊎ (length (captures_slots c) ≡ implicit_slot_len names)

-- The captures hold a match of pattern p: `found` says what stands in each of the pattern's slots that are kept.
pub record HasMatch (c : Captures) (p : ℕ) (found : ℕ → Option ℕ) : Type 0 where
  pub pattern : captures_pattern c ≡ Some p
  pub kept : (k : ℕ) → k < length (captures_slots c) → IsSlotOf (captures_names c) p k → slice_get (captures_slots c) k ≡ Some (found k)
