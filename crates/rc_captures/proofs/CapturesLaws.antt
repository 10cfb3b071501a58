-- What captures tell of a match, and what lending their slots leaves.
use Rattle.std.proofs.Common.{◌+◌, ◌*◌, [], get_or, ◌≡◌, inl, inr, ℕ, ◌<◌, ◌≤◌, List, length, Option, Some, None, option_and_then, refl, ap, sym, ◌∙◌, arith}
use Rattle.std.specs.Option.{option_flatten}
use Rattle.std.specs.Vec.{with_items}
use Rattle.rc_text.specs.declared.types.Span.{Span}
use Rattle.std.proofs.lemmas.Bool.Decides.{nat_tests}
use Rattle.std.proofs.lemmas.List.{with_items_is}
use Rattle.std.proofs.lemmas.Option.{slice_get_past, slice_get-get_or}
use Rattle.rc_captures.specs.Names.{Names, slots, implicit_slot_len}
use Rattle.rc_captures.specs.Captures.{captures_names, captures_pattern, captures_slots, slot_value, span_of, group_span, match_at, match_of, IsCapturesFor, HasMatch}
use Rattle.rc_captures.specs.Lends.{with_slots}
use Rattle.rc_captures.specs.declared.captures.Captures.{Captures}
use Rattle.rc_captures.proofs.SlotsLaws.{slots_pair, slots_from}

-- the span of a group by its slots
span_by : (c : Captures) (p g : ℕ) (o : Option (ℕ × ℕ)) → captures_pattern c ≡ Some p → slots (captures_names c) p g ≡ o → group_span c g ≡ option_and_then (λ s. span_of (slot_value (captures_slots c) s.0) (slot_value (captures_slots c) s.1)) o
span_by c p g o is slots_are =
    let at : ℕ × ℕ → Option Span = λ s. span_of (slot_value (captures_slots c) s.0) (slot_value (captures_slots c) s.1) in
    ap (option_and_then (λ q. option_and_then at (slots (captures_names c) q g))) is ∙ ap (option_and_then at) slots_are

-- a span has both ends
span_of-none : (start : Option ℕ) → span_of start None ≡ None
span_of-none None = refl
span_of-none (Some n) = refl

-- a group whose slots are kept has the span that was found
pub span-kept : (c : Captures) (p : ℕ) (found : ℕ → Option ℕ) (g : ℕ) (s : ℕ × ℕ) → HasMatch c p found → slots (captures_names c) p g ≡ Some s → s.1 < length (captures_slots c) → group_span c g ≡ span_of (found s.0) (found s.1)
span-kept c p found g s has is below =
    let pair = slots_pair (captures_names c) p g s is in
    let start : slot_value (captures_slots c) s.0 ≡ found s.0 = ap option_flatten (has.kept s.0 (omega arith) (g, s, is, inl refl)) in
    let end : slot_value (captures_slots c) s.1 ≡ found s.1 = ap option_flatten (has.kept s.1 below (g, s, is, inr refl)) in
    span_by c p g (Some s) has.pattern is ∙ ap (λ n. span_of n (slot_value (captures_slots c) s.1)) start ∙ ap (span_of (found s.0)) end

-- a group whose slots are not kept is absent
pub span-left_out : (c : Captures) (p : ℕ) (found : ℕ → Option ℕ) (g : ℕ) (s : ℕ × ℕ) → HasMatch c p found → slots (captures_names c) p g ≡ Some s → length (captures_slots c) ≤ s.1 → group_span c g ≡ None
span-left_out c p found g s has is above =
    let end : slot_value (captures_slots c) s.1 ≡ None = ap option_flatten (slice_get_past (captures_slots c) s.1 above) in
    span_by c p g (Some s) has.pattern is ∙ ap (span_of (slot_value (captures_slots c) s.0)) end ∙ span_of-none (slot_value (captures_slots c) s.0)

-- a group that the pattern hasn't is absent
pub span-absent : (c : Captures) (p : ℕ) (found : ℕ → Option ℕ) (g : ℕ) → HasMatch c p found → slots (captures_names c) p g ≡ None → group_span c g ≡ None
span-absent c p found g has is = span_by c p g None has.pattern is

-- group 0 of a pattern that is there
whole_slots : (names : Names) (p : ℕ) → p < length names → slots names p 0 ≡ Some (2 * p, 2 * p + 1)
whole_slots names p inside = slots_from names p 0 (get_or names p []) (slice_get-get_or names p [] inside) (omega arith)

-- the slots of whole matches are always kept
whole_kept : (names : Names) (c : Captures) → IsCapturesFor names c → implicit_slot_len names ≤ length (captures_slots c)
whole_kept names c made = elim made.sized [ inl all ↦ omega arith | inr whole ↦ omega arith ]

-- a span in order makes a match
match_ordered : (p start end : ℕ) → start ≤ end → match_at p (record { start = start; end = end }) ≡ Some (record { pattern = p; start = start; end = end })
match_ordered p start end ordered = grind (arith, nat_tests)

-- the match by the span of its group 0
match_by : (c : Captures) (p start end : ℕ) → captures_pattern c ≡ Some p → group_span c 0 ≡ Some (record { start = start; end = end }) → start ≤ end → match_of c ≡ Some (record { pattern = p; start = start; end = end })
match_by c p start end is span ordered =
    ap (option_and_then (λ q. option_and_then (match_at q) (group_span c 0))) is ∙ ap (option_and_then (match_at p)) span ∙ match_ordered p start end ordered

-- captures that hold a match of a pattern that is there answer it
pub match-whole : (names : Names) (c : Captures) (p : ℕ) (found : ℕ → Option ℕ) (start end : ℕ) → IsCapturesFor names c → HasMatch c p found → p < length names → found (2 * p) ≡ Some start → found (2 * p + 1) ≡ Some end → start ≤ end → match_of c ≡ Some (record { pattern = p; start = start; end = end })
match-whole names c p found start end made has inside from to ordered =
    let at : slots (captures_names c) p 0 ≡ Some (2 * p, 2 * p + 1) = rw made.named (whole_slots names p inside) in
    let kept = whole_kept names c made in
    let span = span-kept c p found 0 (2 * p, 2 * p + 1) has at (omega arith) ∙ ap (λ n. span_of n (found (2 * p + 1))) from ∙ ap (span_of (Some start)) to in
    match_by c p start end has.pattern span ordered

-- captures with other slots are of the same patterns
pub lent-same : (names : Names) (c : Captures) (written : List (Option ℕ)) → IsCapturesFor names c → IsCapturesFor names (with_slots c written)
lent-same names c written made =
    let len : length (captures_slots (with_slots c written)) ≡ length (captures_slots c) = sym (with_items c.slots written).ok.0 ∙ c.slots.ok.0 in
    record { named = made.named; sized = elim made.sized [ inl all ↦ inl (len ∙ all) | inr whole ↦ inr (len ∙ whole) ] }

-- as many slots as there are stand as they were written
pub lent-written : (c : Captures) (written : List (Option ℕ)) → length written ≡ length (captures_slots c) → captures_slots (with_slots c written) ≡ written
lent-written c written same = with_items_is c.slots written (same ∙ sym c.slots.ok.0)
