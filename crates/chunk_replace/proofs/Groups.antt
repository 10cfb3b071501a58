-- The bytes for the items of a template, by what captures tell of a match.
use Rattle.std.proofs.Common.{◌≡◌, ◌∙◌, ℕ, List, [], ◌∷◌, ◌++◌, length, Option, Some, None, ap, refl, arith, option_and_then}
use Rattle.std.specs.List.{flat_map}
use Rattle.rc_captures.specs.Captures.{captures_names, captures_slots, group_span, named_span, span_of, HasMatch}
use Rattle.rc_captures.specs.Names.{Names, slot_len, slots, to_index}
use Rattle.rc_captures.specs.declared.captures.Captures.{Captures}
use Rattle.rc_captures.proofs.CapturesLaws.{span-absent, span-kept}
use Rattle.rc_captures.proofs.SlotsLaws.{slots_pair}
use Rattle.rc_program.specs.Answer.{Chosen, Search, pattern_of, slot_of}
use Rattle.chunk_replace.specs.Replaced.{group_in, item_bytes, named_in, replacement}
use Rattle.chunk_replace.specs.Spans.{bytes_in}
use Rattle.chunk_replace.specs.Template.{Item, byte, group, named}
use Rattle.chunk_replace.specs.Told.{told}

module _ (names : Names) (caps : Captures) (s : Search) (c : Chosen) (same : captures_names caps ≡ names) (sized : length (captures_slots caps) ≡ slot_len names)
    (has : HasMatch caps (pattern_of s c) (slot_of s c)) where
  spans_by : (g : ℕ) (o : Option (ℕ × ℕ)) → slots (captures_names caps) (pattern_of s c) g ≡ o →
      group_span caps g ≡ option_and_then (λ k. span_of (slot_of s c k.0) (slot_of s c k.1)) o
  spans_by g None is = span-absent caps (pattern_of s c) (slot_of s c) g has is
  spans_by g (Some k) is =
      let pair = slots_pair (captures_names caps) (pattern_of s c) g k is in
      span-kept caps (pattern_of s c) (slot_of s c) g k has is (omega (arith, pair.1, sized, ap slot_len same))

  span_told : (g : ℕ) → group_span caps g ≡ group_in names s c g
  span_told g =
      spans_by g (slots (captures_names caps) (pattern_of s c) g) refl
      ∙ ap (λ ns. option_and_then (λ k. span_of (slot_of s c k.0) (slot_of s c k.1)) (slots ns (pattern_of s c) g)) same

  each_told : (o : Option ℕ) → option_and_then (group_span caps) o ≡ option_and_then (group_in names s c) o
  each_told None = refl
  each_told (Some g) = span_told g

  name_told : (name : List ℕ) → named_span caps name ≡ named_in names s c name
  name_told name =
      ap (option_and_then (λ p. option_and_then (group_span caps) (to_index (captures_names caps) p name))) has.pattern
      ∙ ap (λ ns. option_and_then (group_span caps) (to_index ns (pattern_of s c) name)) same ∙ each_told (to_index names (pattern_of s c) name)

  item_told : (content : List ℕ) (i : Item) → told content caps i ≡ item_bytes content names s c i
  item_told content (byte b) = refl
  item_told content (group n) = ap (bytes_in content) (span_told n)
  item_told content (named name) = ap (bytes_in content) (name_told name)

  -- the captures tell what the match is replaced by
  pub items_told : (content : List ℕ) (items : List Item) → flat_map (told content caps) items ≡ replacement content names s items c
  items_told content [] = refl
  items_told content (i ∷ items) =
      ap (λ l. l ++ flat_map (told content caps) items) (item_told content i) ∙ ap (λ l. item_bytes content names s c i ++ l) (items_told content items)
