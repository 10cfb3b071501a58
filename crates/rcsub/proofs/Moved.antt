-- A template puts the same for groups in the bytes that a stream keeps as for those in the whole text.
use Rattle.std.proofs.Common.{◌≡◌, ◌∙◌, ◌+◌, ◌-◌, ◌≤◌, ⊎_elim, ℕ, Bool, true, false, List, [], ◌∷◌, ◌++◌, Option, Some, None, if◌then◌else◌, ap, ap₂, arith, drop, length, map, nat_le, option_and_then, refl, slice_range, subst, sym, take, length-drop}
use Rattle.std.specs.List.{flat_map, slice_get}
use Rattle.std.specs.Option.{option_flatten, option_map}
use Rattle.std.proofs.lemmas.Bool.{cases_lt}
use Rattle.std.proofs.lemmas.Bool.Decides.{nat_tests}
use Rattle.std.proofs.lemmas.List.{drop-append-le, drop-drop, length-map, take-append-le}
use Rattle.std.proofs.lemmas.Option.{slice_get-map}
use Rattle.rc_text.specs.Found.{Found}
use Rattle.rc_text.specs.declared.types.Span.{Span}
use Rattle.rc_captures.specs.Captures.{HasMatch, captures_names, captures_pattern, captures_slots, group_span, match_at, match_of, named_span, slot_value, span_of}
use Rattle.rc_captures.specs.Names.{Names, slot_len, slots, to_index}
use Rattle.rc_captures.specs.declared.captures.Captures.{Captures}
use Rattle.rc_captures.proofs.CapturesLaws.{lent-written, span-absent, span-kept}
use Rattle.rc_captures.proofs.SlotsLaws.{slots_pair}
use Rattle.rc_program.specs.Answer.{Chosen, IsAnswer, Search, pattern_of, slot_of}
use Rattle.rc_program.proofs.AnswerLemmas.{chosen_within, slot_within}
use Rattle.rc_pikevm_search.specs.Tells.{KeepsAll}
use Rattle.rc_reach.specs.Edits.{match_further}
use Rattle.chunk_replace.specs.Replaced.{replacement}
use Rattle.chunk_replace.specs.Spans.{bytes_in}
use Rattle.chunk_replace.specs.Template.{Item, byte, group, named}
use Rattle.chunk_replace.specs.Told.{told}
use Rattle.chunk_replace.proofs.Groups.{items_told}
use Rattle.stream_search.specs.Groups.{captures_further, slot_further}

-- ---- groups, so many bytes further on

abbrev pub span_further : ℕ → Span → Span
span_further d s = record { start = s.start + d; end = s.end + d }

abbrev found_at : ℕ → ℕ → ℕ → Found
found_at q a b = record { pattern = q; start = a; end = b }

spans : (d : ℕ) (a b : Option ℕ) → span_of (slot_further d a) (slot_further d b) ≡ option_map (span_further d) (span_of a b)
spans d None b = refl
spans d (Some x) None = refl
spans d (Some x) (Some y) = refl

flat_further : (d : ℕ) (o : Option (Option ℕ)) → option_flatten (option_map (slot_further d) o) ≡ slot_further d (option_flatten o)
flat_further d None = refl
flat_further d (Some o) = refl

module _ (d : ℕ) (caps : Captures) where
  moved : captures_slots (captures_further d caps) ≡ map (slot_further d) (captures_slots caps)
  moved = lent-written caps (map (slot_further d) (captures_slots caps)) (length-map (captures_slots caps) (slot_further d))

  value : (k : ℕ) → slot_value (captures_slots (captures_further d caps)) k ≡ slot_further d (slot_value (captures_slots caps) k)
  value k =
      ap (λ xs. option_flatten (slice_get xs k)) moved ∙ ap option_flatten (slice_get-map (slot_further d) (captures_slots caps) k)
      ∙ flat_further d (slice_get (captures_slots caps) k)

  pair : (o : Option (ℕ × ℕ)) →
      option_and_then (λ s. span_of (slot_value (captures_slots (captures_further d caps)) s.0) (slot_value (captures_slots (captures_further d caps)) s.1)) o
      ≡ option_map (span_further d) (option_and_then (λ s. span_of (slot_value (captures_slots caps) s.0) (slot_value (captures_slots caps) s.1)) o)
  pair None = refl
  pair (Some s) = ap₂ span_of (value s.0) (value s.1) ∙ spans d (slot_value (captures_slots caps) s.0) (slot_value (captures_slots caps) s.1)

  group_by : (p : Option ℕ) (g : ℕ) →
      option_and_then (λ q. option_and_then (λ s. span_of (slot_value (captures_slots (captures_further d caps)) s.0) (slot_value (captures_slots (captures_further d caps)) s.1)) (slots (captures_names caps) q g)) p
      ≡ option_map (span_further d) (option_and_then (λ q. option_and_then (λ s. span_of (slot_value (captures_slots caps) s.0) (slot_value (captures_slots caps) s.1)) (slots (captures_names caps) q g)) p)
  group_by None g = refl
  group_by (Some q) g = pair (slots (captures_names caps) q g)

  pub group_further : (g : ℕ) → group_span (captures_further d caps) g ≡ option_map (span_further d) (group_span caps g)
  group_further g = group_by (captures_pattern caps) g

  index_by : (o : Option ℕ) → option_and_then (group_span (captures_further d caps)) o ≡ option_map (span_further d) (option_and_then (group_span caps) o)
  index_by None = refl
  index_by (Some g) = group_further g

  name_by : (p : Option ℕ) (name : List ℕ) →
      option_and_then (λ q. option_and_then (group_span (captures_further d caps)) (to_index (captures_names caps) q name)) p
      ≡ option_map (span_further d) (option_and_then (λ q. option_and_then (group_span caps) (to_index (captures_names caps) q name)) p)
  name_by None name = refl
  name_by (Some q) name = index_by (to_index (captures_names caps) q name)

  name_further : (name : List ℕ) → named_span (captures_further d caps) name ≡ option_map (span_further d) (named_span caps name)
  name_further name = name_by (captures_pattern caps) name

  le_further : (a b : ℕ) → nat_le (a + d) (b + d) ≡ nat_le a b
  le_further a b = grind (arith, nat_tests)

  match_if : (q a b : ℕ) (t : Bool) → (if t then Some (match_further d (found_at q a b)) else None) ≡ option_map (match_further d) (if t then Some (found_at q a b) else None)
  match_if q a b true = refl
  match_if q a b false = refl

  match_by : (q : ℕ) (o : Option Span) →
      option_and_then (match_at q) (option_map (span_further d) o) ≡ option_map (match_further d) (option_and_then (match_at q) o)
  match_by q None = refl
  match_by q (Some s) =
      ap (λ t. if t then Some (match_further d (found_at q s.start s.end)) else None) (le_further s.start s.end) ∙ match_if q s.start s.end (nat_le s.start s.end)

  match_of_by : (p : Option ℕ) → option_and_then (λ q. option_and_then (match_at q) (group_span (captures_further d caps) 0)) p
      ≡ option_map (match_further d) (option_and_then (λ q. option_and_then (match_at q) (group_span caps 0)) p)
  match_of_by None = refl
  match_of_by (Some q) = ap (option_and_then (match_at q)) (group_further 0) ∙ match_by q (group_span caps 0)

  pub match_of_further : match_of (captures_further d caps) ≡ option_map (match_further d) (match_of caps)
  match_of_further = match_of_by (captures_pattern caps)

  pub keeps_further : (names : Names) → KeepsAll names caps → KeepsAll names (captures_further d caps)
  keeps_further names kept = record {
    named = kept.named;
    sized = ap (λ (xs : List (Option ℕ)). length xs) moved ∙ length-map (captures_slots caps) (slot_further d) ∙ kept.sized;
  }

-- ---- the bytes of spans

-- a range of the bytes that are kept
pub kept_range : (fed more : List ℕ) (d a b : ℕ) → d ≤ length fed → b ≤ length (drop d fed) →
    slice_range (drop d fed) a b ≡ slice_range (fed ++ more) (a + d) (b + d)
kept_range fed more d a b inside end =
    let l = length-drop d fed in
    ⊎_elim
    (λ lt.
    let e : (b + d) - (a + d) ≡ b - a = omega arith in
    let n = length-drop (a + d) fed in
    let o : d + a ≡ a + d = omega arith in
    ap (take (b - a)) (drop-drop a d fed ∙ ap (λ k. drop k fed) o)
    ∙ sym (take-append-le (b - a) (drop (a + d) fed) more (omega (arith, n, l, end, inside, lt)))
    ∙ ap (take (b - a)) (sym (drop-append-le (a + d) fed more (omega (arith, l, end, inside, lt))))
    ∙ ap (λ k. take k (drop (a + d) (fed ++ more))) (sym e))
    (λ ge.
    let e : b - a ≡ 0 = omega (arith, ge) in
    let f : (b + d) - (a + d) ≡ 0 = omega (arith, ge) in
    ap (λ k. take k (drop a (drop d fed))) e ∙ ap (λ k. take k (drop (a + d) (fed ++ more))) (sym f))
    (cases_lt a (b + 1))

-- what holds of a span if there is one
abbrev EndsBy : ℕ → Option Span → Type 0
EndsBy n None = Unit {0}
EndsBy n (Some s) = s.end ≤ n

module _ (fed more : List ℕ) (d : ℕ) (inside : d ≤ length fed) where
  bytes_further : (o : Option Span) → EndsBy (length (drop d fed)) o → bytes_in (drop d fed) o ≡ bytes_in (fed ++ more) (option_map (span_further d) o)
  bytes_further None end = refl
  bytes_further (Some s) end = kept_range fed more d s.start s.end inside end

  -- the groups of a match in the kept bytes end in them
  module _ (names : Names) (caps : Captures) (s : Search) (c : Chosen) (kept : KeepsAll names caps) (has : HasMatch caps (pattern_of s c) (slot_of s c))
      (is : IsAnswer s c) (far : s.hi ≤ length (drop d fed)) where
    slot_ends : (k : ℕ) (a b : Option ℕ) → b ≡ slot_of s c k → EndsBy (length (drop d fed)) (span_of a b)
    slot_ends k None b e = tt
    slot_ends k (Some x) None e = tt
    slot_ends k (Some x) (Some y) e =
        let h = slot_within s c is k y (sym e) in let w = chosen_within s c is in omega (arith, h.1, w.2, far)

    ends_by : (g : ℕ) (o : Option (ℕ × ℕ)) → slots (captures_names caps) (pattern_of s c) g ≡ o → EndsBy (length (drop d fed)) (group_span caps g)
    ends_by g None e = subst (EndsBy (length (drop d fed))) (sym (span-absent caps (pattern_of s c) (slot_of s c) g has e)) tt
    ends_by g (Some k) e =
        let p = slots_pair (captures_names caps) (pattern_of s c) g k e in
        subst (EndsBy (length (drop d fed)))
        (sym (span-kept caps (pattern_of s c) (slot_of s c) g k has e (omega (arith, p.1, kept.sized, ap slot_len kept.named))))
        (slot_ends k.1 (slot_of s c k.0) (slot_of s c k.1) refl)

    group_ends : (g : ℕ) → EndsBy (length (drop d fed)) (group_span caps g)
    group_ends g = ends_by g (slots (captures_names caps) (pattern_of s c) g) refl

    index_ends : (o : Option ℕ) → EndsBy (length (drop d fed)) (option_and_then (group_span caps) o)
    index_ends None = tt
    index_ends (Some g) = group_ends g

    name_ends : (p : Option ℕ) (name : List ℕ) →
        EndsBy (length (drop d fed)) (option_and_then (λ q. option_and_then (group_span caps) (to_index (captures_names caps) q name)) p)
    name_ends None name = tt
    name_ends (Some q) name = index_ends (to_index (captures_names caps) q name)

    item_further : (i : Item) → told (drop d fed) caps i ≡ told (fed ++ more) (captures_further d caps) i
    item_further (byte b) = refl
    item_further (group n) = bytes_further (group_span caps n) (group_ends n) ∙ ap (bytes_in (fed ++ more)) (sym (group_further d caps n))
    item_further (named name) =
        bytes_further (named_span caps name) (name_ends (captures_pattern caps) name) ∙ ap (bytes_in (fed ++ more)) (sym (name_further d caps name))

    told_further : (items : List Item) → flat_map (told (drop d fed) caps) items ≡ flat_map (told (fed ++ more) (captures_further d caps)) items
    told_further [] = refl
    told_further (i ∷ items) = ap₂ (λ a b. a ++ b) (item_further i) (told_further items)

    -- the template puts the same for a match of the kept bytes and for that match in the whole text
    pub same_replacement : (t : Search) (b : Chosen) (items : List Item) → HasMatch (captures_further d caps) (pattern_of t b) (slot_of t b) →
        replacement (drop d fed) names s items c ≡ replacement (fed ++ more) names t items b
    same_replacement t b items there =
        let moves = keeps_further d caps names kept in
        sym (items_told names caps s c kept.named kept.sized has (drop d fed) items) ∙ told_further items
        ∙ items_told names (captures_further d caps) t b moves.named moves.sized there (fed ++ more) items
