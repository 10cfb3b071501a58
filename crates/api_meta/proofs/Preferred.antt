-- What a regex of plain patterns finds is the preferred match, and captures hold its groups.
use Rattle.std.proofs.Common.{◌≡◌, ◌∙◌, ℕ, zero, suc, ◌+◌, ◌-◌, ◌*◌, ◌<◌, ◌≤◌, slice_get, List, [], ◌∷◌, length, map, take, Bool, true, false, IsTrue, Option, Some, None, ap, ap₂, sym, subst, refl, arith}
use Rattle.std.specs.Prelude.{All}
use Rattle.std.specs.Option.{option_map}
use Rattle.std.proofs.Math.Logic.{∥∥₁_elim}
use denote.Struct.Props.{props}
use Rattle.std.proofs.lemmas.List.{length-map, take-map}
use Rattle.std.proofs.lemmas.List.Elements.{All-weaker}
use Rattle.std.proofs.lemmas.List.Sums.{sum_by-cons}
use Rattle.rc_text.specs.Found.{Found}
use Rattle.rc_text.specs.Text.{Searched}
use Rattle.rc_text.specs.declared.types.MatchKind.TheVariants.{LeftmostFirst as leftmost_first}
use Rattle.rc_pattern.specs.Re.{Re, Range, empty, literal, byte_in, char_in, look, repeat, capture, cat, alt, none}
use Rattle.rc_pattern.specs.WellFormed.{AreAscending, HasBounds, IsWellFormed, group_names}
use Rattle.rc_captures.specs.Captures.{HasMatch, captures_names, match_of, span_of}
use Rattle.rc_captures.specs.Names.{explicit_len, first_slot, group_len, slots}
use Rattle.rc_captures.specs.declared.captures.Captures.{Captures}
use Rattle.rc_captures.proofs.Slots.{explicit_groups}
use Rattle.rc_captures.proofs.SlotsLaws.{slots_from, slots_pair}
use Rattle.rc_captures.proofs.CapturesLaws.{span-kept}
use Rattle.rc_program.specs.Answer.{Search, Chosen, answer, chosen, found, pattern_of, slot_of}
use Rattle.rc_program.specs.Kinds.{answer_by}
use Rattle.rc_program.specs.Laws.{IsNumbered, all_groups}
use Rattle.rc_program.specs.Sought.{Sought, search_for}
use Rattle.rc_parses.specs.Parses.{Parse, group_of}
use Rattle.rc_parses.specs.Preference.{ArePlain, IsPreferredMatch}
use Rattle.rc_parses.specs.Laws.{HasGroups, SeeksPlain, first_slot as group_slot}
use Rattle.rc_parses.proofs.LawLemmas.{preference_law}
use Rattle.rc_pikevm_search.specs.Tells.{TellsBy, TellsOf}
use Rattle.rc_build.specs.Names.{names_shown}
use Rattle.rc_build.proofs.NamesLemmas.{length-group_names, no_names}
use Rattle.api_meta.specs.Preferred.{HoldsGroups, HoldsPreferred, span_between}
use Rattle.api_meta.specs.Views.{regex_kind, regex_names, regex_patterns, sought}
use Rattle.api_meta.specs.declared.regex.Regex.{Regex}

-- that ranges ascend, and that bounds are in order, is one fact
ascending_prop : (from : ℕ) (rs : List Range) → IsProp (AreAscending from rs)
ascending_prop from [] = hlevel props
ascending_prop from (r ∷ rs) = hlevel (props, ascending_prop (r.1 + 1) rs)

pub bounds_prop : (h : Re) → IsProp (HasBounds h)
bounds_prop empty = hlevel props
bounds_prop (literal bs) = hlevel props
bounds_prop (byte_in rs) = ascending_prop 0 rs
bounds_prop (char_in rs) = ascending_prop 0 rs
bounds_prop (look l) = hlevel props
bounds_prop (repeat min None greedy a) = bounds_prop a
bounds_prop (repeat min (Some max) greedy a) = hlevel (props, bounds_prop a)
bounds_prop (capture n name a) = bounds_prop a
bounds_prop (cat a rest) = hlevel (props, bounds_prop a, bounds_prop rest)
bounds_prop (alt a rest) = hlevel (props, bounds_prop a, bounds_prop rest)
bounds_prop none = hlevel props

-- plain patterns that are well-formed
seeks : (q : Sought) → ∥ All IsWellFormed q.patterns ∥₁ → ArePlain q.patterns → SeeksPlain q
seeks q ok plain = record {
  bounded = ∥∥₁_elim ok (hlevel (props, bounds_prop)) (All-weaker IsWellFormed HasBounds (λ h f. f.bounded) q.patterns);
  numbered = ∥∥₁_elim ok (hlevel props) (All-weaker IsWellFormed IsNumbered (λ h f. f.numbered) q.patterns);
  plain = plain;
}

-- where no groups are kept no pattern has an explicit one
bare : (hs : List Re) (p n : ℕ) → 1 ≤ n → n < group_len (map (λ _. []) hs) p → ⊥
bare [] p n l m = omega (arith, m)
bare (h ∷ hs) zero n l m = omega (arith, l, m)
bare (h ∷ hs) (suc p) n l m = bare hs p n l m

grouped_where : (grouped : Bool) (hs : List Re) (p n : ℕ) → 1 ≤ n → n < group_len (names_shown grouped hs) p → IsTrue grouped
grouped_where true hs p n l m = refl
grouped_where false hs p n l m = absurd (bare hs p n l (subst (λ ns. n < group_len ns p) (no_names hs) m))

named_groups : (hs : List Re) → explicit_len (map group_names hs) ≡ all_groups hs
named_groups [] = refl
named_groups (h ∷ hs) = sum_by-cons length (group_names h) (map group_names hs) ∙ ap₂ ◌+◌ (length-group_names h) (named_groups hs)

-- the slot of a group by its name's place is that by its number
same_slot : (hs : List Re) (p n : ℕ) → 1 ≤ n → first_slot (map group_names hs) p n ≡ 2 * length hs + 2 * all_groups (take p hs) + 2 * (n - 1)
same_slot hs p zero l = absurd (omega (arith, l))
same_slot hs p (suc n) l =
    let many = length-map hs group_names in
    let before = ap explicit_len (take-map group_names p hs) ∙ named_groups (take p hs) in
    omega (arith, many, before)

-- the span of a group by its bounds
both_ends : (o : Option (ℕ × ℕ)) →
    span_of (option_map (λ (r : ℕ × ℕ). r.0) o) (option_map (λ (r : ℕ × ℕ). r.1) o) ≡ option_map span_between o
both_ends None = refl
both_ends (Some r) = refl

answer_is : (s : Search) → answer s ≡ option_map (found s) (chosen s)
unfolding answer
answer_is s = refl

abbrev match_at : ℕ → ℕ → ℕ → Found
match_at k x j = record { pattern = k; start = x; end = j }

module _ (q : Sought) (s : Searched) (caps : Captures) (named : captures_names caps ≡ names_shown q.grouped q.patterns) where
  -- where the slots are those of the parse's groups
  groups_held : (p : Parse) (c : Chosen) → p.pattern ≡ pattern_of (search_for q s) c → (IsTrue q.grouped → HasGroups q (search_for q s) p c) →
      HasMatch caps (pattern_of (search_for q s) c) (slot_of (search_for q s) c) → HoldsGroups caps p
  groups_held p c e has told n k =
      let all = grouped_where q.grouped q.patterns p.pattern n k.explicit (subst (λ ns. n < group_len ns p.pattern) named k.named) in
      let r = has all n k.explicit in
      let slot : first_slot (captures_names caps) p.pattern n ≡ group_slot q.patterns p + 2 * (n - 1) =
      ap (λ ns. first_slot ns p.pattern n) (named ∙ ap (λ x. names_shown x q.patterns) all) ∙ same_slot q.patterns p.pattern n k.explicit in
      let below = (slots_pair (captures_names caps) p.pattern n _ slots_are).1 in
      span-kept caps p.pattern (slot_of (search_for q s) c) n _ (subst (λ x. HasMatch caps x (slot_of (search_for q s) c)) (sym e) told) slots_are
      (subst (λ x. first_slot (captures_names caps) p.pattern n + 1 < x) (sym k.sized) below)
      ∙ ap₂ span_of (ap (slot_of (search_for q s) c) slot ∙ r.0) (ap (λ x. slot_of (search_for q s) c (x + 1)) slot ∙ r.1)
      ∙ both_ends (group_of n p.tree)
    where
      there : (gs : List (Option (List ℕ))) × (slice_get (captures_names caps) p.pattern ≡ Some gs) × (n ≤ length gs)
      there = explicit_groups (captures_names caps) p.pattern n k.named

      slots_are : slots (captures_names caps) p.pattern n ≡ Some (first_slot (captures_names caps) p.pattern n, first_slot (captures_names caps) p.pattern n + 1)
      slots_are = slots_from (captures_names caps) p.pattern n there.0 there.1 there.2

  holds : SeeksPlain q → (o : Option Chosen) → chosen (search_for q s) ≡ o → TellsOf (search_for q s) o caps → match_of caps ≡ option_map (found (search_for q s)) o →
      HoldsPreferred q s caps
  holds ok None e told matched =
      rw matched ((preference_law.answered q s ok None).0 (answer_is (search_for q s) ∙ ap (option_map (found (search_for q s))) e))
  holds ok (Some c) e told matched =
      let r = preference_law.chosen_some q s ok c e in
      rw matched (r.0, r.1, ap₂ (λ k j. match_at k c.start j) r.2.pattern r.2.end, groups_held r.0 c (sym r.2.pattern) r.3 told)

module _ (r : Regex) (i : Searched) (kind : regex_kind r ≡ leftmost_first) (plain : ArePlain (regex_patterns r)) where
  -- its answer is the preferred match
  pub prefers : (o : Option Found) → o ≡ answer_by (regex_kind r) (search_for (sought r) i) → IsPreferredMatch (sought r) i o
  prefers o e =
      (preference_law.answered (sought r) i (seeks (sought r) r.well_formed plain) o).0
      (sym (e ∙ ap (λ k. answer_by k (search_for (sought r) i)) kind))

  -- captures that tell what it finds hold it, with its groups
  pub holds_groups : (caps : Captures) → captures_names caps ≡ regex_names r → TellsBy (regex_kind r) (search_for (sought r) i) caps →
      match_of caps ≡ answer_by (regex_kind r) (search_for (sought r) i) → HoldsPreferred (sought r) i caps
  holds_groups caps named told matched =
      holds (sought r) i caps named (seeks (sought r) r.well_formed plain) (chosen (search_for (sought r) i)) refl
      (subst (λ k. TellsBy k (search_for (sought r) i) caps) kind told)
      (matched ∙ ap (λ k. answer_by k (search_for (sought r) i)) kind ∙ answer_is (search_for (sought r) i))
