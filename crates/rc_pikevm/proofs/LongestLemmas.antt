-- From passes for the longest walk to the answer of a search.
use Rattle.std.proofs.Common.{◌≡◌, ℕ, ◌+◌, ◌*◌, ◌≤◌, List, length, sym, ap, refl, false, Option, Some, None, option_map, is_some, slice_set}
use Rattle.std.proofs.lemmas.Option.{none-some}
use Rattle.rc_text.specs.Found.{Found}
use Rattle.rc_program.specs.Answer.{Search, Chosen, found}
use Rattle.rc_program.specs.Greatest.{IsSpelledIn, greatest}
use Rattle.rc_program.specs.Longest.{longest_chosen, longest, longest_groups}
use Rattle.rc_program.proofs.GreatestLemmas.{greatest_law, spelled_within}
use Rattle.rc_program.proofs.ReachLemmas.{longest_law}
use Rattle.rc_pikevm.specs.Found.{IsChosen}
use Rattle.rc_pikevm.specs.declared.pass.Ending.{Ending}
use Rattle.rc_pikevm.proofs.SearchLemmas.{found_is, slots_are}

module _ (s : Search) where
  -- The answer, once the walk is picked.
  pub longest_none : longest_chosen s ≡ None → longest s ≡ None
  unfolding longest
  longest_none e = ap (option_map (found s)) e

  module _ (e : Ending) (slots : List (Option ℕ)) (c : Chosen) (is : IsChosen s (longest_chosen s) e slots c) where
    pub longest_is : longest s ≡ Some (record { pattern = e.pattern; start = e.start; end = e.end })
    unfolding longest
    longest_is = found_is s (longest_chosen s) e slots c is

    pub within : (s.lo ≤ e.start) × (e.start ≤ e.end) × (e.end ≤ s.hi)
    within = spelled_within s (record { pattern = e.pattern; start = e.start; end = e.end }) (longest_law.spelled s _ longest_is)

    -- the pattern has a match place
    pub pattern_place : IsSpelledIn s (record { pattern = e.pattern; start = e.start; end = e.end })
    pattern_place = longest_law.spelled s _ longest_is

    -- with the whole match in its two slots, they are the groups
    pub longest_groups_are : (slots2 : List (Option ℕ)) →
        slots2 ≡ slice_set (slice_set slots (2 * e.pattern) (Some e.start)) (2 * e.pattern + 1) (Some e.end) → Some slots2 ≡ longest_groups s (length slots)
    unfolding longest_groups
    longest_groups_are slots2 same = slots_are s (longest_chosen s) e slots c is slots2 same

both_or_none : (a b : Option Found) → (a ≡ None → b ≡ None) → (b ≡ None → a ≡ None) → is_some a ≡ is_some b
both_or_none None None f g = refl
both_or_none (Some m) (Some n) f g = refl
both_or_none None (Some n) f g = absurd (none-some n (sym (f refl)))
both_or_none (Some m) None f g = absurd (none-some m (sym (g refl)))

-- where none is passed over, something is spelled exactly where there is a longest match
pub greatest_longest : (s : Search) → s.passes_over ≡ false → is_some (greatest s) ≡ is_some (longest s)
greatest_longest s off =
    both_or_none (greatest s) (longest s)
    (λ e. (longest_law.same_none s off).1 ((greatest_law.same_none s off).0 e))
    (λ e. (greatest_law.same_none s off).1 ((longest_law.same_none s off).0 e))
