-- What replaces the match that captures hold.
use Rattle.std.proofs.Common.{◌≡◌, ◌≢◌, ◌∙◌, ℕ, List, Option, None, Some, ap, refl, subst, sym}
use Rattle.std.specs.Option.{option_map}
use Rattle.std.proofs.lemmas.Option.{none-some}
use Rattle.rc_text.specs.Found.{Found}
use Rattle.rc_text.specs.declared.types.MatchKind.{MatchKind}
use Rattle.rc_text.specs.declared.types.MatchKind.TheVariants.{All as all_matches, LeftmostFirst as leftmost_first, LeftmostLongest as leftmost_longest}
use Rattle.rc_program.specs.Answer.{Chosen, Search, answer, chosen, found, pattern_of, slot_of}
use Rattle.rc_program.specs.Kinds.{answer_by}
use Rattle.rc_program.specs.Longest.{longest, longest_chosen}
use Rattle.rc_captures.specs.Captures.{HasMatch}
use Rattle.rc_captures.specs.Names.{Names}
use Rattle.rc_captures.specs.declared.captures.Captures.{Captures}
use Rattle.rc_pikevm_search.specs.Tells.{KeepsAll, TellsBy, TellsOf}
use Rattle.rc_pikevm_search.specs.Walks.{chosen_by}
use Rattle.api_meta.specs.Views.{regex_kind, regex_names}
use Rattle.api_meta.specs.declared.regex.Regex.{Regex}
use Rattle.chunk_replace.specs.Replaced.{replacement}
use Rattle.chunk_replace.specs.Template.{Item, IsReadAs}
use Rattle.searcher.specs.Answers.{answer_in, search_in}
use Rattle.searcher.specs.Places.{found_at}
use Rattle.searcher.specs.declared.answers.MatchAt.{MatchAt}
use Rattle.zorfelith_c.specs.Replacing.{IsOneMade}

-- the walk of a match, which the captures hold
abbrev Walked : Search → Captures → Option Chosen → Type 0
Walked s caps o = (walk : Chosen) × (o ≡ Some walk) × HasMatch caps (pattern_of s walk) (slot_of s walk)

by_walk : (s : Search) (caps : Captures) (m : Found) (o z : Option Chosen) → z ≡ o → TellsOf s z caps → option_map (found s) z ≡ Some m → Walked s caps z
by_walk s caps m None z e told is = absurd (none-some m (sym (ap (option_map (found s)) e) ∙ is))
by_walk s caps m (Some c) z e told is = (c, e, subst (λ o. TellsOf s o caps) e told)

walk_of : (s : Search) (caps : Captures) (m : Found) (kind : MatchKind) → kind ≢ all_matches → TellsBy kind s caps → answer_by kind s ≡ Some m →
    Walked s caps (chosen_by kind s)
unfolding answer longest
walk_of s caps m leftmost_first free told is = by_walk s caps m (chosen s) (chosen s) refl told is
walk_of s caps m leftmost_longest free told is = by_walk s caps m (longest_chosen s) (longest_chosen s) refl told is
walk_of s caps m all_matches free told is = absurd (free refl)

-- the bytes are what the template puts in its place
pub one_made : (r : Regex) (text : List ℕ) (start : ℕ) (template : List ℕ) (items : List Item) (caps : Captures) (m : Found) (at : MatchAt) (bytes : List ℕ) →
    IsReadAs items template → regex_kind r ≢ all_matches → TellsBy (regex_kind r) (search_in r text start 18446744073709551615) caps →
    KeepsAll (regex_names r) caps → Some m ≡ answer_in r text start 18446744073709551615 → found_at at ≡ m →
    ((names : Names) (s : Search) (walk : Chosen) → KeepsAll names caps → HasMatch caps (pattern_of s walk) (slot_of s walk) →
    bytes ≡ replacement text names s items walk) →
    IsOneMade r text start template bytes at
one_made r text start template items caps m at bytes read free told keeps is at_is put =
    let s = search_in r text start 18446744073709551615 in
    let w = walk_of s caps m (regex_kind r) free told (sym is) in
    record {
      items = items;
      read = read;
      kind = free;
      found = sym is ∙ ap Some (sym at_is);
      walk = w.0;
      is_walk = w.1;
      made = put (regex_names r) s w.0 keeps w.2;
    }
