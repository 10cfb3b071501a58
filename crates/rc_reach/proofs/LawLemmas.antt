-- The law of reaches.
use Rattle.std.proofs.Common.{◌≡◌, ℕ, ◌≤◌, List, take, Option, Some, None, sym, ap, ap₂, ◌∙◌, refl, arith, take-take}
use Rattle.std.specs.Option.{option_map}
use Rattle.rc_program.specs.Answer.{Search, Chosen, answer, chosen, found, last_of, pattern_at}
use Rattle.rc_program.specs.Program.{place_at}
use Rattle.rc_text.specs.declared.types.MatchKind.{MatchKind}
use Rattle.rc_text.specs.declared.types.MatchKind.TheVariants.{LeftmostFirst as leftmost_first, LeftmostLongest as leftmost_longest, All as all_matches}
use Rattle.rc_text.specs.Found.{Found}
use Rattle.rc_reach.specs.Settled.{AgreesBelow, IsSettled, IsWalkSettled}
use Rattle.rc_reach.specs.Alike.{chosen_further}
use Rattle.rc_reach.specs.Edits.{match_further}
use Rattle.rc_reach.specs.Laws.{ReachLaw}
use Rattle.rc_reach.proofs.AgreeLemmas.{alike, chosen_stays}
use Rattle.rc_program.specs.Longest.{longest_chosen, longest}
use Rattle.rc_reach.proofs.AlikeLemmas.{same_chosen}
use Rattle.rc_reach.proofs.LongestLemmas.{same_longest_chosen}
use Rattle.rc_program.specs.Greatest.{greatest}
use Rattle.rc_reach.proofs.GreatestLemmas.{same_greatest}

pub all_stay : (o : Option Chosen) → option_map (chosen_further 0) o ≡ o
all_stay None = refl
all_stay (Some c) = ap Some (chosen_stays c)

match_stays : (m : Found) → match_further 0 m ≡ m
match_stays m = ap₂ (λ x y. let r : Found = record { pattern = m.pattern; start = x; end = y } in r) (omega arith) (omega arith)

pub matches_stay : (o : Option Found) → option_map (match_further 0) o ≡ o
matches_stay None = refl
matches_stay (Some m) = ap Some (match_stays m)

-- what agrees below q agrees below r
take_less : (xs ys : List ℕ) (r q : ℕ) → r ≤ q → take q xs ≡ take q ys → take r xs ≡ take r ys
take_less xs ys r q h e = sym (take-take r q xs h) ∙ ap (take r) e ∙ take-take r q ys h

agrees_less : (s t : Search) (r q : ℕ) → r ≤ q → AgreesBelow q s t → AgreesBelow r s t
agrees_less s t r q h a = record {
  places = a.places;
  terminator = a.terminator;
  slice_start = a.slice_start;
  lo = a.lo;
  anchoring = a.anchoring;
  passes_over = a.passes_over;
  read = take_less (take t.hi t.text.content) (take s.hi s.text.content) r q h a.read;
  seen = take_less (take t.text.slice_end t.text.content) (take s.text.slice_end s.text.content) r q h a.seen;
  content = take_less t.text.content s.text.content r q h a.content;
}

-- one program, one match of a walk
matches_same : (s t : Search) (o : Option Chosen) → t.places ≡ s.places → option_map (found t) o ≡ option_map (found s) o
matches_same s t o e =
    ap (λ places. option_map (λ (c : Chosen). let m : Found = record {
      pattern = pattern_at (place_at places (last_of c.walk).0);
      start = c.start;
      end = (last_of c.walk).1;
    } in m) o) e

match_settled : (kind : MatchKind) (s : Search) (r : ℕ) → IsWalkSettled kind r s → IsSettled kind r s
unfolding answer longest
match_settled leftmost_first s r h = λ t inside agrees. ap (option_map (found t)) (h t inside agrees) ∙ matches_same s t (chosen s) agrees.places
match_settled leftmost_longest s r h =
    λ t inside agrees.
    ap (option_map (found t)) (h t inside agrees) ∙ matches_same s t (longest_chosen s) agrees.places
match_settled all_matches s r h = h

more_settled : (kind : MatchKind) (s : Search) (r q : ℕ) → r ≤ q → IsWalkSettled kind r s → IsWalkSettled kind q s
more_settled leftmost_first s r q h settled = λ t b agrees. settled t b (agrees_less s t r q h agrees)
more_settled leftmost_longest s r q h settled = λ t b agrees. settled t b (agrees_less s t r q h agrees)
more_settled all_matches s r q h settled = λ t b agrees. settled t b (agrees_less s t r q h agrees)

pub reach_law : ReachLaw
reach_law = record {
  preferred = λ s r a known t b agrees. same_chosen s t 0 0 r (alike s t r a b agrees) (omega arith) known ∙ all_stay (chosen s);
  longest = λ s r a known t b agrees. same_longest_chosen s t 0 0 r (alike s t r a b agrees) (omega arith) known ∙ all_stay (longest_chosen s);
  greatest = λ s r a known t b agrees. same_greatest s t 0 0 r (alike s t r a b agrees) (omega arith) known ∙ matches_stay (greatest s);
  match = match_settled;
  more = more_settled;
}
