-- The walks of a list of matches, match by match.
use Rattle.std.proofs.Common.{◌≡◌, ◌≢◌, ◌∙◌, ◌+◌, ◌-◌, ◌≤◌, ℕ, zero, suc, Bool, true, false, List, [], ◌∷◌, map, Option, Some, None, if◌then◌else◌, ap, sym, subst, refl, arith}
use Rattle.std.specs.Option.{option_map}
use Rattle.std.proofs.lemmas.Option.{same_Some, none-some}
use Rattle.rc_text.specs.Found.{Found}
use Rattle.rc_text.specs.declared.types.MatchKind.{MatchKind}
use Rattle.rc_text.specs.declared.types.MatchKind.TheVariants.{All as all_matches, LeftmostFirst as leftmost_first, LeftmostLongest as leftmost_longest}
use Rattle.rc_captures.specs.declared.captures.Captures.{Captures}
use Rattle.rc_program.specs.Answer.{Search, Chosen, chosen, answer, found}
use Rattle.rc_program.specs.Kinds.{answer_by_from, matches_by_kind}
use Rattle.rc_program.specs.Longest.{longest, longest_chosen}
use Rattle.rc_program.specs.Matches
use Rattle.rc_program.specs.Matches.{begin_of, end_of, from_on, is_again, unless_again, next_match, matches_by, LiesWithin}
use Rattle.rc_program.proofs.AnswerLemmas.{chosen_law, chosen_within}
use Rattle.rc_program.proofs.GreatestLemmas.{spelled_within}
use Rattle.rc_program.proofs.ReachLemmas.{longest_law}
use Rattle.rc_pikevm_search.specs.Tells.{TellsBy, TellsOf}
use Rattle.rc_pikevm_search.specs.Walks.{walk_start, walk_end, chosen_by, chosen_from, walks_left, again, next_start, WalksLaw}
use Rattle.rc_pikevm_search.proofs.Anywhere.{by_some, by_none}

-- WALKS AND THEIR MATCHES, however they are looked for

module _ (s : Search) (find : ℕ → Option Chosen) where
  abbrev Finds : ℕ → Option Found
  Finds k = option_map (found s) (find k)

  -- the next match is that of the next walk
  unless_same : (k : ℕ) (last : Option ℕ) (o : Option Chosen) →
      unless_again begin_of end_of Finds k last (option_map (found s) o) ≡ option_map (found s) (unless_again walk_start walk_end find k last o)
  unless_same k last None = refl
  unless_same k None (Some c) = refl
  unless_same k (Some l) (Some c) = if_same (is_again walk_start walk_end (Some l) c)
    where
      if_same : (b : Bool) → (if b then Finds (k + 1) else Some (found s c)) ≡ option_map (found s) (if b then find (k + 1) else Some c)
      if_same true = refl
      if_same false = refl

  next_found : (k : ℕ) (last : Option ℕ) → next_match begin_of end_of Finds k last ≡ option_map (found s) (next_match walk_start walk_end find k last)
  next_found k last = unless_same k last (find k)

  -- it is looked for from `next_start` on
  start_same : (k : ℕ) (last : Option ℕ) (o : Option Chosen) → find k ≡ o →
      unless_again walk_start walk_end find k last o ≡ find (if again last (option_map (found s) o) then k + 1 else k)
  start_same k last None e = sym e
  start_same k None (Some c) e = sym e
  start_same k (Some l) (Some c) e = if_start (is_again walk_start walk_end (Some l) c)
    where
      if_start : (b : Bool) → (if b then find (k + 1) else Some c) ≡ find (if b then k + 1 else k)
      if_start true = refl
      if_start false = sym e

  next_begun : (k : ℕ) (last : Option ℕ) → next_match walk_start walk_end find k last ≡ find (if again last (Finds k) then k + 1 else k)
  next_begun k last = start_same k last (find k) refl

  -- the matches of the walks
  matched_on : (rest : Chosen → List Chosen) (more : Found → List Found) → ((c : Chosen) → map (found s) (rest c) ≡ more (found s c)) →
      (o : Option Chosen) → map (found s) (Matches.and_on walk_start walk_end find rest o) ≡ Matches.and_on begin_of end_of Finds more (option_map (found s) o)
  matched_on rest more same None = refl
  matched_on rest more same (Some c) = ap (λ ms. found s c ∷ ms) (same c)

  walks_matched : (n k : ℕ) (last : Option ℕ) → map (found s) (matches_by walk_start walk_end find n k last) ≡ matches_by begin_of end_of Finds n k last
  walks_matched zero k last = refl
  walks_matched (suc n) k last =
      matched_on (λ c. matches_by walk_start walk_end find n (walk_end c) (Some (walk_end c)))
      (λ m. matches_by begin_of end_of Finds n m.end (Some m.end)) (λ c. walks_matched n (walk_end c) (Some (walk_end c)))
      (next_match walk_start walk_end find k last)
      ∙ ap (Matches.and_on begin_of end_of Finds (λ m. matches_by begin_of end_of Finds n m.end (Some m.end))) (sym (next_found k last))

-- OF A KIND

pub next_same : (kind : MatchKind) (s : Search) (k : ℕ) (last : Option ℕ) → kind ≢ all_matches →
    next_match begin_of end_of (answer_by_from kind s) k last ≡ option_map (found s) (next_match walk_start walk_end (chosen_from kind s) k last)
unfolding answer longest
next_same all_matches s k last told = absurd (told refl)
next_same leftmost_first s k last told = next_found s (chosen_from leftmost_first s) k last
next_same leftmost_longest s k last told = next_found s (chosen_from leftmost_longest s) k last

pub next_started : (kind : MatchKind) (s : Search) (k : ℕ) (last : Option ℕ) → kind ≢ all_matches →
    next_match walk_start walk_end (chosen_from kind s) k last ≡ chosen_from kind s (next_start kind s k last)
unfolding answer longest
next_started all_matches s k last told = absurd (told refl)
next_started leftmost_first s k last told = next_begun s (chosen_from leftmost_first s) k last
next_started leftmost_longest s k last told = next_begun s (chosen_from leftmost_longest s) k last

chosen_lies : (kind : MatchKind) (s : Search) (c : Chosen) → chosen_by kind s ≡ Some c → (s.lo ≤ c.start) × (c.start ≤ walk_end c) × (walk_end c ≤ s.hi)
unfolding longest
chosen_lies all_matches s c e = absurd (none-some c e)
chosen_lies leftmost_first s c e = chosen_within s c ((chosen_law s c).0 e)
chosen_lies leftmost_longest s c e = spelled_within s (found s c) (longest_law.spelled s (found s c) (ap (option_map (found s)) e))

walks_lie : (kind : MatchKind) (s : Search) → LiesWithin walk_start walk_end (chosen_from kind s) s.text.slice_start s.hi
walks_lie kind s k c e = let h = chosen_lies kind (from_on s k) c e in (omega (arith, h.0), omega (arith, h.0), h.1, h.2)

-- where the search starts doesn't matter to a list from elsewhere on
pub walks_from : (kind : MatchKind) (s : Search) (j k : ℕ) (last : Option ℕ) → walks_left kind (from_on s j) k last ≡ walks_left kind s k last
unfolding walks_left
walks_from kind s j k last = refl

walks_some : (kind : MatchKind) (s : Search) (k : ℕ) (last : Option ℕ) (c : Chosen) → next_match walk_start walk_end (chosen_from kind s) k last ≡ Some c →
    walks_left kind s k last ≡ c ∷ walks_left kind s (walk_end c) (Some (walk_end c))
unfolding walks_left
walks_some kind s k last c e = by_some walk_start walk_end (chosen_from kind s) s.text.slice_start s.hi (walks_lie kind s) k last c e

no_walks : (kind : MatchKind) (s : Search) (k : ℕ) (last : Option ℕ) → next_match walk_start walk_end (chosen_from kind s) k last ≡ None → walks_left kind s k last ≡ []
unfolding walks_left
no_walks kind s k last e = by_none walk_start walk_end (chosen_from kind s) s.text.slice_start s.hi (walks_lie kind s) (s.hi + 1 - k) k last e

-- One walk of the list, which the search u chooses.
pub record Step (kind : MatchKind) (s u : Search) (k : ℕ) (last : Option ℕ) (m : Found) : Type 0 where
  pub walk : Chosen
  pub is_chosen : chosen_by kind u ≡ Some walk
  pub is_found : m ≡ found s walk
  pub left : walks_left kind s k last ≡ walk ∷ walks_left kind s (walk_end walk) (Some (walk_end walk))

step_of : (kind : MatchKind) (s u : Search) (k : ℕ) (last : Option ℕ) (m : Found) (x : ℕ) (o : Option Chosen) → kind ≢ all_matches → u ≡ from_on s x →
    x ≡ next_start kind s k last → next_match walk_start walk_end (chosen_from kind s) k last ≡ o → Some m ≡ option_map (found s) o → Step kind s u k last m
step_of kind s u k last m x None told there at e f = absurd (none-some m (sym f))
step_of kind s u k last m x (Some c) told there at e f = record {
  walk = c;
  is_chosen = ap (chosen_by kind) there ∙ ap (λ y. chosen_by kind (from_on s y)) at ∙ sym (next_started kind s k last told) ∙ e;
  is_found = same_Some m (found s c) f;
  left = walks_some kind s k last c e;
}

pub walk_step : (kind : MatchKind) (s u : Search) (k : ℕ) (last : Option ℕ) (m : Found) (x : ℕ) → kind ≢ all_matches → u ≡ from_on s x → x ≡ next_start kind s k last →
    Some m ≡ next_match begin_of end_of (answer_by_from kind s) k last → Step kind s u k last m
walk_step kind s u k last m x told there at f =
    step_of kind s u k last m x (next_match walk_start walk_end (chosen_from kind s) k last) told there at refl (f ∙ next_same kind s k last told)

none_of : (s : Search) (o : Option Chosen) → None ≡ option_map (found s) o → o ≡ None
none_of s None e = refl
none_of s (Some c) e = absurd (none-some (found s c) e)

pub last_step : (kind : MatchKind) (s : Search) (k : ℕ) (last : Option ℕ) → kind ≢ all_matches →
    None ≡ next_match begin_of end_of (answer_by_from kind s) k last → walks_left kind s k last ≡ []
last_step kind s k last told f =
    no_walks kind s k last (none_of s (next_match walk_start walk_end (chosen_from kind s) k last) (f ∙ next_same kind s k last told))

-- captures of a search from elsewhere
tells_on : (s u : Search) (x : ℕ) (caps : Captures) (c : Chosen) (o : Option Chosen) → u ≡ from_on s x → o ≡ Some c → TellsOf u o caps → TellsOf s (Some c) caps
tells_on s u x caps c o there e told = subst (λ v. TellsOf v (Some c) caps) there (subst (λ p. TellsOf u p caps) e told)

pub tells_there : (kind : MatchKind) (s u : Search) (x : ℕ) (caps : Captures) (c : Chosen) → kind ≢ all_matches → u ≡ from_on s x → chosen_by kind u ≡ Some c →
    TellsBy kind u caps → TellsOf s (Some c) caps
tells_there all_matches s u x caps c one there e told = absurd (one refl)
tells_there leftmost_first s u x caps c one there e told = tells_on s u x caps c (chosen u) there e told
tells_there leftmost_longest s u x caps c one there e told = tells_on s u x caps c (longest_chosen u) there e told

by_kind : (kind : MatchKind) (s : Search) (n k : ℕ) (last : Option ℕ) → kind ≢ all_matches →
    map (found s) (matches_by walk_start walk_end (chosen_from kind s) n k last) ≡ matches_by begin_of end_of (answer_by_from kind s) n k last
unfolding answer longest
by_kind all_matches s n k last told = absurd (told refl)
by_kind leftmost_first s n k last told = walks_matched s (chosen_from leftmost_first s) n k last
by_kind leftmost_longest s n k last told = walks_matched s (chosen_from leftmost_longest s) n k last

pub walks_law : WalksLaw
unfolding walks_left matches_by_kind
walks_law kind s k last told = by_kind kind s (s.hi + 1 - k) k last told
