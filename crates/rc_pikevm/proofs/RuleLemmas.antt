-- A search by a rule: what holds of the first walk and of the longest alike.
use Rattle.std.proofs.Common.{sym, subst, ◌≡◌, ℕ, ◌+◌, ◌*◌, ◌<◌, ◌≤◌, List, [], ◌∷◌, Option, Some, None, IsTrue, false, true, length, refl, inl, inr, ⊎_elim, arith, slice_set, slice_index_or}
use Rattle.std.proofs.lemmas.Bool.{cases_lt}
use Rattle.std.proofs.lemmas.Option.{none-some, same_Some}
use Rattle.rc_text.specs.Text.{Searched, Keeps}
use Rattle.rc_walks.specs.Walks.{Pair, IsWalk}
use Rattle.rc_walks.specs.Threads.{noted}
use Rattle.rc_program.specs.Program.{place_at}
use Rattle.rc_program.specs.Answer.{Search, HasNoWalkFrom, IsFirstFrom, Chosen, ends, is_allowed, last_of, next_of, pattern_at}
use Rattle.rc_program.specs.Longest.{HasNoAnswerOf, IsAnswerOf, IsLongestFrom, IsPassedOf}
use Rattle.rc_program.specs.Kinds.{answer_by}
use Rattle.rc_program.specs.Programs.{search_of}
use Rattle.rc_program.specs.Columns.{OwnSlots}
use Rattle.rc_program.specs.declared.program.Program.{Program}
use Rattle.rc_program.proofs.AnswerLemmas.{answer_law, last_start_of, start_to_last, start_within_last}
use Rattle.rc_program.proofs.ReachLemmas.{longest_law}
use Rattle.rc_pikevm.specs.Sights.{sight_of}
use Rattle.rc_pikevm.specs.Moves.{seen}
use Rattle.rc_pikevm.specs.Passing.{best_of}
use Rattle.rc_pikevm.specs.Found.{IsChosen, IsChosenRow, last_filled}
use Rattle.rc_pikevm.specs.Trace.{done, note, sets_out}
use Rattle.rc_pikevm.specs.KindSlots.{slots_by}
use Rattle.rc_pikevm.specs.Roots.{StandsFor, StandsIn}
use Rattle.rc_pikevm.specs.Rules.{GivesBy, MayEnter, kind_of, picked_by}
use Rattle.rc_pikevm.specs.declared.pass.Ending.{Ending}
use Rattle.rc_pikevm.specs.declared.rule.Rule.{Rule}
use Rattle.rc_pikevm.specs.declared.rule.Rule.TheVariants.{First, Longest}
use Rattle.rc_pikevm.proofs.RootLemmas.{stands_kept}
use Rattle.rc_pikevm.proofs.OwnLemmas.{IsSpread, chosen_spread, longest_spread}
use Rattle.rc_pikevm.proofs.SearchLemmas as first
use Rattle.rc_pikevm.proofs.SearchLemmas.{told_by}
use Rattle.rc_pikevm.proofs.LongestLemmas as longest

-- walks may enter there as well where the input was moved
pub enters_kept : (p : Program) (a b : Searched) (rule : Rule) → Keeps a b → MayEnter (length p.places.items) (StandsIn (search_of p a)) rule →
    MayEnter (length p.places.items) (StandsFor (sight_of (seen p b))) rule
enters_kept p a b (First root) keeps enters = (enters.0, stands_kept p a b root keeps enters.1)
enters_kept p a b Longest keeps enters = tt

-- it is the walk from the start that the rule chooses
abbrev pub Counts : Rule → Search → ℕ → List Pair → Type 0
Counts (First root) s x w = IsFirstFrom s x w
Counts Longest s x w = IsLongestFrom s x w

is_walk_by : (rule : Rule) (s : Search) (x : ℕ) (w : List Pair) → Counts rule s x w → IsWalk (next_of s) (λ n. IsTrue (ends s n)) [] ((0, x) ∷ []) w
is_walk_by (First root) s x w counts = counts.is_walk
is_walk_by Longest s x w counts = counts.is_walk

picks_by : (rule : Rule) (s : Search) (c : Chosen) → IsAnswerOf s (Counts rule s) c → picked_by rule s ≡ Some c
picks_by (First root) s c is = (answer_law.chosen_some s c).1 ((longest_law.first_is s c).0 is)
picks_by Longest s c is = (longest_law.chosen_some s c).1 is

none_picked_by : (rule : Rule) (s : Search) → HasNoAnswerOf s (Counts rule s) → picked_by rule s ≡ None
none_picked_by (First root) s none = (answer_law.chosen_none s).1 none
none_picked_by Longest s none = (longest_law.chosen_none s).1 none

-- what a pass that found a walk has shown of it
pub record IsBest (rule : Rule) (s : Search) (width from last : ℕ) (e : Ending) (slots : List (Option ℕ)) (w : List Pair) : Type 0 where
  pub low : from ≤ e.start
  pub high : e.start ≤ last
  pub counts : Counts rule s e.start w
  pub before : (y : ℕ) → from ≤ y → y < e.start → HasNoWalkFrom s y
  pub pattern : e.pattern ≡ pattern_at (place_at s.places (last_of w).0)
  pub end : e.end ≡ (last_of w).1
  pub visits : (k : ℕ) → k < width → slice_index_or slots k None ≡ last_filled s.places k w

module _ (rule : Rule) (s : Search) where
  -- below x no start gives an answer
  abbrev pub PassedBy : ℕ → Type 0
  PassedBy x = (y : ℕ) → s.lo ≤ y → y < x → IsPassedOf s (Counts rule s) y

  pub none_below_by : (x : ℕ) → x ≡ s.lo → PassedBy x
  none_below_by x is y l h = absurd (omega (arith, is, l, h))

  -- there is no position
  pub outside_by : s.hi < s.lo → picked_by rule s ≡ None
  outside_by past = none_picked_by rule s (λ y h. absurd (omega (arith, past, h.0, h.1)))

  module _ (width from last : ℕ) (slots : List (Option ℕ)) where
    best_gives : (e : Ending) (x : ℕ) (w : List Pair) → from ≤ x → x ≤ last → Counts rule s x w → ((y : ℕ) → from ≤ y → y < x → HasNoWalkFrom s y) →
        done e.pattern e.start e.end slots ≡ noted (note s.places) (sets_out width x).0 w → IsBest rule s width from last e slots w
    best_gives e x w low high counts before same =
        let told = told_by s width e slots x w (is_walk_by rule s x w counts) same in
        let begun = told.start in
        record {
          low = omega (arith, begun, low);
          high = omega (arith, begun, high);
          counts = subst (λ y. Counts rule s y w) (sym begun) counts;
          before = λ y l h. before y l (omega (arith, begun, h));
          pattern = told.pattern;
          end = told.end;
          visits = told.visits;
        }

  module _ (from last : ℕ) (passed : PassedBy from) (last_is : last ≡ last_start_of s) where
    -- no start is left
    pub past_by : last < from → picked_by rule s ≡ None
    past_by past = none_picked_by rule s (λ y h. let b = start_to_last s y h in passed y h.0 (omega (arith, past, last_is, b)))

    -- no start that is left has a walk
    pub left_by : ((y : ℕ) → from ≤ y → y ≤ last → HasNoWalkFrom s y) → picked_by rule s ≡ None
    left_by none =
        none_picked_by rule s (λ y h. let b = start_to_last s y h in
        ⊎_elim (λ l. passed y h.0 l) (λ ge. inl (none y ge (omega (arith, last_is, b)))) (cases_lt y from))

-- no start has a walk
pub none_by : (rule : Rule) (s : Search) (width from last : ℕ) (slots : List (Option ℕ)) → GivesBy rule (sight_of s) width from last (best_of None slots) →
    (y : ℕ) → from ≤ y → y ≤ last → HasNoWalkFrom s y
none_by (First root) s width from last slots g = ⊎_elim (λ n. n.1) (λ m. absurd (none-some _ m.6)) g
none_by Longest s width from last slots g = ⊎_elim (λ n. n.1) (λ m. absurd (none-some _ m.6)) g

-- the least start that has a walk, and the walk that the rule chooses
pub some_by : (rule : Rule) (s : Search) (width from last : ℕ) (e : Ending) (slots : List (Option ℕ)) → GivesBy rule (sight_of s) width from last (best_of (Some e) slots) →
    (w : List Pair) × IsBest rule s width from last e slots w
some_by (First root) s width from last e slots g =
    ⊎_elim (λ n. absurd (none-some _ (sym n.0)))
    (λ m. (m.1, best_gives (First root) s width from last slots e m.0 m.1 m.2 m.3 m.4 m.5 (same_Some _ _ m.6))) g
some_by Longest s width from last e slots g =
    ⊎_elim (λ n. absurd (none-some _ (sym n.0)))
    (λ m. (m.1, best_gives Longest s width from last slots e m.0 m.1 m.2 m.3 m.4 m.5 (same_Some _ _ m.6))) g

module _ {rule : Rule} {s : Search} {width from last : ℕ} {e : Ending} {slots : List (Option ℕ)} {w : List Pair} (passed : PassedBy rule s from)
    (last_is : last ≡ last_start_of s) (best : IsBest rule s width from last e slots w) where
  -- the found walk is passed over
  pub passed_by : is_allowed s w ≡ false → PassedBy rule s (e.start + 1)
  passed_by off y l h =
      ⊎_elim (λ b. passed y l b)
      (λ ge. ⊎_elim (λ b. inl (best.before y ge b))
      (λ le. let same : e.start ≡ y = omega (arith, h, le) in subst (IsPassedOf s (Counts rule s)) same (inr (w, best.counts, off))) (cases_lt y e.start))
      (cases_lt y from)

  -- the found walk is the answer's
  pub chosen_by : length slots ≡ width → s.lo ≤ from → is_allowed s w ≡ true → (c : Chosen) × IsChosenRow s (picked_by rule s) e slots c
  chosen_by wide low allowed = (
    record { start = e.start; walk = w },
    record {
      is_chosen = picks_by rule s (record { start = e.start; walk = w }) (record {
        is_start = start_within_last s e.start (omega (arith, low, best.low)) (omega (arith, best.high, last_is));
        counts = best.counts;
        allowed = allowed;
        none_before = λ y h l. ⊎_elim (λ b. passed y h.0 b) (λ ge. inl (best.before y ge l)) (cases_lt y from);
      });
      pattern = best.pattern;
      start = refl;
      end = best.end;
      visits = λ k l. best.visits k (omega (arith, wide, l));
    },
  )

-- the slots tell of the walk what the row tells
pub spread_by : (rule : Rule) (s : Search) (own : OwnSlots s.places) (e : Ending) (row slots : List (Option ℕ)) → IsSpread s (picked_by rule s) e row slots →
    (c : Chosen) → IsChosenRow s (picked_by rule s) e row c → IsChosen s (picked_by rule s) e slots c
spread_by (First root) s own e row slots spread c is = chosen_spread s own e row slots spread c is
spread_by Longest s own e row slots spread c is = longest_spread s own e row slots spread c is

-- The answer, once the walk is picked.
pub answer_none_by : (rule : Rule) (s : Search) → picked_by rule s ≡ None → answer_by (kind_of rule) s ≡ None
answer_none_by (First root) s e = first.answer_none s e
answer_none_by Longest s e = longest.longest_none s e

pub answer_is_by : (rule : Rule) (s : Search) (e : Ending) (slots : List (Option ℕ)) (c : Chosen) → IsChosen s (picked_by rule s) e slots c → answer_by (kind_of rule) s
    ≡ Some (record { pattern = e.pattern; start = e.start; end = e.end })
answer_is_by (First root) s e slots c is = first.answer_is s e slots c is
answer_is_by Longest s e slots c is = longest.longest_is s e slots c is

pub within_by : (rule : Rule) (s : Search) (e : Ending) (slots : List (Option ℕ)) (c : Chosen) → IsChosen s (picked_by rule s) e slots c → (s.lo ≤ e.start) × (e.start ≤ e.end) × (e.end ≤ s.hi)
within_by (First root) s e slots c is = first.within s e slots c is
within_by Longest s e slots c is = longest.within s e slots c is

-- with the whole match in its two slots, they are the groups
pub groups_are_by : (rule : Rule) (s : Search) (e : Ending) (slots : List (Option ℕ)) (c : Chosen) → IsChosen s (picked_by rule s) e slots c → (slots2 : List (Option ℕ)) →
    slots2 ≡ slice_set (slice_set slots (2 * e.pattern) (Some e.start)) (2 * e.pattern + 1) (Some e.end) →
    Some slots2 ≡ slots_by (kind_of rule) s (length slots)
groups_are_by (First root) s e slots c is slots2 same = first.groups_are s e slots c is slots2 same
groups_are_by Longest s e slots c is slots2 same = longest.longest_groups_are s e slots c is slots2 same
