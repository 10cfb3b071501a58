-- The preferred match: where a search forwards ends, and where one backwards begins.
use Rattle.std.proofs.Common.{◌≡◌, ℕ, ◌+◌, ◌<◌, ◌≤◌, ◌⊎◌, Bool, true, false, List, [], ◌∷◌, length, Option, Some, None, ⊎_elim, sym, subst, ap, ◌∙◌, refl, arith}
use Rattle.std.specs.Prelude.{slice_index}
use Rattle.rc_text.specs.Found.{Found}
use Rattle.rc_text.specs.declared.types.MatchKind.TheVariants.{LeftmostFirst as leftmost_first}
use Rattle.rc_text.specs.declared.types.Anchored.TheVariants.{Pattern}
use Rattle.rc_pattern.specs.Re.{Re}
use Rattle.rc_walks.specs.Walks.{Pair, IsWalk, HasNoWalk, EndsAt}
use Rattle.rc_program.specs.Text.{Text}
use Rattle.rc_program.specs.Program.{Place, place_at, ways, entry}
use Rattle.rc_program.specs.Laws.{IsClosed}
use Rattle.rc_program.specs.Answer.{Search, answer, pattern_at, is_anchored, Chosen, found, HasNoAnswer}
use Rattle.rc_program.proofs.WayLemmas.{same_pair, ways_onward}
use Rattle.rc_program.proofs.AnswerLemmas.{answer_law}
use Rattle.rc_utf8.specs.Bytes.{bytes_of}
use Rattle.rc_utf8.specs.Laws.{by_bytes}
use Rattle.rc_utf8.proofs.AnswerLemmas.{same_answer}
use Rattle.rc_determinize.specs.Gives.{Gives, starts}
use Rattle.rc_determinize.specs.Steps.{IsByBytes}
use Rattle.rc_determinize.specs.Run.{Reaches, arrived, goes_on, IsGoal}
use Rattle.rc_determinize.specs.States.{Setting, Stops, IsInside, all_starts}
use Rattle.rc_determinize.specs.Backward.{IsLeastSoFar}
use Rattle.rc_determinize.specs.Laws.{IsRaised, IsSettingOf, may_end_at}
use Rattle.rc_determinize.proofs.RunLemmas.{starts_first, walk_reaches, reach_walks}
use Rattle.rc_determinize.proofs.TextLemmas.{near, last}
use Rattle.rc_determinize.proofs.AnswerLemmas.{count_of, last_at}
use Rattle.rc_determinize.proofs.LawLemmas.{span_law}
use Rattle.rc_dfa.specs.Machine.{Machine}
use Rattle.rc_dfa.specs.Runs.{met_last, SearchEnds}
use Rattle.rc_dfa.proofs.RunLemmas.{run_law}
use Rattle.rc_dfa_search.specs.Machines.{IsCase}
use Rattle.rc_dfa_search.specs.Laws.{met_from}
use Rattle.rc_dfa_search.proofs.CaseLemmas.{ahead_machine, ahead_direction, ahead_entries, ahead_places, ahead_terminator, anchored_is, only_is, length-entries, entry_index}
use Rattle.rc_dfa_search.proofs.FirstPattern.{GivenAt, pattern_gives, one_answer, one_passed, one_none}

-- THE LEAST START

pub counted : (a : Bool) (from hi : ℕ) → all_starts a 0 from hi ≡ starts 0 from (count_of a from hi)
counted true from hi = refl
counted false from hi = refl

reach_below : (places : List Place) (t : Text) (hi end : ℕ) {n : Pair} → Reaches (ways places t hi) (IsGoal (Stops places) end) n → n.1 ≤ end
reach_below places t hi end (arrived n goal) = let e = goal.1 in omega (arith, e)
reach_below places t hi end (goes_on n m i more) =
    let a = ways_onward places t hi n m i in let b = reach_below places t hi end more in omega (arith, a, b)

-- the first start that has a walk is the least from which one leads to that walk's end
pub least_start : (g : Setting) → IsByBytes g.places → (t : Text) (hi from x : ℕ) (e : Pair) (w : List Pair) → from ≤ x →
    IsWalk (ways g.places t hi) (Stops g.places) [] ((0, x) ∷ []) w → EndsAt w e →
    ((y : ℕ) → from ≤ y → y < x → HasNoWalk (ways g.places t hi) (Stops g.places) [] ((0, y) ∷ [])) →
    IsLeastSoFar g t hi e.1 (0 ∷ []) from (Some (x, 0))
least_start g by_one t hi from x e w low walk ends none =
    let W = ways g.places t hi in
    let E = Stops g.places in
    let near_by = near g.places t hi by_one in
    let last_by = last g.places t hi None in
    let m = walk_reaches W E same_pair last_by near_by e walk ends in
    let reaches : Reaches W (IsGoal E e.1) (0, x) =
    ⊎_elim (λ same. subst (λ n. Reaches W (IsGoal E e.1) n) (sym same) m.2) (λ never. absurd never) m.1 in (
      low,
      reach_below g.places t hi e.1 reaches,
      reaches,
      λ y a lt. ((λ h. reach_walks W E same_pair last_by near_by e.1 (0, y) h (none y a lt)), tt),
    )

-- where the first walk ends, walks lead from some least start
pub least_of : (g : Setting) → IsByBytes g.places → (t : Text) (hi from : ℕ) (a : Bool) (e : Pair) →
    Gives (ways g.places t hi) (Stops g.places) [] (all_starts a 0 from hi) (Some e) → (x : ℕ) × IsLeastSoFar g t hi e.1 (0 ∷ []) from (Some (x, 0))
least_of g by_one t hi from a e gives =
    let W = ways g.places t hi in
    let E = Stops g.places in
    let r = starts_first W E same_pair (last g.places t hi None) (near g.places t hi by_one) 0 from (count_of a from hi) e
    (subst (λ xs. Gives W E [] xs (Some e)) (counted a from hi) gives) in
    let first = r.3 in
    (r.0, least_start g by_one t hi from r.0 e first.0 r.1 (let f = first.1 in f.is_walk) first.2 r.4)

-- WHERE NO PATTERN IS ASKED FOR

pub inside_from : {t : Text} {lo from hi : ℕ} → IsInside t lo hi → lo ≤ from → IsInside t from hi
inside_from i le = record { low = let l = i.low in omega (arith, l, le); high = i.high; bounded = i.bounded }

module _ (s : Search) (closed : IsClosed s.places) (g : Setting) (ok : IsSettingOf (by_bytes s) g) (from : ℕ) (raised : IsRaised (by_bytes s) from) where
  -- what the starts give from where the search stands
  abbrev Given : Option Pair → Type 0
  Given r = Gives (ways g.places s.text s.hi) (Stops g.places) [] (all_starts (is_anchored s.anchoring) 0 from s.hi) r

  -- from the least start
  pub answered : (q e x : ℕ) → Given (Some (q, e)) → may_end_at s e ≡ true → IsLeastSoFar g s.text s.hi e (0 ∷ []) from (Some (x, 0)) →
      answer s ≡ Some (record { pattern = pattern_at (place_at g.places q); start = x; end = e })
  answered q e x h may least =
      let a = span_law.answers (by_bytes s) g from x (q, e) ok raised h least may in
      let chosen : Chosen = record { start = x; walk = a.0 } in
      let m : Found = record { pattern = pattern_at (place_at g.places q); start = x; end = e } in
      let is : found (by_bytes s) chosen ≡ m =
      ap (λ (k : Pair). let f : Found = record { pattern = pattern_at (place_at (bytes_of s.places) k.0); start = x; end = k.1 } in f) (last_at a.0 (q, e) a.2)
      ∙ ap (λ ps. let f : Found = record { pattern = pattern_at (place_at ps q); start = x; end = e } in f) (sym ok.places) in
      sym (same_answer s closed) ∙ (answer_law.answer_some (by_bytes s) m).1 (chosen, a.1, is)

  no_answer : HasNoAnswer (by_bytes s) → answer s ≡ None
  no_answer none = sym (same_answer s closed) ∙ (answer_law.answer_none (by_bytes s)).1 none

  pub raises_on : (q e : ℕ) → Given (Some (q, e)) → may_end_at s e ≡ false →
      (from < s.hi → is_anchored s.anchoring ≡ false → IsRaised (by_bytes s) (from + 1))
      × ((s.hi ≤ from) ⊎ (is_anchored s.anchoring ≡ true) → answer s ≡ None)
  raises_on q e h off =
      let r = span_law.raises (by_bytes s) g from (q, e) ok raised h off in (r.1, λ done. no_answer (r.2 done))

  pub none_given : Given None → answer s ≡ None
  none_given h = no_answer (span_law.none (by_bytes s) g from ok raised h)

-- WHERE ONE IS

module _ (hs : List Re) (m n : Machine) (p : ℕ) (s : Search) (c : IsCase hs leftmost_first m n (Pattern p) s) where
  one_asked : p < length hs
  one_asked = subst (λ k. p < k) (ap length (ahead_entries c) ∙ length-entries 0 hs) c.asked

  given : (r : Option Pair) → SearchEnds m s.text s.hi s.lo (Pattern p) false (met_last r) → GivenAt s s.lo r
  given r h =
      let g = run_law.first m s.text s.hi s.lo (Pattern p) r (ahead_machine c) (ahead_direction c) (ahead_terminator c) c.inside h in
      let entry_is : slice_index m.entries p ≡ entry hs p = ap (λ es. slice_index es p) (ahead_entries c) ∙ entry_index hs p one_asked in
      let at_entry = subst (λ k. Gives (ways m.setting.places s.text s.hi) (Stops m.setting.places) [] ((k, s.lo) ∷ []) r) entry_is g in
      pattern_gives hs s c.places p (only_is c) one_asked s.lo c.ordered r
      (subst (λ ps. Gives (ways ps s.text s.hi) (Stops ps) [] ((entry hs p, s.lo) ∷ []) r) (ahead_places c) at_entry)

  pub ends_one : (q e : ℕ) → SearchEnds m s.text s.hi s.lo (Pattern p) false (met_last (Some (q, e))) → may_end_at s e ≡ true →
      answer s ≡ Some (met_from m q s.lo e)
  ends_one q e h may =
      one_answer s c.ordered (anchored_is c) q e (given (Some (q, e)) h) may
      ∙ ap (λ ps. Some (let f : Found = record { pattern = pattern_at (place_at ps q); start = s.lo; end = e } in f)) (sym (ahead_places c))

  pub raises_one : (q e : ℕ) → SearchEnds m s.text s.hi s.lo (Pattern p) false (met_last (Some (q, e))) → may_end_at s e ≡ false → answer s ≡ None
  raises_one q e h off = one_passed s c.ordered (anchored_is c) q e (given (Some (q, e)) h) off

  pub none_one : SearchEnds m s.text s.hi s.lo (Pattern p) false (met_last None) → answer s ≡ None
  none_one h = one_none s c.ordered (anchored_is c) (given None h)
