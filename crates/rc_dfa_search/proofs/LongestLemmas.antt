-- The longest match of the least start: where a search forwards ends, and where one backwards begins.
use Rattle.std.proofs.Common.{◌≡◌, ℕ, zero, suc, ◌+◌, ◌<◌, ◌≤◌, ◌⊎◌, Bool, true, false, List, [], ◌∷◌, length, Option, Some, None, IsTrue, inl, inr, ⊎_elim, sym, subst, ap, ap₂, ◌∙◌, refl, arith, not, ◌||◌, eqb-true}
use Rattle.std.specs.Prelude.{slice_index}
use Rattle.std.proofs.lemmas.Bool.{cases_eq}
use Rattle.rc_text.specs.Found.{Found}
use Rattle.rc_text.specs.Text.{is_boundary}
use Rattle.rc_text.specs.declared.types.MatchKind.TheVariants.{LeftmostLongest as leftmost_longest}
use Rattle.rc_text.specs.declared.types.Anchored.TheVariants.{Pattern}
use Rattle.rc_pattern.specs.Re.{Re}
use Rattle.rc_walks.specs.Walks.{Pair, IsWalk, HasNoWalk}
use Rattle.rc_program.specs.Text.{Text}
use Rattle.rc_program.specs.Program.{Place, place_at, ways, is_match_place}
use Rattle.rc_program.specs.Laws.{IsClosed}
use Rattle.rc_program.specs.Answer.{Search, pattern_at, is_anchored, Chosen, found, IsStart, next_of, ends, last_of, only}
use Rattle.rc_program.specs.Greatest.{IsSpelledIn, HasNoSpan}
use Rattle.rc_program.specs.Longest.{IsLongestFrom, IsLongestAnswer, HasNoLongestAnswer, IsPassedOf, longest, longest_walk}
use Rattle.rc_program.proofs.AnswerLemmas.{walk_ends, match_place_is}
use Rattle.rc_program.proofs.GreatestLemmas.{other_ends}
use Rattle.rc_program.proofs.ReachLemmas.{Reach, longest_walk_reach, longest_law}
use Rattle.rc_utf8.specs.Bytes.{bytes_of}
use Rattle.rc_utf8.specs.Laws.{by_bytes}
use Rattle.rc_determinize.specs.Gives.{starts}
use Rattle.rc_determinize.specs.Steps.{IsByBytes}
use Rattle.rc_determinize.specs.States.{Setting, Stops, all_starts}
use Rattle.rc_determinize.specs.Backward.{IsLeastSoFar}
use Rattle.rc_determinize.specs.Laws.{IsSettingOf, may_end_at}
use Rattle.rc_determinize.specs.LongestLaws.{ReachesLongest, FirstReaches, GivesLongest, IsLongestRaised}
use Rattle.rc_determinize.proofs.AnswerLemmas.{count_of, last_at}
use Rattle.rc_determinize.proofs.LongestSpanLemmas.{longest_span_law}
use Rattle.rc_dfa.specs.Machine.{Machine}
use Rattle.rc_dfa.specs.Runs.{met_last, SearchEnds}
use Rattle.rc_dfa.proofs.RunLemmas.{run_law}
use Rattle.rc_dfa_search.specs.Machines.{IsCase}
use Rattle.rc_dfa_search.specs.Laws.{pattern_met, met_from}
use Rattle.rc_dfa_search.proofs.CaseLemmas.{ahead_machine, ahead_direction, ahead_terminator, anchored_is, only_is}
use Rattle.rc_dfa_search.proofs.FirstLemmas.{counted, least_start}
use Rattle.rc_dfa_search.proofs.LongestOver.{longest_over, passed_over}
use Rattle.rc_dfa_search.proofs.MetLemmas.{met_law, leads_entry}
use Rattle.rc_dfa_search.proofs.ReverseWays.{leads_walk}

-- THE LEAST START

-- the least start that has a walk
module _ (W : Pair → List Pair) (E : Pair → Type 0) where
  first_start : (x c : ℕ) (e : Pair) → FirstReaches W E (starts 0 x c) e →
      (y : ℕ) × (x ≤ y) × ReachesLongest W E (0, y) e × ((z : ℕ) → x ≤ z → z < y → HasNoWalk W E [] ((0, z) ∷ []))
  first_start x zero e g = absurd g
  first_start x (suc c) e g =
      ⊎_elim (λ f. (x, omega arith, f, λ z a b. absurd (omega (arith, a, b))))
      (λ q. let r = first_start (x + 1) c e q.1 in
      let a = r.1 in (
        r.0,
        omega (arith, a),
        r.2,
        λ z lo hi. ⊎_elim (λ eq. subst (λ k. HasNoWalk W E [] ((0, k) ∷ [])) eq q.0) (λ ne. r.3 z (omega (arith, lo, ne)) hi) (cases_eq x z),
      ))
      g

pub longest_least : (g : Setting) → IsByBytes g.places → (t : Text) (hi from : ℕ) (a : Bool) (e : Pair) →
    GivesLongest (ways g.places t hi) (Stops g.places) (all_starts a 0 from hi) (Some e) → (x : ℕ) × IsLeastSoFar g t hi e.1 (0 ∷ []) from (Some (x, 0))
longest_least g by_one t hi from a e gives =
    let W = ways g.places t hi in
    let E = Stops g.places in
    let r = first_start W E from (count_of a from hi) e (subst (λ xs. FirstReaches W E xs e) (counted a from hi) gives) in
    let long = r.2 in
    (r.0, least_start g by_one t hi from r.0 e long.0 r.1 (let l = long.1 in l.is_walk) long.2 r.3)

-- WHERE NO PATTERN IS ASKED FOR

module _ (s : Search) (closed : IsClosed s.places) (some : 0 < length s.places) (g : Setting) (ok : IsSettingOf (by_bytes s) g) (from : ℕ)
    (raised : IsLongestRaised (by_bytes s) from) where
  abbrev Given : Option Pair → Type 0
  Given r = GivesLongest (ways g.places s.text s.hi) (Stops g.places) (all_starts (is_anchored s.anchoring) 0 from s.hi) r

  -- from the least start
  pub answered : (q e x : ℕ) → Given (Some (q, e)) → may_end_at s e ≡ true → IsLeastSoFar g s.text s.hi e (0 ∷ []) from (Some (x, 0)) →
      longest s ≡ Some (record { pattern = pattern_at (place_at g.places q); start = x; end = e })
  answered q e x h may least =
      let a = longest_span_law.answers (by_bytes s) g from x (q, e) ok raised h least may in
      let over = a.1 in
      let v = longest_over s closed some x over.is_start.1 a.0 over.counts in
      let chosen : Chosen = record { start = x; walk = v.0 } in
      let m : Found = record { pattern = pattern_at (place_at g.places q); start = x; end = e } in
      let at : last_of a.0 ≡ (q, e) = last_at a.0 (q, e) a.2 in
      let is : found s chosen ≡ m =
      ap₂ (λ (k : ℕ) (n : Pair). let f : Found = record { pattern = k; start = x; end = n.1 } in f) (sym v.2.1) (sym v.2.0)
      ∙ ap (λ (k : Pair). let f : Found = record { pattern = pattern_at (place_at (bytes_of s.places) k.0); start = x; end = k.1 } in f) at
      ∙ ap (λ ps. let f : Found = record { pattern = pattern_at (place_at ps q); start = x; end = e } in f) (sym ok.places) in
      let answers : IsLongestAnswer s chosen = record {
        is_start = over.is_start;
        counts = v.1;
        allowed = ap (λ (n : Pair). not s.passes_over || is_boundary s.text.content n.1) (sym v.2.0 ∙ at) ∙ may;
        none_before = λ y start lt. passed_over s closed some y start.1 (over.none_before y start lt);
      } in
      (longest_law.answer_some s m).1 (chosen, answers, is)

  no_answer : HasNoLongestAnswer (by_bytes s) → longest s ≡ None
  no_answer none = (longest_law.answer_none s).1 (λ y start. passed_over s closed some y start.1 (none y start))

  pub raises_on : (q e : ℕ) → Given (Some (q, e)) → may_end_at s e ≡ false →
      (from < s.hi → is_anchored s.anchoring ≡ false → IsLongestRaised (by_bytes s) (from + 1))
      × ((s.hi ≤ from) ⊎ (is_anchored s.anchoring ≡ true) → longest s ≡ None)
  raises_on q e h off =
      let r = longest_span_law.raises (by_bytes s) g from (q, e) ok raised h off in (r.1, λ done. no_answer (r.2 done))

  pub none_given : Given None → longest s ≡ None
  none_given h = no_answer (longest_span_law.none (by_bytes s) g from ok raised h)

-- WHERE ONE IS

pub no_span_no_longest : (s : Search) → HasNoSpan s → longest s ≡ None
no_span_no_longest s none =
    (longest_law.answer_none s).1
    (λ y start. inl (λ w walk.
    none (found s (record { start = y; walk = w })) (record {
      is_start = start;
      walk = w;
      is_walk = walk;
      pattern = match_place_is (only s.anchoring) (place_at s.places (last_of w).0) (walk_ends (next_of s) (λ n. IsTrue (ends s n)) walk);
      position = refl;
    })))

-- the match place of the one pattern is its own
own_pattern : (p : ℕ) (q : Place) → IsTrue (is_match_place (Some p) q) → pattern_at q ≡ p
own_pattern p q h = eqb-true (pattern_at q) p (subst (λ r. IsTrue (is_match_place (Some p) r)) (match_place_is (Some p) q h) h)

module _ (hs : List Re) (m n : Machine) (p : ℕ) (s : Search) (c : IsCase hs leftmost_longest m n (Pattern p) s) where
  abbrev Ending : Pair → Type 0
  Ending k = IsTrue (ends s k)

  start_there : IsStart s s.lo
  start_there = (omega arith, c.ordered, λ t. refl)

  alone : only s.anchoring ≡ Some p
  alone = only_is c

  own_end : (w : List Pair) → IsWalk (next_of s) (λ k. IsTrue (ends s k)) [] ((0, s.lo) ∷ []) w → pattern_at (place_at s.places (last_of w).0) ≡ p
  own_end w walk =
      own_pattern p (place_at s.places (last_of w).0)
      (subst (λ o. IsTrue (is_match_place o (place_at s.places (last_of w).0))) alone (walk_ends (next_of s) (λ k. IsTrue (ends s k)) walk))

  span_of : (w : List Pair) → IsWalk (next_of s) (λ k. IsTrue (ends s k)) [] ((0, s.lo) ∷ []) w →
      IsSpelledIn s (record { pattern = pattern_at (place_at s.places (last_of w).0); start = s.lo; end = (last_of w).1 })
  span_of w walk = record {
    is_start = start_there;
    walk = w;
    is_walk = walk;
    pattern = match_place_is (only s.anchoring) (place_at s.places (last_of w).0) (walk_ends (next_of s) (λ k. IsTrue (ends s k)) walk);
    position = refl;
  }

  module _ (q e : ℕ) (run : SearchEnds m s.text s.hi s.lo (Pattern p) false (met_last (Some (q, e)))) where
    met_one : (x : ℕ) × IsSpelledIn s (met_from m q x e) × (x ≡ s.lo)
    met_one = let r = met_law.ends hs leftmost_longest m n (Pattern p) s false q e c run in (r.0, r.1, r.2 refl)

    -- no span ends later
    none_later : (f : Found) → IsSpelledIn s f → f.end ≤ e
    none_later f spelled =
        let places = m.setting.places in
        let W = ways places s.text s.hi in
        let given = run_law.longest m s.text s.hi s.lo (Pattern p) (Some (q, e)) (ahead_machine c) (ahead_direction c) (ahead_terminator c) c.inside run in
        let l = leads_entry hs leftmost_longest m n p s c f spelled in
        let k = ahead_machine c in
        let g = k.setting in
        let w = leads_walk places s.text s.hi g.by_bytes f.pattern f.end (slice_index m.entries p, s.lo) l in
        let walk = other_ends W (λ j. IsTrue (is_match_place (Some f.pattern) (place_at places j.0))) (Stops places) w.1
        (ap (is_match_place None) w.2) in
        let long : ReachesLongest W (Stops places) (slice_index m.entries p, s.lo) (q, e) = ⊎_elim (λ r. r) (λ r. absurd r.1) given in
        let most = (let r = long.1 in r.is_most w.0 walk) in
        let at = ap (λ (j : Pair). j.1) (last_at long.0 (q, e) long.2) in
        let to = w.3 in
        omega (arith, most, at, to)

    -- so the longest walk ends here
    longest_there : (v : List Pair) × IsLongestFrom s s.lo v × ((last_of v).1 ≡ e) × (pattern_at (place_at s.places (last_of v).0) ≡ pattern_met m q)
    longest_there =
        let met = met_one in
        let sp = met.1 in
        let walk : IsWalk (next_of s) (λ k. IsTrue (ends s k)) [] ((0, s.lo) ∷ []) sp.walk =
        subst (λ x. IsWalk (next_of s) (λ k. IsTrue (ends s k)) [] ((0, x) ∷ []) sp.walk) met.2 sp.is_walk in
        by_walk sp.walk walk sp.position (sym (own_end sp.walk walk) ∙ ap pattern_at sp.pattern) (longest_walk s s.lo) (longest_walk_reach s s.lo c.ordered)
      where
        by_walk : (u : List Pair) → IsWalk (next_of s) (λ k. IsTrue (ends s k)) [] ((0, s.lo) ∷ []) u → (last_of u).1 ≡ e → p ≡ pattern_met m q →
            (o : Option (List Pair)) → Reach s s.lo o →
            (v : List Pair) × IsLongestFrom s s.lo v × ((last_of v).1 ≡ e) × (pattern_at (place_at s.places (last_of v).0) ≡ pattern_met m q)
        by_walk u walk at same None none = absurd (none u walk)
        by_walk u walk at same (Some v) long =
            let most = long.is_most u walk in
            let least = none_later (record { pattern = pattern_at (place_at s.places (last_of v).0); start = s.lo; end = (last_of v).1 }) (span_of v long.is_walk) in
            (v, long, omega (arith, most, least, at), own_end v long.is_walk ∙ same)

    one_start : (y : ℕ) → IsStart s y → s.lo ≡ y
    one_start y start = sym (start.2 (anchored_is c))

    pub ends_one : may_end_at s e ≡ true → longest s ≡ Some (met_from m q s.lo e)
    ends_one may =
        let v = longest_there in
        let chosen : Chosen = record { start = s.lo; walk = v.0 } in
        let answers : IsLongestAnswer s chosen = record {
          is_start = start_there;
          counts = v.1;
          allowed = ap (λ k. not s.passes_over || is_boundary s.text.content k) v.2 ∙ may;
          none_before = λ y start lt. let same = one_start y start in absurd (omega (arith, same, lt));
        } in
        (longest_law.answer_some s (met_from m q s.lo e)).1
        (chosen, answers, ap₂ (λ (k j : ℕ). let f : Found = record { pattern = k; start = s.lo; end = j } in f) v.3 v.2)

    pub raises_one : may_end_at s e ≡ false → longest s ≡ None
    raises_one off =
        let v = longest_there in
        (longest_law.answer_none s).1
        (λ y start. subst (λ k. IsPassedOf s (IsLongestFrom s) k) (one_start y start)
        (inr (v.0, v.1, ap (λ k. not s.passes_over || is_boundary s.text.content k) v.2 ∙ off)))

  pub none_one : SearchEnds m s.text s.hi s.lo (Pattern p) false (met_last None) → longest s ≡ None
  none_one run = no_span_no_longest s (met_law.none hs leftmost_longest m n (Pattern p) s false c run).0
