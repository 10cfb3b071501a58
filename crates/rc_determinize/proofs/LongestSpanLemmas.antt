-- The longest match of the least start, by its end and the least start from there.
use Rattle.std.proofs.Common.{◌≡◌, ℕ, zero, suc, ◌+◌, ◌<◌, ◌≤◌, ◌⊎◌, true, false, true≢false, List, [], ◌∷◌, Option, Some, None, IsTrue, inl, inr, ⊎_elim, sym, subst, ◌∙◌, arith}
use Rattle.std.proofs.lemmas.Bool.{cases_lt, cases_eq}
use Rattle.rc_walks.specs.Walks.{Pair, IsIn, HasNoWalk, EndsAt}
use Rattle.rc_program.specs.Program.{ways}
use Rattle.rc_program.specs.Answer.{Search, ends, next_of, is_anchored}
use Rattle.rc_program.specs.Longest.{IsLongestFrom, IsLongestAnswer, IsPassedOf, HasNoLongestAnswer}
use Rattle.rc_program.proofs.WayLemmas.{same_pair}
use Rattle.rc_determinize.specs.Gives.{starts}
use Rattle.rc_determinize.specs.Run.{Reaches, IsGoal}
use Rattle.rc_determinize.specs.States.{Setting, Stops, all_starts}
use Rattle.rc_determinize.specs.Laws.{IsSettingOf, may_end_at}
use Rattle.rc_determinize.specs.LongestLaws.{ReachesLongest, FirstReaches, GivesLongest, IsLongestRaised, LongestSpanLaw}
use Rattle.rc_determinize.proofs.Leads.{IsLeastStart}
use Rattle.rc_determinize.proofs.RunLemmas.{walk_reaches, reach_walks, starts_none}
use Rattle.rc_determinize.proofs.BackwardLemmas.{least_start}
use Rattle.rc_determinize.proofs.AnswerLemmas.{count_of, counted, near_in, last_in, allowed_at, in_count, counts}
use Rattle.rc_determinize.proofs.LawLemmas.{by_bytes, ends_are, least_is}

module _ (ways : Pair → List Pair) (Ends : Pair → Type 0) (last : (n m : Pair) → Ends n → ¬ IsIn m (ways n))
    (near : (n m : Pair) → IsIn m (ways n) → (m.1 ≡ n.1) ⊎ (m.1 ≡ n.1 + 1)) where
  -- the least start that has a walk
  first_start : (root x c : ℕ) (e : Pair) → FirstReaches ways Ends (starts root x c) e →
      (y : ℕ) × (x ≤ y) × (y < x + c) × ReachesLongest ways Ends (root, y) e
      × ((z : ℕ) → x ≤ z → z < y → HasNoWalk ways Ends [] ((root, z) ∷ []))
  first_start root x zero e g = absurd g
  first_start root x (suc c) e g =
      ⊎_elim (λ f. (x, omega arith, omega arith, f, λ z a b. absurd (omega (arith, a, b))))
      (λ q. let r = first_start root (x + 1) c e q.1 in
      let a = r.1 in let b = r.2 in (
        r.0,
        omega (arith, a),
        omega (arith, b),
        r.3,
        λ z lo hi. ⊎_elim (λ eq. subst (λ k. HasNoWalk ways Ends [] ((root, k) ∷ [])) eq q.0)
            (λ ne. r.4 z (omega (arith, lo, ne)) hi) (cases_eq x z),
      ))
      g

  reaches_end : (e n : Pair) → ReachesLongest ways Ends n e → Reaches ways (IsGoal Ends e.1) n
  reaches_end e n f =
      let r = walk_reaches ways Ends same_pair last near e f.1.is_walk f.2 in
      ⊎_elim (λ q. subst (λ x. Reaches ways (IsGoal Ends e.1) x) (sym q) r.2) (λ never. absurd never) r.1

  -- FORWARDS AND THEN BACKWARDS: a walk from a lesser start to this end would be one of a lesser start
  pub longest_span : (root from c x : ℕ) (e : Pair) → FirstReaches ways Ends (starts root from c) e → IsLeastStart ways Ends root from e.1 x →
      (x < from + c) × ReachesLongest ways Ends (root, x) e × ((z : ℕ) → from ≤ z → z < x → HasNoWalk ways Ends [] ((root, z) ∷ []))
  longest_span root from c x e g s =
      let r = first_start root from c e g in
      let at_least = s.at_least in
      ⊎_elim (λ lt. absurd (reach_walks ways Ends same_pair last near e.1 (root, x) s.reaches (r.4 x at_least lt)))
      (λ ge. ⊎_elim (λ lt. absurd (s.least r.0 r.1 lt (reaches_end e (root, r.0) r.3)))
      (λ le. let same : r.0 ≡ x = omega (arith, ge, le) in (
        subst (λ k. k < from + c) same r.2,
        subst (λ k. ReachesLongest ways Ends (root, k) e) same r.3,
        subst (λ k. (z : ℕ) → from ≤ z → z < k → HasNoWalk ways Ends [] ((root, z) ∷ [])) same r.4,
      ))
      (cases_lt r.0 x))
      (cases_lt x r.0)

module _ (s : Search) (g : Setting) (ok : IsSettingOf s g) where
  abbrev Ending : Pair → Type 0
  Ending n = IsTrue (ends s n)

  abbrev Passed : ℕ → Type 0
  Passed y = IsPassedOf s (IsLongestFrom s) y

  same_gives : (from : List Pair) (r : Option Pair) → GivesLongest (ways g.places s.text s.hi) (Stops g.places) from r → GivesLongest (next_of s) (λ n. IsTrue (ends s n)) from r
  same_gives from r h = subst (λ E. GivesLongest (next_of s) E from r) (λ i n. ends_are s g ok n i) (subst (λ ps. GivesLongest (ways ps s.text s.hi) (Stops g.places) from r) ok.places h)

  answers : (from x : ℕ) (e : Pair) → IsLongestRaised s from → GivesLongest (next_of s) (λ n. IsTrue (ends s n)) (all_starts (is_anchored s.anchoring) 0 from s.hi) (Some e) →
      IsLeastStart (next_of s) (λ n. IsTrue (ends s n)) 0 from e.1 x → may_end_at s e.1 ≡ true →
      (w : List Pair) × IsLongestAnswer s (record { start = x; walk = w }) × EndsAt w e
  answers from x e raised given least bound =
      let a = is_anchored s.anchoring in
      let b = by_bytes s g ok in
      let r = longest_span (next_of s) (λ n. IsTrue (ends s n)) (last_in s b) (near_in s b) 0 from (count_of a from s.hi) x e
      (subst (λ xs. FirstReaches (next_of s) (λ n. IsTrue (ends s n)) xs e) (counted a 0 from s.hi) given) least in
      let at_least = least.at_least in
      let low = raised.start.0 in
      let inside = in_count s b a from x raised.start.1 at_least r.0 (λ h. raised.start.2 h) in (
        r.1.0,
        record {
          is_start = (omega (arith, at_least, low), inside.0, λ h. inside.1 h);
          counts = r.1.1;
          allowed = allowed_at s b r.1.0 e r.1.2 ∙ bound;
          none_before = λ y is lt. ⊎_elim (λ before. raised.passed y is before) (λ behind. inl (r.2 y behind lt)) (cases_lt y from);
        },
        r.1.2,
      )

  raises : (from : ℕ) (e : Pair) → GivesLongest (next_of s) (λ n. IsTrue (ends s n)) (all_starts (is_anchored s.anchoring) 0 from s.hi) (Some e) →
      may_end_at s e.1 ≡ false → Passed from
  raises from e given off =
      ⊎_elim (λ f. inr (f.0, f.1, allowed_at s (by_bytes s g ok) f.0 e f.2 ∙ off)) (λ f. inl f.0) given

  raised_on : (from : ℕ) → IsLongestRaised s from → Passed from → from < s.hi → is_anchored s.anchoring ≡ false → IsLongestRaised s (from + 1)
  raised_on from raised passed lt free =
      let low = raised.start.0 in
      record {
        start = (omega (arith, low), omega (arith, lt), λ h. absurd (true≢false (sym h ∙ free)));
        passed = λ y is less. ⊎_elim (λ before. raised.passed y is before)
            (λ ge. let e : from ≡ y = omega (arith, ge, less) in subst (λ k. IsPassedOf s (IsLongestFrom s) k) e passed) (cases_lt y from);
      }

  passed_all : (from : ℕ) → IsLongestRaised s from → Passed from → (s.hi ≤ from) ⊎ (is_anchored s.anchoring ≡ true) → HasNoLongestAnswer s
  passed_all from raised passed done y is =
      ⊎_elim (λ before. raised.passed y is before)
      (λ ge. let le = is.1 in ⊎_elim
      (λ high. let e : from ≡ y = omega (arith, ge, high, le) in subst (λ k. IsPassedOf s (IsLongestFrom s) k) e passed)
      (λ h. subst (λ k. IsPassedOf s (IsLongestFrom s) k) (raised.start.2 h ∙ sym (is.2 h)) passed) done)
      (cases_lt y from)

  no_answer : (from : ℕ) → IsLongestRaised s from → HasNoWalk (next_of s) (λ n. IsTrue (ends s n)) [] (all_starts (is_anchored s.anchoring) 0 from s.hi) →
      HasNoLongestAnswer s
  no_answer from raised none y is =
      let a = is_anchored s.anchoring in
      let b = by_bytes s g ok in
      ⊎_elim (λ before. raised.passed y is before)
      (λ behind. inl (starts_none (next_of s) (λ n. IsTrue (ends s n)) same_pair (last_in s b) (near_in s b) 0 from (count_of a from s.hi)
      (subst (λ xs. HasNoWalk (next_of s) (λ n. IsTrue (ends s n)) [] xs) (counted a 0 from s.hi) none) y behind
      (counts s b a from y behind is.1 (λ h. is.2 h) raised.start.0)))
      (cases_lt y from)

pub longest_span_law : LongestSpanLaw
longest_span_law = record {
  answers = λ s g from x e ok r h least may.
      answers s g ok from x e r (same_gives s g ok (all_starts (is_anchored s.anchoring) 0 from s.hi) (Some e) h)
      (least_is s g ok from e.1 x (least_start g s.text s.hi e.1 0 from x 0 least)) may;
  raises = λ s g from e ok r h off.
      let p = raises s g ok from e (same_gives s g ok (all_starts (is_anchored s.anchoring) 0 from s.hi) (Some e) h) off in (
        p,
        (λ lt free. raised_on s g ok from r p lt free),
        passed_all s g ok from r p,
      );
  none = λ s g from ok r h. no_answer s g ok from r (same_gives s g ok (all_starts (is_anchored s.anchoring) 0 from s.hi) None h);
}
