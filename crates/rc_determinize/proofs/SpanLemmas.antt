-- The greatest span, by states forwards and backwards.
use Rattle.std.proofs.Common.{◌≡◌, ℕ, zero, suc, ◌+◌, ◌-◌, ◌<◌, ◌≤◌, List, [], ◌∷◌, length, Option, Some, None, Bool, true, false, true≢false, IsTrue, get_or, inl, inr, ⊎_elim, sym, subst, ap, ap₂, ◌∙◌, refl, arith}
use Rattle.std.proofs.lemmas.Bool.{cases_lt, cases_eq}
use Rattle.rc_text.specs.Found.{Found}
use Rattle.rc_walks.specs.Walks.{Pair, IsIn, IsWalk, stops, goes}
use Rattle.rc_program.specs.Text.{Text}
use Rattle.rc_program.specs.Program.{place_at, ways, is_match_place}
use Rattle.rc_program.specs.Answer.{Search, next_of, ends, last_of, IsStart, is_anchored, only, pattern_at}
use Rattle.rc_program.specs.Greatest.{IsGreatest, IsSpelledIn, HasNoSpan}
use Rattle.rc_program.proofs.AnswerLemmas.{last_of_more, walk_ends, walk_within, match_place_is}
use Rattle.rc_determinize.specs.Run.{Reaches, arrived, goes_on, IsGoal}
use Rattle.rc_determinize.specs.States.{Setting, Stops, all_starts}
use Rattle.rc_determinize.specs.Sets.{Comes, IsLeastMatch}
use Rattle.rc_determinize.specs.Sets as sets
use Rattle.rc_determinize.specs.Backward.{IsFirstRoot, IsLeastSoFar}
use Rattle.rc_determinize.specs.Laws.{IsSettingOf}
use Rattle.rc_determinize.specs.Spans.{IsSomeMatch, IsLastSoFar, last_at, IsSpelled, AreRoots, GreatestSpanLaw}
use Rattle.rc_determinize.proofs.LawLemmas.{in_starts, starts_in}
use Rattle.rc_walks.proofs.CutLemmas.{cut}
use Rattle.rc_program.proofs.WayLemmas.{same_pair}
use Rattle.rc_determinize.specs.Steps.{IsByBytes}
use Rattle.rc_determinize.proofs.RunLemmas.{reach_long}
use Rattle.rc_determinize.proofs.AnswerLemmas as answers
use Rattle.rc_determinize.proofs.AnswerLemmas.{near_in, last_in}

-- ROOTS

some_root : (Holds : ℕ → Type 0) (roots : List ℕ) (k : ℕ) → IsFirstRoot Holds roots (Some k) →
    (k < length roots) × Holds (get_or roots k 0) × ((j : ℕ) → j < k → ¬ Holds (get_or roots j 0))
some_root Holds [] k h = absurd h
some_root Holds (r ∷ rs) zero h = (omega arith, h, λ j l. absurd (omega (arith, l)))
some_root Holds (r ∷ rs) (suc k) h =
    let t = some_root Holds rs k h.1 in let l = t.0 in (omega (arith, l), t.1, λ j lt. before j lt t.2)
  where
    before : (j : ℕ) → j < suc k → ((i : ℕ) → i < k → ¬ Holds (get_or rs i 0)) → ¬ Holds (get_or (r ∷ rs) j 0)
    before zero lt rest = h.0
    before (suc j) lt rest = rest j (omega (arith, lt))

no_root : (Holds : ℕ → Type 0) (roots : List ℕ) → IsFirstRoot Holds roots None → (j : ℕ) → j < length roots → ¬ Holds (get_or roots j 0)
no_root Holds [] h j lt = absurd (omega (arith, lt))
no_root Holds (r ∷ rs) h zero lt = h.0
no_root Holds (r ∷ rs) h (suc j) lt = no_root Holds rs h.1 j (omega (arith, lt))

-- WALKS

module _ (W : Pair → List Pair) where
  walk_comes : (Ends : Pair → Type 0) (origin : List Pair) {p f w : List Pair} → IsWalk W Ends p f w → ((n : Pair) → IsIn n f → Comes W origin n) →
      Comes W origin (last_of w)
  walk_comes Ends origin (stops k here fresh matched) from = from k here
  walk_comes Ends origin (goes k here fresh rest) from =
      subst (λ n. Comes W origin n) (sym (last_of_more W Ends k rest))
      (walk_comes Ends origin rest (λ n i. sets.goes n k (from k here) i))

  walk_back : (Ends : Pair → Type 0) {p f w : List Pair} → IsWalk W Ends p f w →
      (n : Pair) × IsIn n f × Reaches W (IsGoal Ends (last_of w).1) n
  walk_back Ends (stops k here fresh matched) = (k, here, arrived k (matched, refl))
  walk_back Ends (goes k here fresh rest) =
      let r = walk_back Ends rest in
      (k, here, subst (λ e. Reaches W (IsGoal Ends e) k) (sym (ap (λ (n : Pair). n.1) (last_of_more W Ends k rest))) (goes_on k r.0 r.1 r.2))

  comes_back : (Goal : Pair → Type 0) (origin : List Pair) {n : Pair} → Comes W origin n → Reaches W Goal n →
      (m : Pair) × IsIn m origin × Reaches W Goal m
  comes_back Goal origin (sets.begins n h) r = (n, h, r)
  comes_back Goal origin (sets.goes n m c e) r = comes_back Goal origin c (goes_on m n e r)

later : (g : Setting) (t : Text) (hi : ℕ) (origin : List Pair) (i : ℕ) (matched last : Option ℕ) →
    IsLeastMatch g.places (λ q. Comes (ways g.places t hi) origin (q, i)) matched → IsLastSoFar g t hi origin i last →
    IsLastSoFar g t hi origin (i + 1) (last_at i matched last)
later g t hi origin i None None m l = λ y lt. ⊎_elim
    (λ e. subst (λ k. ¬ IsSomeMatch g (λ q. Comes (ways g.places t hi) origin (q, k))) e (λ z. m z.0 z.1 z.2))
    (λ ne. l y (omega (arith, lt, ne))) (cases_eq i y)
later g t hi origin i None (Some e) m l = (
  let a = l.0 in omega (arith, a),
  l.1,
  λ y a lt. ⊎_elim
      (λ e. subst (λ k. ¬ IsSomeMatch g (λ q. Comes (ways g.places t hi) origin (q, k))) e (λ z. m z.0 z.1 z.2))
      (λ ne. l.2 y a (omega (arith, lt, ne))) (cases_eq i y),
)
later g t hi origin i (Some q) last m l = (omega arith, (q, m.1, m.0), λ y a lt. absurd (omega (arith, a, lt)))

module _ (s : Search) (g : Setting) (ok : IsSettingOf s g) (bounded : s.lo ≤ s.hi) where
  abbrev W : Pair → List Pair
  W = next_of s

  abbrev Ends : Pair → Type 0
  Ends n = IsTrue (ends s n)

  abbrev origin : List Pair
  origin = all_starts (is_anchored s.anchoring) 0 s.lo s.hi

  by_bytes : IsByBytes s.places
  by_bytes = subst (λ ps. IsByBytes ps) ok.places (let k = ok.setting in k.by_bytes)

  stop_is : (n : Pair) → Stops g.places n ≡ Ends n
  stop_is n = ap₂ (λ ps (o : Option ℕ). IsTrue (is_match_place o (place_at ps n.0))) ok.places (sym ok.all)

  ways_are : ways g.places s.text s.hi ≡ W
  ways_are = ap (λ ps. ways ps s.text s.hi) ok.places

  start_of : (m : Pair) → IsIn m origin → (m.0 ≡ 0) × IsStart s m.1
  start_of m h = by_anchor (is_anchored s.anchoring) refl h
    where
      by_anchor : (b : Bool) → is_anchored s.anchoring ≡ b → IsIn m (all_starts b 0 s.lo s.hi) → (m.0 ≡ 0) × IsStart s m.1
      by_anchor true e h = ⊎_elim
          (λ f. let a : s.lo ≡ m.1 = ap (λ (n : Pair). n.1) f in
          (sym (ap (λ (n : Pair). n.0) f), (omega (arith, a), omega (arith, a, bounded), λ t. sym a)))
          (λ never. absurd never) h
      by_anchor false e h = ⊎_elim
          (λ f. let a : s.lo ≡ m.1 = ap (λ (n : Pair). n.1) f in
          (sym (ap (λ (n : Pair). n.0) f), (omega (arith, a), omega (arith, a, bounded), λ t. sym a)))
          (λ i. let r = in_starts 0 (s.lo + 1) (s.hi - s.lo) m.0 m.1 i in let a = r.1 in let b = r.2 in
          (r.0, (omega (arith, a), omega (arith, a, b, bounded), λ t. absurd (true≢false (sym t ∙ e))))) h

  of_start : (x : ℕ) → IsStart s x → IsIn (0, x) origin
  of_start x st = by_anchor (is_anchored s.anchoring) refl
    where
      by_anchor : (b : Bool) → is_anchored s.anchoring ≡ b → IsIn (0, x) (all_starts b 0 s.lo s.hi)
      by_anchor true e = inl (ap (λ k. (0, k)) (sym (st.2 e)))
      by_anchor false e =
          let low = st.0 in let high = st.1 in
          ⊎_elim (λ same. inl (ap (λ k. (0, k)) same))
          (λ ne. inr (starts_in 0 (s.lo + 1) (s.hi - s.lo) x (omega (arith, low, ne)) (omega (arith, low, high)))) (cases_eq s.lo x)

  -- what is spelled is met forwards
  met : (n : Found) → IsSpelledIn s n → (n.end < s.hi + 1) × IsSomeMatch g (λ q. Comes (ways g.places s.text s.hi) origin (q, n.end))
  met n h =
      let c = walk_comes W Ends origin h.is_walk (λ k i. ⊎_elim (λ e. subst (λ m. Comes W origin m) e (sets.begins (0, n.start) (of_start n.start h.is_start))) (λ never. absurd never) i) in
      let high = (walk_within s.places s.text s.hi Ends n.start h.is_walk
      (λ k i. ⊎_elim (λ e. let f : n.start ≡ k.1 = ap (λ (m : Pair). m.1) e in let a = h.is_start.1 in (omega (arith, f), omega (arith, f, a))) (λ never. absurd never) i)).2 in
      let at_end = h.position in (
        omega (arith, high, at_end),
        (
          (last_of h.walk).0,
          subst (λ w. Comes w origin ((last_of h.walk).0, n.end)) (sym ways_are) (subst (λ y. Comes W origin ((last_of h.walk).0, y)) h.position c),
          subst (λ E. E) (sym (stop_is ((last_of h.walk).0, n.end))) (walk_ends W Ends h.is_walk),
        ),
      )

  none : IsLastSoFar g s.text s.hi origin (s.hi + 1) None → HasNoSpan s
  none l n h = let m = met n h in l n.end m.0 m.1

  module _ (roots : List ℕ) (are : AreRoots s roots) (e x k : ℕ) (l : IsLastSoFar g s.text s.hi origin (s.hi + 1) (Some e))
      (b : IsLeastSoFar g s.text s.hi e roots s.lo (Some (x, k))) where
    reach_is : (n : Pair) → Reaches (ways g.places s.text s.hi) (IsGoal (Stops g.places) e) n ≡ Reaches W (IsGoal Ends e) n
    reach_is n = ap₂ (λ w E. Reaches w (IsGoal E e) n) ways_are (λ i m. stop_is m i)

    here : (k < length roots) × Reaches W (IsGoal Ends e) (get_or roots k 0, x)
    here = let r = some_root _ roots k b.2 in (r.0, subst (λ T. T) (reach_is (get_or roots k 0, x)) r.1)

    none_before : (y p : ℕ) → s.lo ≤ y → y < x → ¬ IsSpelled s p y e
    none_before y p a lt h =
        let r = (are p y e).0 h in
        no_root _ roots (b.3 y a lt) p r.0 (subst (λ T. T) (sym (reach_is (get_or roots p 0, y))) r.1)

    -- a walk leads to the end from some start
    started : (y : ℕ) × IsStart s y × ((p : ℕ) × IsSpelled s p y e)
    started =
        let q = l.1 in
        let c : Comes W origin (q.0, e) = subst (λ w. Comes w origin (q.0, e)) ways_are q.1 in
        let r = comes_back W (IsGoal Ends e) origin c (arrived (q.0, e) (subst (λ E. E) (stop_is (q.0, e)) q.2, refl)) in
        let st = start_of r.0 r.1 in
        (r.0.1, st.1, spelled r.0.1 (subst (λ m. Reaches W (IsGoal Ends e) (m, r.0.1)) st.0 r.2))
      where
        spelled : (y : ℕ) → Reaches W (IsGoal Ends e) (0, y) → (p : ℕ) × IsSpelled s p y e
        spelled y r =
            let z = reach_long W Ends same_pair (last_in s by_bytes) (near_in s by_bytes) e r in
            let w = cut W Ends same_pair z.3.1 z.1 in
            let at = answers.last_at w.0 z.0 w.2 in (
              pattern_at (place_at s.places (last_of w.0).0),
              (w.0, w.1, match_place_is (only s.anchoring) (place_at s.places (last_of w.0).0) (walk_ends W Ends w.1), ap (λ (n : Pair). n.1) at ∙ z.2),
            )

    start_is : IsStart s x
    start_is =
        let st = started in let low = st.1.0 in let high = b.1 in let end_in = l.0 in
        let no_later : x ≤ st.0 = ⊎_elim (λ lt. absurd (none_before st.0 st.2.0 low lt st.2.1)) (λ ge. ge) (cases_lt st.0 x) in
        let at_least = b.0 in
        (at_least, omega (arith, high, end_in), λ t. let f = st.1.2 t in omega (arith, no_later, at_least, f))

    greatest : IsGreatest s (record { pattern = k; start = x; end = e })
    greatest =
        let w = (are k x e).1 here in
        record {
          is_spelled = record { is_start = start_is; walk = w.0; is_walk = w.1; pattern = w.2; position = w.3 };
          is_most = λ n h.
              let m = met n h in
              let span : IsSpelled s n.pattern n.start n.end = (h.walk, h.is_walk, h.pattern, h.position) in
              ⊎_elim (λ later. absurd (l.2 n.end later m.0 m.1))
              (λ no_later. ⊎_elim (λ less. inl less)
              (λ ge. let same : n.end ≡ e = omega (arith, no_later, ge) in
              let span2 : IsSpelled s n.pattern n.start e = subst (λ z. IsSpelled s n.pattern n.start z) same span in
              inr (
                same,
                ⊎_elim (λ before. absurd (none_before n.start n.pattern h.is_start.0 before span2))
                    (λ after. ⊎_elim
                    (λ eq. inr (
                      sym eq,
                      ⊎_elim
                          (λ lower. let r = (are n.pattern n.start e).0 span2 in
                          absurd ((some_root _ roots k b.2).2 n.pattern lower
                          (subst (λ T. T) (sym (reach_is (get_or roots n.pattern 0, x))) (subst (λ z. Reaches W (IsGoal Ends e) (get_or roots n.pattern 0, z)) (sym eq) r.1))))
                          (λ fine. fine) (cases_lt n.pattern k),
                    ))
                    (λ ne. inl (omega (arith, after, ne))) (cases_eq x n.start))
                    (cases_lt n.start x),
              ))
              (cases_lt n.end e))
              (cases_lt e n.end);
        }

pub greatest_span_law : GreatestSpanLaw
greatest_span_law = record {
  later = later;
  greatest = λ s g roots e x k ok are bounded l b. greatest s g ok bounded roots are e x k l b;
  none = λ s g ok bounded l. none s g ok bounded l;
}
