-- Where the list of the preferred matches may be taken up.
use Rattle.std.proofs.Common.{◌≡◌, ℕ, ◌+◌, ◌<◌, ◌≤◌, ◌⊎◌, Bool, true, false, List, [], ◌∷◌, Option, Some, None, if◌then◌else◌, inl, inr, ⊎_elim, sym, ap, ◌∙◌, refl, arith, true≢false, eqb-true, nat_eq, ◌&&◌}
use Rattle.std.proofs.lemmas.Bool.{cases_Bool, cases_lt, and_parts}
use Rattle.rc_text.specs.Found.{Found}
use Rattle.rc_program.specs.Answer.{Search, Chosen, IsStart, IsPassed, IsAnswer, is_anchored}
use Rattle.rc_program.specs.Matches
use Rattle.rc_program.specs.Matches.{AreMatches, answer_from, begin_of, end_of, from_on, is_again, matches_left, next_match, unless_again}
use Rattle.rc_program.proofs.AnswerLemmas.{answer_law}
use Rattle.rc_program.proofs.MatchLemmas.{answers_lie_within}
use Rattle.rc_reach.specs.Live
use Rattle.rc_reach.specs.Live.{over_content, found_in, EndedBy, TakeUpLaw}

-- ---- between two matches

module _ (s : Search) (content : List ℕ) (free : is_anchored s.anchoring ≡ false) where
  abbrev from : ℕ → Search
  from = from_on (over_content s content)

  start_on : (k j y : ℕ) → k ≤ j → IsStart (from j) y → IsStart (from k) y
  start_on k j y h z = (omega (arith, h, z.0), z.1, λ t. absurd (true≢false (sym t ∙ free)))

  answer_on : (k j : ℕ) (c : Chosen) → k ≤ j → j ≤ c.start → IsAnswer (from k) c → IsAnswer (from j) c
  answer_on k j c h near a = record {
    is_start = (omega (arith, near), a.is_start.1, λ t. absurd (true≢false (sym t ∙ free)));
    is_first = a.is_first;
    allowed = a.allowed;
    none_before = λ y z l. a.none_before y (start_on k j y h z) l;
  }

  -- the search from a later place finds the same match, unless that begins before
  found_later : (k j : ℕ) (m : Found) → k ≤ j → j ≤ m.start → found_in s content k ≡ Some m → found_in s content j ≡ Some m
  found_later k j m h near e =
      let r = (answer_law.answer_some (from k) m).0 e in
      let at : r.0.start ≡ m.start = ap (λ (f : Found). f.start) r.2 in
      (answer_law.answer_some (from j) m).1 (r.0, answer_on k j r.0 h (omega (arith, at, near)) r.1, r.2)

  none_later : (k j : ℕ) → k ≤ j → found_in s content k ≡ None → found_in s content j ≡ None
  none_later k j h e =
      let none = (answer_law.answer_none (from k)).0 e in
      (answer_law.answer_none (from j)).1 (λ y z. none y (start_on k j y h z))

  -- which search told the next match
  told_by : (k : ℕ) (last : Option ℕ) (o : Option Found) → next_match begin_of end_of (found_in s content) k last ≡ o →
      (found_in s content k ≡ o) ⊎ (found_in s content (k + 1) ≡ o)
  told_by k last o e = by_first (found_in s content k) refl
    where
      by_first : (p : Option Found) → found_in s content k ≡ p → (found_in s content k ≡ o) ⊎ (found_in s content (k + 1) ≡ o)
      by_first None q = inl (q ∙ (ap (unless_again begin_of end_of (found_in s content) k last) (sym q) ∙ e))
      by_first (Some n) q =
          let f : unless_again begin_of end_of (found_in s content) k last (Some n) ≡ o = ap (unless_again begin_of end_of (found_in s content) k last) (sym q) ∙ e in
          ⊎_elim (λ t. inr (rw t at f)) (λ g. inl (q ∙ (rw g at f))) (cases_Bool (is_again begin_of end_of last n))

  not_again : (j : ℕ) (m : Found) → j < m.end → is_again begin_of end_of (Some j) m ≡ false
  not_again j m h =
      ⊎_elim (λ t. absurd (let e = eqb-true m.end j (and_right_of (nat_eq m.start m.end) (nat_eq m.end j) t) in omega (arith, e, h))) (λ f. f)
      (cases_Bool (is_again begin_of end_of (Some j) m))
    where
      and_right_of : (x y : Bool) → (x && y) ≡ true → y ≡ true
      and_right_of x y t = (and_parts x y t).1

  next_later : (k j : ℕ) (last : Option ℕ) (m : Found) → k < j → j ≤ m.start → j < m.end →
      next_match begin_of end_of (found_in s content) k last ≡ Some m → next_match begin_of end_of (found_in s content) j (Some j) ≡ Some m
  next_later k j last m h near far e =
      let found : found_in s content j ≡ Some m =
      ⊎_elim (λ q. found_later k j m (omega (arith, h)) near q) (λ q. found_later (k + 1) j m (omega (arith, h)) near q) (told_by k last (Some m) e) in
      ap (unless_again begin_of end_of (found_in s content) j (Some j)) found
      ∙ ap (λ b. if b then found_in s content (j + 1) else Some m) (not_again j m far)

  pub between_list : (k j : ℕ) (last : Option ℕ) (m : Found) (rest : List Found) → AreMatches begin_of end_of (found_in s content) k last (m ∷ rest) →
      k < j → j ≤ m.start → j < m.end → AreMatches begin_of end_of (found_in s content) j (Some j) (m ∷ rest)
  between_list k j last m rest (Matches.goes_on n e more) h near far = Matches.goes_on m (next_later k j last m h near far e) more

  pub none_left_list : (k j : ℕ) (last : Option ℕ) → AreMatches begin_of end_of (found_in s content) k last [] → k < j →
      AreMatches begin_of end_of (found_in s content) j (Some j) []
  none_left_list k j last (Matches.ends e) h =
      let none : found_in s content j ≡ None =
      ⊎_elim (λ q. none_later k j (omega (arith, h)) q) (λ q. none_later (k + 1) j (omega (arith, h)) q) (told_by k last None e) in
      Matches.ends (ap (unless_again begin_of end_of (found_in s content) j (Some j)) none)

-- ---- where no match begins

module _ (s : Search) (content : List ℕ) where
  abbrev find : ℕ → Option Found
  find = found_in s content

  late_again : (last : Option ℕ) (k : ℕ) (m : Found) → EndedBy last k → k < m.end → is_again begin_of end_of last m ≡ false
  late_again None k m h far = refl
  late_again (Some l) k m h far =
      ⊎_elim (λ t. absurd (let e = eqb-true m.end l (and_parts (nat_eq m.start m.end) (nat_eq m.end l) t).1 in omega (arith, e, h, far))) (λ f. f)
      (cases_Bool (is_again begin_of end_of (Some l) m))

  quiet_next : (k j : ℕ) (last : Option ℕ) (o : Option Found) → find j ≡ o → find k ≡ o → k < j → EndedBy last k →
      next_match begin_of end_of find k last ≡ next_match begin_of end_of find j None
  quiet_next k j last None e f h ended =
      ap (unless_again begin_of end_of find k last) f ∙ sym (ap (unless_again begin_of end_of find j None) e)
  quiet_next k j last (Some m) e f h ended =
      let z = answers_lie_within (over_content s content) j m e in
      ap (unless_again begin_of end_of find k last) f
      ∙ ap (λ b. if b then find (k + 1) else Some m) (late_again last k m ended (omega (arith, h, z.0, z.2)))
      ∙ sym (ap (unless_again begin_of end_of find j None) e)

  quiet_to : (k j : ℕ) (last : Option ℕ) (rest : List Found) → Live.IsQuiet s content k j → k < j → EndedBy last k →
      AreMatches begin_of end_of find j None rest → AreMatches begin_of end_of find k last rest
  quiet_to k j last [] same h ended (Matches.ends e) = Matches.ends (quiet_next k j last (find j) refl same h ended ∙ e)
  quiet_to k j last (m ∷ rest) same h ended (Matches.goes_on n e more) = Matches.goes_on m (quiet_next k j last (find j) refl same h ended ∙ e) more

  quiet_from : (k j : ℕ) (last : Option ℕ) (rest : List Found) → Live.IsQuiet s content k j → k < j → EndedBy last k →
      AreMatches begin_of end_of find k last rest → AreMatches begin_of end_of find j None rest
  quiet_from k j last [] same h ended (Matches.ends e) = Matches.ends (sym (quiet_next k j last (find j) refl same h ended) ∙ e)
  quiet_from k j last (m ∷ rest) same h ended (Matches.goes_on n e more) = Matches.goes_on m (sym (quiet_next k j last (find j) refl same h ended) ∙ e) more

  quiet_of : (k j : ℕ) → is_anchored s.anchoring ≡ false → k ≤ j →
      ((y : ℕ) → IsStart (from_on (over_content s content) k) y → y < j → IsPassed (over_content s content) y) → Live.IsQuiet s content k j
  quiet_of k j free h passed = by_answer (find j) refl
    where
      to_j : (y : ℕ) → IsStart (from_on (over_content s content) k) y → j ≤ y → IsStart (from_on (over_content s content) j) y
      to_j y z l = (omega (arith, l), z.1, λ t. absurd (true≢false (sym t ∙ free)))

      by_answer : (o : Option Found) → find j ≡ o → find k ≡ find j
      by_answer None e =
          let none = (answer_law.answer_none (from_on (over_content s content) j)).0 e in
          (answer_law.answer_none (from_on (over_content s content) k)).1
          (λ y z. ⊎_elim (λ l. passed y z l) (λ ge. none y (to_j y z ge)) (cases_lt y j)) ∙ sym e
      by_answer (Some m) e =
          let r = (answer_law.answer_some (from_on (over_content s content) j) m).0 e in
          let low = r.1.is_start.0 in
          (answer_law.answer_some (from_on (over_content s content) k) m).1 (
            r.0,
            record {
              is_start = (omega (arith, low, h), r.1.is_start.1, λ t. absurd (true≢false (sym t ∙ free)));
              is_first = r.1.is_first;
              allowed = r.1.allowed;
              none_before = λ y z l. ⊎_elim (λ b. passed y z b) (λ ge. r.1.none_before y (to_j y z ge) l) (cases_lt y j);
            },
            r.2,
          ) ∙ sym e

pub take_up_law : TakeUpLaw
take_up_law = record {
  between = λ s content k j last m rest free old h near far. between_list s content free k j last m rest old h near far;
  none_left = λ s content k j last free old h. none_left_list s content free k j last old h;
  quiet = λ s content k j last rest same h ended. (quiet_to s content k j last rest same h ended, quiet_from s content k j last rest same h ended);
  is_quiet = λ s content k j free h passed. quiet_of s content k j free h passed;
}
