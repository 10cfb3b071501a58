-- The list of matches, over any way to look for a match, and over the answer of a search.
use Rattle.std.proofs.Common.{◌≡◌, ℕ, zero, suc, ◌+◌, ◌-◌, ◌<◌, ◌≤◌, List, [], ◌∷◌, Option, Some, None, nat_eq, length, max, ⊎_elim, sym, ap, ◌∙◌, refl, arith}
use Rattle.std.specs.List.{AllByRecursion}
use Rattle.std.proofs.lemmas.Bool.{cases_Bool, cases_lt, and_cases, eqb-false}
use Rattle.std.proofs.lemmas.Option.{none-some, same_Some}
use Rattle.rc_text.specs.Found.{Found}
use Rattle.rc_program.specs.Answer.{Search}
use Rattle.rc_program.specs.Matches
use Rattle.rc_program.specs.Matches.{begin_of, end_of, answer_from, from_on, matches_left, MatchesLaw}
use Rattle.rc_program.proofs.AnswerLemmas.{answer_within}

-- where the match before ended is where the next is looked for
abbrev pub IsAfterLast : ℕ → Option ℕ → Type 0
IsAfterLast k None = Unit {0}
IsAfterLast k (Some last) = k ≡ last

module _ {X : Type 0} (begin end : X → ℕ) (find : ℕ → Option X) (low high : ℕ) (within : Matches.LiesWithin begin end find low high) where
  -- where a match lies that was looked for from k on
  abbrev pub LiesFrom : ℕ → X → Type 0
  LiesFrom k m = (k ≤ begin m) × (low ≤ begin m) × (begin m ≤ end m) × (end m ≤ high)

  -- it ends after the match before
  abbrev pub EndsAfter : Option ℕ → X → Type 0
  EndsAfter None m = Unit {0}
  EndsAfter (Some last) m = last < end m

  unless_lies : (k : ℕ) (last : Option ℕ) (o : Option X) (m : X) → find k ≡ o → IsAfterLast k last →
      Matches.unless_again begin end find k last o ≡ Some m → LiesFrom k m × EndsAfter last m
  unless_lies k last None m was after e = absurd (none-some m e)
  unless_lies k None (Some n) m was after e = (within k m (was ∙ e), tt)
  unless_lies k (Some last) (Some n) m was after e =
      ⊎_elim
      (λ t. let f : find (k + 1) ≡ Some m = rw t at e in
      let h = within (k + 1) m f in
      ((omega (arith, h.0), h.1, h.2, h.3), omega (arith, h.0, h.2, after)))
      (λ f. let g : Some n ≡ Some m = rw f at e in
      let h = within k m (was ∙ g) in (
        h,
        ⊎_elim (λ l. l)
            (λ ge. let same : begin m ≡ end m = omega (arith, h.0, h.2, after, ge) in
            let at : end m ≡ last = omega (arith, h.0, h.2, after, ge) in
            let q = same_Some n m g in
            absurd (⊎_elim
            (λ x. eqb-false (begin n) (end n) x (rw q same))
            (λ x. eqb-false (end n) last x (rw q at))
            (and_cases (nat_eq (begin n) (end n)) (nat_eq (end n) last) f)))
            (cases_lt last (end m)),
      ))
      (cases_Bool (Matches.is_again begin end (Some last) n))

  -- where the next match lies
  pub next_lies : (k : ℕ) (last : Option ℕ) (m : X) → IsAfterLast k last → Matches.next_match begin end find k last ≡ Some m →
      LiesFrom k m × EndsAfter last m
  next_lies k last m after e = unless_lies k last (find k) m refl after e

  -- no more than n matches can be left
  abbrev pub HasRoom : ℕ → ℕ → Option ℕ → Type 0
  HasRoom n k None = high + 1 ≤ n + k
  HasRoom n k (Some last) = high ≤ n + k

  -- there is room for as many as positions are left
  pub room_left : (k : ℕ) (last : Option ℕ) → HasRoom (high + 1 - k) k last
  room_left k None = omega arith
  room_left k (Some last) = omega arith

  no_room : (k : ℕ) (last : Option ℕ) (m : X) → IsAfterLast k last → HasRoom 0 k last → LiesFrom k m × EndsAfter last m → ⊥
  no_room k None m after room next = let r : high + 1 ≤ 0 + k = room in let h = next.0 in omega (arith, r, h.0, h.2, h.3)
  no_room k (Some last) m after room next = let r : high ≤ 0 + k = room in let h = next.0 in omega (arith, r, after, h.3, next.1)

  less_room : (n k : ℕ) (last : Option ℕ) (m : X) → IsAfterLast k last → HasRoom (suc n) k last → LiesFrom k m × EndsAfter last m →
      high ≤ n + end m
  less_room n k None m after room next = let r : high + 1 ≤ suc n + k = room in let h = next.0 in omega (arith, r, h.0, h.2)
  less_room n k (Some last) m after room next = let r : high ≤ suc n + k = room in omega (arith, r, after, next.1)

  abbrev Are : ℕ → Option ℕ → List X → Type 0
  Are = Matches.AreMatches begin end find

  abbrev By : ℕ → ℕ → Option ℕ → List X
  By = Matches.matches_by begin end find

  one_step : (n k : ℕ) (last : Option ℕ) (o : Option X) → Matches.next_match begin end find k last ≡ o →
      ((m : X) → Matches.next_match begin end find k last ≡ Some m → Are (end m) (Some (end m)) (By n (end m) (Some (end m)))) →
      Are k last (Matches.and_on begin end find (λ m. By n (end m) (Some (end m))) o)
  one_step n k last None e rest = Matches.ends e
  one_step n k last (Some m) e rest = Matches.goes_on m e (rest m e)

  -- the matches as a function are the matches
  pub matches_by_are : (n k : ℕ) (last : Option ℕ) → IsAfterLast k last → HasRoom n k last → Are k last (By n k last)
  matches_by_are zero k last after room = none_left (Matches.next_match begin end find k last) refl
    where
      none_left : (o : Option X) → Matches.next_match begin end find k last ≡ o → Are k last []
      none_left None e = Matches.ends e
      none_left (Some m) e = absurd (no_room k last m after room (next_lies k last m after e))
  matches_by_are (suc n) k last after room =
      one_step n k last (Matches.next_match begin end find k last) refl
      (λ m e. matches_by_are n (end m) (Some (end m)) refl (less_room n k last m after room (next_lies k last m after e)))

  -- no other list is
  pub only_matches : (k : ℕ) (last : Option ℕ) {ms : List X} → Are k last ms → IsAfterLast k last → (n : ℕ) → HasRoom n k last → ms ≡ By n k last
  only_matches k last (Matches.ends e) after zero room = refl
  only_matches k last (Matches.ends e) after (suc n) room = rw e refl
  only_matches k last (Matches.goes_on m e rest) after zero room = absurd (no_room k last m after room (next_lies k last m after e))
  only_matches k last (Matches.goes_on m e rest) after (suc n) room =
      rw e (ap (λ ms. m ∷ ms)
      (only_matches (end m) (Some (end m)) rest refl n (less_room n k last m after room (next_lies k last m after e))))

  -- once there is room, more changes nothing
  pub same_matches : (n j k : ℕ) (last : Option ℕ) → IsAfterLast k last → HasRoom n k last → HasRoom j k last → By n k last ≡ By j k last
  same_matches n j k last after room more = only_matches k last (matches_by_are n k last after room) after j more

  -- the first of them and the others
  pub matches_by_some : (n k : ℕ) (last : Option ℕ) (m : X) → IsAfterLast k last → HasRoom n k last →
      Matches.next_match begin end find k last ≡ Some m → By n k last ≡ m ∷ By (high + 1 - end m) (end m) (Some (end m))
  matches_by_some n k last m after room e =
      sym (only_matches k last
      (Matches.goes_on m e (matches_by_are (high + 1 - end m) (end m) (Some (end m)) refl (room_left (end m) (Some (end m))))) after n room)

  pub matches_by_none : (n k : ℕ) (last : Option ℕ) → IsAfterLast k last → HasRoom n k last →
      Matches.next_match begin end find k last ≡ None → By n k last ≡ []
  matches_by_none n k last after room e = sym (only_matches k last (Matches.ends e) after n room)

  one_before : (m : X) {ms : List X} → begin m ≤ end m → end m ≤ high → Are (end m) (Some (end m)) ms → Matches.AreInOrder begin end high ms →
      Matches.AreInOrder begin end high (m ∷ ms)
  one_before m a b (Matches.ends e) o = (a, b)
  one_before m a b (Matches.goes_on n e rest) o =
      let h = next_lies (end m) (Some (end m)) n refl e in let i = h.0 in (a, i.0, h.1, o)

  -- they rise
  pub in_order : (k : ℕ) (last : Option ℕ) {ms : List X} → Are k last ms → IsAfterLast k last → Matches.AreInOrder begin end high ms
  in_order k last (Matches.ends e) after = tt
  in_order k last (Matches.goes_on m e rest) after =
      let h = (next_lies k last m after e).0 in
      one_before m h.2 h.3 rest (in_order (end m) (Some (end m)) rest refl)

  -- each lies within the bounds, from k on
  pub all_lie : (k : ℕ) (last : Option ℕ) {ms : List X} → Are k last ms → IsAfterLast k last → AllByRecursion (LiesFrom k) ms
  all_lie k last (Matches.ends e) after = tt
  all_lie k last (Matches.goes_on {ms = ms} m e rest) after =
      let h = (next_lies k last m after e).0 in
      (h, later k (end m) (omega (arith, h.0, h.2)) ms (all_lie (end m) (Some (end m)) rest refl))
    where
      later : (k j : ℕ) → k ≤ j → (ms : List X) → AllByRecursion (LiesFrom j) ms → AllByRecursion (LiesFrom k) ms
      later k j le [] a = tt
      later k j le (n ∷ ms) a = let h = a.0 in ((omega (arith, le, h.0), h.1, h.2, h.3), later k j le ms a.1)

  abbrev pub IsFew : ℕ → Option ℕ → ℕ → Type 0
  IsFew k None n = n ≤ high + 1 - max k low
  IsFew k (Some last) n = (n ≤ high - k) × (n ≤ high + 1 - low)

  more_few : (k : ℕ) (last : Option ℕ) (m : X) (n : ℕ) → IsAfterLast k last → LiesFrom k m × EndsAfter last m → n ≤ high - end m →
      IsFew k last (suc n)
  more_few k None m n after next few = let h = next.0 in omega (arith, h.0, h.1, h.2, h.3, few)
  more_few k (Some last) m n after next few = let h = next.0 in (omega (arith, after, h.3, next.1, few), omega (arith, h.1, h.2, h.3, few))

  none_few : (k : ℕ) (last : Option ℕ) → IsFew k last 0
  none_few k None = omega arith
  none_few k (Some last) = (omega arith, omega arith)

  -- there are no more than positions
  pub few : (k : ℕ) (last : Option ℕ) {ms : List X} → Are k last ms → IsAfterLast k last → IsFew k last (length ms)
  few k last (Matches.ends e) after = none_few k last
  few k last (Matches.goes_on {ms = ms} m e rest) after =
      more_few k last m (length ms) after (next_lies k last m after e) (few (end m) (Some (end m)) rest refl).0

-- what a search from k on finds lies within the bounds
pub answers_lie_within : (s : Search) → Matches.LiesWithin begin_of end_of (answer_from s) s.text.slice_start s.hi
answers_lie_within s k m e =
    let h = answer_within (from_on s k) m e in (omega (arith, h.0), omega (arith, h.0), h.1, h.2)

-- the matches that are left
pub left_are : (s : Search) (k : ℕ) (last : Option ℕ) → IsAfterLast k last →
    Matches.AreMatches begin_of end_of (answer_from s) k last (matches_left s k last)
unfolding matches_left
left_are s k last h =
    matches_by_are begin_of end_of (answer_from s) s.text.slice_start s.hi (answers_lie_within s) (s.hi + 1 - k) k last h
    (room_left begin_of end_of (answer_from s) s.text.slice_start s.hi (answers_lie_within s) k last)

-- no other list is
pub left_alone : (s : Search) (k : ℕ) (last : Option ℕ) (ms : List Found) → IsAfterLast k last →
    Matches.AreMatches begin_of end_of (answer_from s) k last ms → ms ≡ matches_left s k last
unfolding matches_left
left_alone s k last ms h a =
    only_matches begin_of end_of (answer_from s) s.text.slice_start s.hi (answers_lie_within s) k last a h (s.hi + 1 - k)
    (room_left begin_of end_of (answer_from s) s.text.slice_start s.hi (answers_lie_within s) k last)

-- the first of the matches left, and the others
pub left_some : (s : Search) (k : ℕ) (last : Option ℕ) (m : Found) → IsAfterLast k last →
    Matches.next_match begin_of end_of (answer_from s) k last ≡ Some m →
    matches_left s k last ≡ m ∷ matches_left s m.end (Some m.end)
left_some s k last m h e =
    sym (left_alone s k last (m ∷ matches_left s m.end (Some m.end)) h
    (Matches.goes_on m e (left_are s m.end (Some m.end) refl)))

-- none is left
pub left_none : (s : Search) (k : ℕ) (last : Option ℕ) → IsAfterLast k last →
    Matches.next_match begin_of end_of (answer_from s) k last ≡ None → matches_left s k last ≡ []
left_none s k last h e = sym (left_alone s k last [] h (Matches.ends e))

-- where the next match lies
pub left_lies : (s : Search) (k : ℕ) (last : Option ℕ) (m : Found) → IsAfterLast k last →
    Matches.next_match begin_of end_of (answer_from s) k last ≡ Some m →
    (k ≤ m.start) × (s.text.slice_start ≤ m.start) × (m.start ≤ m.end) × (m.end ≤ s.hi)
left_lies s k last m h e = (next_lies begin_of end_of (answer_from s) s.text.slice_start s.hi (answers_lie_within s) k last m h e).0

-- each match that is left lies within the bounds
pub left_within : (s : Search) (k : ℕ) (last : Option ℕ) → IsAfterLast k last →
    AllByRecursion (λ (m : Found). (k ≤ m.start) × (s.text.slice_start ≤ m.start) × (m.start ≤ m.end) × (m.end ≤ s.hi))
    (matches_left s k last)
left_within s k last h =
    all_lie begin_of end_of (answer_from s) s.text.slice_start s.hi (answers_lie_within s) k last (left_are s k last h) h

-- the matches that are left rise
pub left_in_order : (s : Search) (k : ℕ) (last : Option ℕ) → IsAfterLast k last → Matches.AreInOrder begin_of end_of s.hi (matches_left s k last)
left_in_order s k last h =
    in_order begin_of end_of (answer_from s) s.text.slice_start s.hi (answers_lie_within s) k last (left_are s k last h) h

-- no more are left than positions
pub left_few : (s : Search) (k : ℕ) (last : Option ℕ) → IsAfterLast k last →
    IsFew begin_of end_of (answer_from s) s.text.slice_start s.hi (answers_lie_within s) k last (length (matches_left s k last))
left_few s k last h =
    few begin_of end_of (answer_from s) s.text.slice_start s.hi (answers_lie_within s) k last (left_are s k last h) h

pub matches_law : MatchesLaw
matches_law = record {
  are_matches = λ s k. left_are s k None tt;
  alone = λ s k ms h. left_alone s k None ms tt h;
  in_order = λ s k. left_in_order s k None tt;
  few = λ s k. left_few s k None tt;
  within = answers_lie_within;
}
