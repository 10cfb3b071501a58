-- The walks of one pattern alone are, after choices from the root, those from its entry.
use Rattle.std.proofs.Common.{◌≡◌, ℕ, zero, suc, ◌+◌, ◌*◌, ◌<◌, ◌≤◌, List, [], ◌∷◌, ◌++◌, length, map, ⊎_elim, sym, subst, ap, ◌∙◌, refl, arith, IsTrue, true≢false, Option, Some, None, eqb-true}
use Rattle.std.specs.List.{AllByRecursion}
use Rattle.std.proofs.lemmas.Bool.{cases_order}
use Rattle.std.proofs.lemmas.List.Elements.{All-from_recursion}
use Rattle.rc_pattern.specs.Re.{Re}
use Rattle.rc_pattern.specs.WellFormed.{group_count}
use Rattle.rc_walks.specs.Walks.{Pair, IsIn, IsWalk, stops, goes, IsFirstWalk, HasNoWalk}
use Rattle.rc_walks.proofs.WalkLemmas.{drop_way, first_after, first_goes}
use Rattle.rc_walks.proofs.CutLemmas.{loosen}
use Rattle.rc_walks.proofs.StackLemmas.{dead_if_tried}
use Rattle.rc_walks.proofs.TryLemmas.{first_way}
use Rattle.rc_walks.proofs.ThreadLemmas.{Alike, first_alike, none_alike}
use Rattle.rc_program.specs.Text.{Text, holds, ahead}
use Rattle.rc_program.specs.Program.{Place, choice, accept, place_at, ways, ways_out, pair_at, is_match_place, pattern_part, choice_of_patterns, program, entry, entry_from}
use Rattle.rc_program.specs.Answer.{last_of, pattern_at}
use Rattle.rc_program.specs.Laws.{IsChoice, EndsFor, EntryLaw}
use Rattle.rc_program.proofs.WayLemmas.{same_pair, no_match, no_way_from}
use Rattle.rc_program.proofs.PlaceLemmas.{IsBetween, LiesInPart, AnyNumber, any_groups, pattern_sound, pattern_sized, choice_sound, choice_sized, choice_some, later_suit, sound_targets, way_to}
use Rattle.rc_program.proofs.AnswerLemmas.{last_of_more, walk_ends, match_place_is}
use Rattle.rc_program.proofs.PartLemmas.{Stand, Stand-first, Stand-second}
use Rattle.rc_program.proofs.WholeLemmas.{stand_all}

-- what holds of each of some places holds of the program's places where they stand
stand_each : (P : Place → Type 0) (prog : List Place) (start : ℕ) (qs : List Place) → Stand prog start qs → AllByRecursion P qs →
    (n : ℕ) → start ≤ n → n < start + length qs → P (place_at prog n)
stand_each P prog start [] st all n low high = absurd (omega arith)
stand_each P prog start (q ∷ qs) st all n low high =
    ⊎_elim (λ e. subst (λ z. P (place_at prog z)) e (subst P (sym st.0) all.0))
    (⊎_elim (λ l. stand_each P prog (suc start) qs st.1 all.1 n (omega arith) (omega arith)) (λ l. absurd (omega arith)))
    (cases_order start n)

-- a place's numbers lie between a and b, and so do those of all places between
abbrev pub IsSealed : List Place → (ℕ → Type 0) → ℕ → ℕ → Type 0
IsSealed prog Accepts a b = (n : ℕ) → a ≤ n → n < b → LiesInPart AnyNumber Accepts a b (place_at prog n)

module _ (prog : List Place) (t : Text) (hi : ℕ) (Accepts : ℕ → Type 0) (a b : ℕ) (sealed : IsSealed prog Accepts a b) where
  way_inside : (n m : Pair) → IsBetween a b n.0 → IsIn m (ways prog t hi n) → IsBetween a b m.0
  way_inside n m i h =
      way_to (IsBetween a b) prog t hi n m (sound_targets AnyNumber Accepts a b (place_at prog n.0) (sealed n.0 i.0 i.1)) h

  -- a walk that begins between them stays there
  pub walk_inside : (Ends : Pair → Type 0) {p f w : List Pair} → IsWalk (ways prog t hi) Ends p f w → ((n : Pair) → IsIn n f → IsBetween a b n.0) →
      ((k : Pair) → IsIn k w → IsBetween a b k.0) × IsBetween a b (last_of w).0
  walk_inside Ends (stops k here fresh stop) inside =
      let i = inside k here in
      ((λ n h. ⊎_elim (λ e. subst (λ (q : Pair). IsBetween a b q.0) e i) (λ never. absurd never) h), i)
  walk_inside Ends (goes {w = w} k here fresh rest) inside =
      let i = inside k here in
      let r = walk_inside Ends rest (λ n h. way_inside k n i h) in (
        (λ n h. ⊎_elim (λ e. subst (λ (q : Pair). IsBetween a b q.0) e i) (λ q. r.0 n q) h),
        subst (λ (q : Pair). IsBetween a b q.0) (sym (last_of_more (ways prog t hi) Ends k rest)) r.1,
      )

  -- it ends at a match place of theirs
  ends_inside : (only : Option ℕ) {p w : List Pair} (n x : ℕ) → IsBetween a b n →
      IsWalk (ways prog t hi) (λ m. IsTrue (is_match_place only (place_at prog m.0))) p ((n, x) ∷ []) w →
      (place_at prog (last_of w).0 ≡ accept (pattern_at (place_at prog (last_of w).0))) × Accepts (pattern_at (place_at prog (last_of w).0))
  ends_inside only {w = w} n x i walk =
      let Ends = λ (m : Pair). IsTrue (is_match_place only (place_at prog m.0)) in
      let e = match_place_is only (place_at prog (last_of w).0) (walk_ends (ways prog t hi) Ends walk) in
      let l = (walk_inside Ends walk (λ m h. ⊎_elim (λ q. subst (λ (k : Pair). IsBetween a b k.0) q i) (λ never. absurd never) h)).1 in
      (e, subst (LiesInPart AnyNumber Accepts a b) e (sealed (last_of w).0 l.0 l.1))

  -- pairs passed outside make no difference to walks from inside
  outside_alike : (Ends : Pair → Type 0) (n x : ℕ) (passed : List Pair) → IsBetween a b n → ((k : Pair) → IsIn k passed → k.0 < a) →
      Alike (ways prog t hi) Ends [] passed ((n, x) ∷ [])
  outside_alike Ends n x passed i before = record {
    there = λ w walk. loosen (ways prog t hi) Ends walk passed
        (λ k h z. let j = (walk_inside Ends walk (λ m q. ⊎_elim (λ e. subst (λ (k : Pair). IsBetween a b k.0) e i) (λ never. absurd never) q)).0 k h in
        let l = before k z in omega (arith, j.0, l));
    back = λ w walk. loosen (ways prog t hi) Ends walk [] (λ k h z. z);
  }

only_one : (p q : ℕ) (place : Place) → IsTrue (is_match_place (Some p) place) → place ≡ accept q → p ≡ q
only_one p q place h e = sym (eqb-true q p (subst (λ z. IsTrue (is_match_place (Some p) z)) e h))

module _ (hs : List Re) (t : Text) (hi p : ℕ) where
  abbrev W : Pair → List Pair
  W = ways (program hs) t hi

  abbrev E : Pair → Type 0
  E = EndsFor (program hs) p

  last_way : (n m : Pair) → E n → ¬ IsIn m (W n)
  last_way n m e = no_way_from (Some p) (λ l. holds t l n.1) (ahead t hi n.1) (place_at (program hs) n.0) n.1 m e

  -- no walk of pattern p begins where only others' match places can be reached
  no_other : (Accepts : ℕ → Type 0) (a b : ℕ) → IsSealed (program hs) Accepts a b → (Accepts p → ⊥) → (x : ℕ) (passed : List Pair) → a < b →
      HasNoWalk W E passed ((a, x) ∷ [])
  no_other Accepts a b sealed not_p x passed some v walk =
      let r = ends_inside (program hs) t hi Accepts a b sealed (Some p) a x (omega arith, some) walk in
      let e = only_one p (pattern_at (place_at (program hs) (last_of v).0)) (place_at (program hs) (last_of v).0) (walk_ends W E walk) r.0 in
      not_p (subst Accepts (sym e) r.1)

  -- what walks from the entry tell of walks from the choice at `start`
  record Tells (start entry : ℕ) (passed : List Pair) (x : ℕ) : Type 0 where
    first : (v : List Pair) → IsFirstWalk W E [] ((entry, x) ∷ []) v →
        (u : List Pair) × AllByRecursion (IsChoice (program hs)) u × IsFirstWalk W E passed ((start, x) ∷ []) (u ++ v)
    none : HasNoWalk W E [] ((entry, x) ∷ []) → HasNoWalk W E passed ((start, x) ∷ [])

  -- one more choice before
  one_choice : (start left right entry : ℕ) (passed : List Pair) (x : ℕ) → place_at (program hs) start ≡ choice (left ∷ right ∷ []) →
      ((k : Pair) → IsIn k passed → k.0 < start) →
      ((v : List Pair) → IsFirstWalk W E [] ((entry, x) ∷ []) v →
      (u : List Pair) × AllByRecursion (IsChoice (program hs)) u × IsFirstWalk W E ((start, x) ∷ passed) ((left, x) ∷ (right, x) ∷ []) (u ++ v)) →
      (HasNoWalk W E [] ((entry, x) ∷ []) → HasNoWalk W E ((start, x) ∷ passed) ((left, x) ∷ (right, x) ∷ [])) →
      Tells start entry passed x
  one_choice start left right entry passed x e before first none =
      let out : W (start, x) ≡ (left, x) ∷ (right, x) ∷ [] =
      ap (λ q. map (pair_at x) (ways_out (λ l. holds t l x) (ahead t hi x) q)) e in
      let on : ¬ E (start, x) = λ h. true≢false (sym h ∙ ap (is_match_place (Some p)) e ∙ no_match (Some p) (left ∷ right ∷ [])) in
      record {
        first = λ v f. let r = first v f in (
          (start, x) ∷ r.0,
          ((left ∷ right ∷ [], e), r.1),
          first_goes W E same_pair last_way (start, x) passed [] (r.0 ++ v) (λ i. let l = before (start, x) i in omega arith) on
              (subst (λ ms. IsFirstWalk W E ((start, x) ∷ passed) ms (r.0 ++ v)) (sym out) r.2),
        );
        none = λ h v walk.
            dead_if_tried W E on (subst (λ ms. HasNoWalk W E ((start, x) ∷ passed) ms) (sym out) (none h)) walk;
      }

  -- the places of a pattern's part lead to its own match place alone
  pub pattern_sealed : (q slots start next s : ℕ) (h : Re) → Stand (program hs) start ((pattern_part q s h).places slots start next) →
      IsSealed (program hs) (λ r. r ≡ q) start (start + (pattern_part q s h).size)
  pattern_sealed q slots start next s h st n low high =
      let size = pattern_sized q s h slots start next in
      stand_each (LiesInPart AnyNumber (λ r. r ≡ q) start (start + (pattern_part q s h).size)) (program hs) start
      ((pattern_part q s h).places slots start next) st
      (pattern_sound AnyNumber (λ r. r ≡ q) q s h (any_groups s h) refl slots start next start (start + (pattern_part q s h).size) (omega arith) (omega arith))
      n low (omega (arith, size, high))

  -- and those of the later patterns' choice to theirs
  rest_sealed : (q slots start next s : ℕ) (rest : List Re) → Stand (program hs) start ((choice_of_patterns (q + 1) s rest).places slots start next) →
      IsSealed (program hs) (λ r. q < r) start (start + (choice_of_patterns (q + 1) s rest).size)
  rest_sealed q slots start next s rest st n low high =
      let size = choice_sized (q + 1) s rest slots start next in
      stand_each (LiesInPart AnyNumber (λ r. q < r) start (start + (choice_of_patterns (q + 1) s rest).size)) (program hs) start
      ((choice_of_patterns (q + 1) s rest).places slots start next) st
      (choice_sound AnyNumber (λ r. q < r) (q + 1) s rest (later_suit q (q + 1) s rest (omega arith)) slots start next start
      (start + (choice_of_patterns (q + 1) s rest).size) (omega arith) (omega arith))
      n low (omega (arith, size, high))

  before_next : (start : ℕ) (passed : List Pair) (x : ℕ) → ((n : Pair) → IsIn n passed → n.0 < start) →
      (n : Pair) → IsIn n ((start, x) ∷ passed) → n.0 < start + 1
  before_next start passed x before n i =
      ⊎_elim (λ e. let f : start ≡ n.0 = ap (λ (k : Pair). k.0) e in omega (arith, f)) (λ h. let l = before n h in omega (arith, l)) i

  -- in the choice of the patterns from number q on
  choices_tell : (q slots start next s : ℕ) (rest : List Re) (k : ℕ) → q + k ≡ p → k < length rest →
      Stand (program hs) start ((choice_of_patterns q s rest).places slots start next) → (passed : List Pair) →
      ((n : Pair) → IsIn n passed → n.0 < start) → (x : ℕ) → Tells start (entry_from start rest k) passed x
  choices_tell q slots start next s [] k e l st passed before x = absurd (omega arith)
  choices_tell q slots start next s (h ∷ rest) zero e l st passed before x =
      let a = pattern_part q s h in
      let b = choice_of_patterns (q + 1) (s + 2 * group_count h) rest in
      let right = start + 1 + a.size in
      let fewer = (start, x) ∷ passed in
      let alike = outside_alike (program hs) t hi (λ r. r ≡ q) (start + 1) right
      (pattern_sealed q slots (start + 1) next s h (Stand-first (program hs) a b slots start next st))
      E (start + 1) x fewer (omega arith, omega arith) (before_next start passed x before) in
      let no_right : HasNoWalk W E fewer ((right, x) ∷ []) =
      no_other (λ r. q < r) right (right + b.size)
      (rest_sealed q slots right next (s + 2 * group_count h) rest
      (Stand-second (program hs) a b slots start next (pattern_sized q s h slots (start + 1) next) st))
      (λ above. omega (arith, e, above)) x fewer (let some = choice_some (q + 1) (s + 2 * group_count h) rest in omega (arith, some)) in
      one_choice start (start + 1) right (start + 1) passed x st.0 before
      (λ v f. ([], tt, first_way W E same_pair (start + 1, x) (first_alike W E [] fewer ((start + 1, x) ∷ []) v alike f)))
      (λ none v walk. no_right v (drop_way W E (start + 1, x) (none_alike W E [] fewer ((start + 1, x) ∷ []) alike none) walk))
  choices_tell q slots start next s (h ∷ rest) (suc k) e l st passed before x =
      let a = pattern_part q s h in
      let b = choice_of_patterns (q + 1) (s + 2 * group_count h) rest in
      let right = start + 1 + a.size in
      let fewer = (start, x) ∷ passed in
      let ih = choices_tell (q + 1) slots right next (s + 2 * group_count h) rest k (omega (arith, e)) (omega (arith, l))
      (Stand-second (program hs) a b slots start next (pattern_sized q s h slots (start + 1) next) st) fewer
      (λ n i. let m = before_next start passed x before n i in omega (arith, m)) x in
      let no_left : HasNoWalk W E fewer ((start + 1, x) ∷ []) =
      no_other (λ r. r ≡ q) (start + 1) right
      (pattern_sealed q slots (start + 1) next s h (Stand-first (program hs) a b slots start next st))
      (λ same. omega (arith, e, same)) x fewer (omega arith) in
      one_choice start (start + 1) right (entry_from start (h ∷ rest) (suc k)) passed x st.0 before
      (λ v f. let r = ih.first v f in (r.0, r.1, first_after W E (start + 1, x) no_left r.2))
      (λ none v walk. ih.none none v (drop_way W E (start + 1, x) no_left walk))

  root_tells : (x : ℕ) → p < length hs → Tells 0 (entry hs p) [] x
  root_tells x l =
      choices_tell 0 0 0 0 (2 * length hs) hs p (omega arith) l (stand_all [] (program hs)) [] (λ n never. absurd never) x

  -- the pattern's part stands at its entry
  entry_sealed : (q slots start next s : ℕ) (rest : List Re) (k : ℕ) → k < length rest →
      Stand (program hs) start ((choice_of_patterns q s rest).places slots start next) →
      (end : ℕ) × (entry_from start rest k < end) × IsSealed (program hs) (λ r. r ≡ q + k) (entry_from start rest k) end
  entry_sealed q slots start next s [] k l st = absurd (omega arith)
  entry_sealed q slots start next s (h ∷ rest) zero l st =
      let a = pattern_part q s h in
      let b = choice_of_patterns (q + 1) (s + 2 * group_count h) rest in
      let e : q ≡ q + 0 = omega arith in (
        start + 1 + a.size,
        omega arith,
        subst (λ z. IsSealed (program hs) (λ r. r ≡ z) (start + 1) (start + 1 + a.size)) e
            (pattern_sealed q slots (start + 1) next s h (Stand-first (program hs) a b slots start next st)),
      )
  entry_sealed q slots start next s (h ∷ rest) (suc k) l st =
      let a = pattern_part q s h in
      let b = choice_of_patterns (q + 1) (s + 2 * group_count h) rest in
      let e : q + 1 + k ≡ q + suc k = omega arith in
      let r = entry_sealed (q + 1) slots (start + 1 + a.size) next (s + 2 * group_count h) rest k (omega (arith, l))
      (Stand-second (program hs) a b slots start next (pattern_sized q s h slots (start + 1) next) st) in
      (r.0, r.1, subst (λ z. IsSealed (program hs) (λ n. n ≡ z) (entry_from start (h ∷ rest) (suc k)) r.0) e r.2)

pub entry_law : EntryLaw
entry_law = record {
  first = λ hs t hi p x v l f. let r = (root_tells hs t hi p x l).first v f in
      (r.0, All-from_recursion (IsChoice (program hs)) r.0 r.1, r.2);
  none = λ hs t hi p x l. (root_tells hs t hi p x l).none;
  own = λ hs t hi p x w l walk.
      let r = entry_sealed hs t hi p 0 0 0 0 (2 * length hs) hs p l (stand_all [] (program hs)) in
      let e = ends_inside (program hs) t hi (λ n. n ≡ 0 + p) (entry hs p) r.0 r.2 None (entry hs p) x (omega arith, r.1) walk in
      e.0 ∙ ap accept (let same = e.1 in omega (arith, same));
}
