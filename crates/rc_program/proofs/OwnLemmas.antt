-- Each walk to the match place of a pattern names slots of that pattern alone.
use Rattle.std.proofs.Common.{◌≡◌, ℕ, zero, suc, ◌+◌, ◌-◌, ◌*◌, ◌<◌, ◌≤◌, ◌⊎◌, Bool, List, [], ◌∷◌, length, map, inl, inr, ⊎_elim, sym, subst, ap, ◌∙◌, refl, arith, IsTrue}
use Rattle.rc_pattern.specs.Re.{Re}
use Rattle.rc_pattern.specs.WellFormed.{group_count}
use Rattle.rc_walks.specs.Walks.{Pair, IsIn, IsWalk, stops, goes}
use Rattle.rc_program.specs.Text.{Text, holds, ahead}
use Rattle.rc_program.specs.Program.{Place, choice, byte, branch, scalar, guard, slot, accept, place_at, ways, ways_out, pair_at, stays, part, pattern_part, choice_of_patterns, program}
use Rattle.rc_program.specs.Answer.{last_of}
use Rattle.rc_program.specs.Columns.{IsAmong, OwnSlots, column_at, match_count, matches_before, range_of}
use Rattle.rc_program.proofs.AnswerLemmas.{last_of_more}
use Rattle.rc_program.proofs.ColumnLemmas.{column_of, matches_more, names_none, none_yet, slot_in_range}
use Rattle.rc_program.proofs.EntryLemmas.{pattern_sealed, walk_inside}
use Rattle.rc_program.proofs.PartLemmas.{Stand, Stand-first, Stand-second}
use Rattle.rc_program.proofs.PlaceLemmas.{AnyNumber, IsBetween, LiesInPart, pattern_sized}
use Rattle.rc_program.proofs.WholeLemmas.{beyond_part, pattern_ends, pattern_stands, stand_all}

not_match : (q : Place) → ((p : ℕ) → q ≡ accept p → ⊥) → match_count q ≡ 0
not_match (accept p) differs = absurd (differs p refl)
not_match (slot k n) differs = refl
not_match (choice ns) differs = refl
not_match (byte rs n) differs = refl
not_match (branch ts) differs = refl
not_match (scalar rs n) differs = refl
not_match (guard l n) differs = refl

-- as many match places stand before each of some places as before the first, if none of those is one
none_between : (prog : List Place) (a b : ℕ) → ((n : ℕ) → a ≤ n → n < b → match_count (place_at prog n) ≡ 0) → (d : ℕ) → a + d ≤ b →
    matches_before prog (a + d) ≡ matches_before prog a
none_between prog a b none zero l = let e : a + 0 ≡ a = omega arith in ap (matches_before prog) e
none_between prog a b none (suc d) l =
    let e : a + suc d ≡ suc (a + d) = omega arith in
    let i = none_between prog a b none d (omega arith) in
    let z = none (a + d) (omega arith) (omega arith) in
    ap (matches_before prog) e ∙ matches_more prog (a + d) ∙ (let s : matches_before prog (a + d) + match_count (place_at prog (a + d)) ≡ matches_before prog a = omega (arith, i, z) in s)

abbrev IsNoMatch : Place → Type 0
IsNoMatch (accept p) = ⊥
IsNoMatch q = Unit {0}

no_accept : (ns : List ℕ) (p : ℕ) → choice ns ≡ accept p → ⊥
no_accept ns p e = subst IsNoMatch e tt

module _ (prog : List Place) where
  -- in a pattern's part
  part_count : (q s : ℕ) (h : Re) (slots start next : ℕ) → Stand prog start ((pattern_part q s h).places slots start next) →
      (n : ℕ) → start ≤ n → n < start + (pattern_part q s h).size → matches_before prog n ≡ matches_before prog start
  part_count q s h slots start next st n low high =
      let none : (m : ℕ) → start ≤ m → m < start + (part h).size → match_count (place_at prog m) ≡ 0 =
      λ m l k. not_match (place_at prog m) (λ p e.
      ⊎_elim (λ b. absurd (omega (arith, l, b))) (λ b. absurd (omega (arith, k, b)))
      (beyond_part prog s h start m p (pattern_stands prog q s h slots start next st) e)) in
      let e : start + (n - start) ≡ n = omega arith in
      subst (λ z. matches_before prog z ≡ matches_before prog start) e (none_between prog start (start + (part h).size) none (n - start) (omega (arith, low, high)))

  -- and behind it
  behind_part : (q s : ℕ) (h : Re) (slots start next : ℕ) → Stand prog start ((pattern_part q s h).places slots start next) →
      matches_before prog (start + (pattern_part q s h).size) ≡ suc (matches_before prog start)
  behind_part q s h slots start next st =
      let e : start + (pattern_part q s h).size ≡ suc (start + (part h).size) = omega arith in
      let i = part_count q s h slots start next st (start + (part h).size) (omega arith) (omega arith) in
      let one = ap match_count (pattern_ends prog q s h slots start next st) in
      ap (matches_before prog) e ∙ matches_more prog (start + (part h).size)
      ∙ (let s : matches_before prog (start + (part h).size) + match_count (place_at prog (start + (part h).size)) ≡ suc (matches_before prog start) = omega (arith, i, one) in s)

module _ (W : Pair → List Pair) (E : Pair → Type 0) where
  -- a walk from some pairs is one from the first, or from one of the others
  by_way : {passed f w : List Pair} (a : Pair) → IsWalk W E passed (a ∷ f) w → IsWalk W E passed (a ∷ []) w ⊎ IsWalk W E passed f w
  by_way a (stops n here fresh e) = ⊎_elim (λ z. inl (stops n (inl z) fresh e)) (λ z. inr (stops n z fresh e)) here
  by_way a (goes n here fresh r) = ⊎_elim (λ z. inl (goes n (inl z) fresh r)) (λ z. inr (goes n z fresh r)) here

  from_none : {passed w : List Pair} → IsWalk W E passed [] w → ⊥
  from_none (stops n here fresh e) = here
  from_none (goes n here fresh r) = here

module _ (hs : List Re) (t : Text) (hi : ℕ) (ends : Pair → Bool) where
  abbrev W : Pair → List Pair
  W = ways (program hs) t hi

  abbrev E : Pair → Type 0
  E n = IsTrue (ends n)

  -- all slots that the walk names stand before the match place of pattern p, behind the one before it
  abbrev StaysBy : ℕ → List Pair → Type 0
  StaysBy p w = (n : Pair) (k m : ℕ) → IsIn n w → place_at (program hs) n.0 ≡ slot k m → matches_before (program hs) n.0 ≡ p

  same_pairs : (x : ℕ) (ns : List ℕ) → map (pair_at x) (map stays ns) ≡ map (λ q. (q, x)) ns
  same_pairs x [] = refl
  same_pairs x (n ∷ ns) = ap (λ r. (n, x) ∷ r) (same_pairs x ns)

  -- a walk from a choice goes on by one of its ways
  from_choice : (start x p : ℕ) (ns : List ℕ) → place_at (program hs) start ≡ choice ns →
      ((further v : List Pair) → IsWalk W E further (map (λ q. (q, x)) ns) v → place_at (program hs) (last_of v).0 ≡ accept p → StaysBy p v) →
      {passed w : List Pair} → IsWalk W E passed ((start, x) ∷ []) w → place_at (program hs) (last_of w).0 ≡ accept p → StaysBy p w
  from_choice start x p ns is on (stops n here fresh e) ended =
      ⊎_elim (λ z. absurd (no_accept ns p (sym is ∙ ap (λ (k : Pair). place_at (program hs) k.0) z ∙ ended))) (λ never. absurd never) here
  from_choice start x p ns is on {passed} (goes {w = w} n here fresh rest) ended =
      ⊎_elim
      (λ z.
      let out : W n ≡ map (λ q. (q, x)) ns =
      ap W (sym z) ∙ ap (λ q. map (pair_at x) (ways_out (λ l. holds t l x) (ahead t hi x) q)) is ∙ same_pairs x ns in
      let further = on (n ∷ passed) w (subst (λ f. IsWalk W E (n ∷ passed) f w) out rest)
      (sym (ap (λ (k : Pair). place_at (program hs) k.0) (last_of_more W E n rest)) ∙ ended) in
      λ m k i inside named.
      ⊎_elim
      (λ same. absurd (names_none (choice ns) k i tt (sym is ∙ ap (λ (k : Pair). place_at (program hs) k.0) (z ∙ same) ∙ named)))
      (λ j. further m k i j named) inside)
      (λ never. absurd never) here

  -- a walk that begins in a pattern's part stays there
  part_own : (q slots a next s : ℕ) (h : Re) → Stand (program hs) a ((pattern_part q s h).places slots a next) → matches_before (program hs) a ≡ q →
      (x p : ℕ) (passed w : List Pair) → IsWalk W E passed ((a, x) ∷ []) w → place_at (program hs) (last_of w).0 ≡ accept p → StaysBy p w
  part_own q slots a next s h st count x p passed w walk ended n k m i named =
      let b : ℕ = a + (pattern_part q s h).size in
      let sealed = pattern_sealed hs t hi p q slots a next s h st in
      let inside = walk_inside (program hs) t hi (λ r. r ≡ q) a b sealed E walk
      (λ n h. ⊎_elim (λ z. subst (λ (k : Pair). IsBetween a b k.0) z (omega arith, omega arith)) (λ never. absurd never) h) in
      let same : p ≡ q = subst (LiesInPart AnyNumber (λ r. r ≡ q) a b) ended (sealed (last_of w).0 inside.1.0 inside.1.1) in
      let there = inside.0 n i in
      part_count (program hs) q s h slots a next st n.0 there.0 there.1 ∙ count ∙ sym same

  choices_own : (q slots start next s : ℕ) (rest : List Re) → Stand (program hs) start ((choice_of_patterns q s rest).places slots start next) →
      matches_before (program hs) start ≡ q → (x p : ℕ) (passed w : List Pair) → IsWalk W E passed ((start, x) ∷ []) w →
      place_at (program hs) (last_of w).0 ≡ accept p → StaysBy p w
  choices_own q slots start next s [] st count x p passed w walk ended =
      from_choice start x p [] st.0 (λ further v none e. absurd (from_none W E none)) walk ended
  choices_own q slots start next s (h ∷ rest) st count x p passed w walk ended =
      let a = pattern_part q s h in
      let b = choice_of_patterns (q + 1) (s + 2 * group_count h) rest in
      let first = Stand-first (program hs) a b slots start next st in
      let more : start + 1 ≡ suc start = omega arith in
      let begun : matches_before (program hs) (start + 1) ≡ q =
      ap (matches_before (program hs)) more ∙ matches_more (program hs) start ∙ (let z = ap match_count st.0 in let e : matches_before (program hs) start + match_count (place_at (program hs) start) ≡ q = omega (arith, z, count) in e) in
      let past : matches_before (program hs) (start + 1 + a.size) ≡ q + 1 =
      behind_part (program hs) q s h slots (start + 1) next first ∙ (let e : suc (matches_before (program hs) (start + 1)) ≡ q + 1 = omega (arith, begun) in e) in
      from_choice start x p ((start + 1) ∷ (start + 1 + a.size) ∷ []) st.0
      (λ further v on e. ⊎_elim
      (λ l. part_own q slots (start + 1) next s h first begun x p further v l e)
      (λ r. choices_own (q + 1) slots (start + 1 + a.size) next (s + 2 * group_count h) rest
      (Stand-second (program hs) a b slots start next (pattern_sized q s h slots (start + 1) next) st) past x p further v r e)
      (by_way W E (start + 1, x) on))
      walk ended

-- so it is in the program of any patterns
pub own_slots : (hs : List Re) → OwnSlots (program hs)
own_slots hs t hi x p ends w walk ended n k m i e =
    let same = choices_own hs t hi ends 0 0 0 0 (2 * length hs) hs (stand_all [] (program hs)) (none_yet (program hs)) x p [] w walk ended n k m i e in
    subst (λ q. IsAmong (range_of (program hs) q) k × (column_at (program hs) n.0 + (range_of (program hs) q).first ≡ k)) same
    (slot_in_range (program hs) n.0 k m e, column_of (program hs) n.0 k m e)
