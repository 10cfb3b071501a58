-- Of two walks from the root the earlier one is of no later pattern.
use Rattle.std.proofs.Common.{◌≡◌, ◌≢◌, ℕ, suc, ◌+◌, ◌*◌, ◌<◌, ◌≤◌, ◌⊎◌, List, [], ◌∷◌, length, map, inl, inr, ⊎_elim, sym, subst, ap, ◌∙◌, refl, arith, IsTrue, true≢false, Option}
use Rattle.std.specs.List.{AllByRecursion}
use Rattle.std.proofs.lemmas.Bool.{cases_order}
use Rattle.rc_pattern.specs.Re.{Re}
use Rattle.rc_pattern.specs.WellFormed.{group_count}
use Rattle.rc_walks.specs.Walks.{Pair, IsIn, IsWalk, stops, goes, IsBefore, IsFirstWalk}
use Rattle.rc_program.specs.Text.{Text, holds, ahead}
use Rattle.rc_program.specs.Program.{Place, choice, accept, place_at, ways, ways_out, pair_at, is_match_place, pattern_part, choice_of_patterns, program}
use Rattle.rc_program.specs.Answer.{last_of, pattern_at}
use Rattle.rc_program.proofs.WayLemmas.{no_match}
use Rattle.rc_program.proofs.PlaceLemmas.{IsBetween, LiesInPart, AnyNumber, any_groups, pattern_sound, pattern_sized, choice_sound, choice_sized, choice_some, later_suit, sound_targets, way_to}
use Rattle.rc_program.proofs.AnswerLemmas.{last_of_more}
use Rattle.rc_program.proofs.PartLemmas.{Stand, Stand-first, Stand-second}
use Rattle.rc_program.proofs.WholeLemmas.{stand_all}

-- what holds of each of some places holds of the program's places where they stand
stand_each : (P : Place → Type 0) (prog : List Place) (start : ℕ) (qs : List Place) → Stand prog start qs → AllByRecursion P qs →
    (n : ℕ) → start ≤ n → n < start + length qs → P (place_at prog n)
stand_each P prog start [] st all n low high = absurd (omega arith)
stand_each P prog start (q ∷ qs) st all n low high =
    ⊎_elim (λ e. subst (λ z. P (place_at prog z)) e (subst P (sym st.0) all.0))
    (⊎_elim (λ l. stand_each P prog (suc start) qs st.1 all.1 n (omega arith) (omega arith)) (λ l. absurd (omega arith)))
    (cases_order start n)

-- the places between a and b lead to each other alone, and accept such patterns alone
abbrev IsSealed : List Place → (ℕ → Type 0) → ℕ → ℕ → Type 0
IsSealed prog Accepts a b = (n : ℕ) → a ≤ n → n < b → LiesInPart AnyNumber Accepts a b (place_at prog n)

module _ (prog : List Place) (t : Text) (hi : ℕ) (Accepts : ℕ → Type 0) (a b : ℕ) (sealed : IsSealed prog Accepts a b) where
  way_inside : (n m : Pair) → IsBetween a b n.0 → IsIn m (ways prog t hi n) → IsBetween a b m.0
  way_inside n m i h =
      way_to (IsBetween a b) prog t hi n m (sound_targets AnyNumber Accepts a b (place_at prog n.0) (sealed n.0 i.0 i.1)) h

  last_inside : (Ends : Pair → Type 0) {p f w : List Pair} → IsWalk (ways prog t hi) Ends p f w → ((n : Pair) → IsIn n f → IsBetween a b n.0) →
      IsBetween a b (last_of w).0
  last_inside Ends (stops k here fresh stop) inside = inside k here
  last_inside Ends (goes {w = w} k here fresh rest) inside =
      subst (λ (q : Pair). IsBetween a b q.0) (sym (last_of_more (ways prog t hi) Ends k rest))
      (last_inside Ends rest (λ n h. way_inside k n (inside k here) h))

  -- a walk that sets out between them ends for such a pattern
  accepts_inside : (Ends : Pair → Type 0) {p w : List Pair} (n x k : ℕ) → IsBetween a b n → IsWalk (ways prog t hi) Ends p ((n, x) ∷ []) w →
      place_at prog (last_of w).0 ≡ accept k → Accepts k
  accepts_inside Ends n x k i walk e =
      let l = last_inside Ends walk (λ m h. ⊎_elim (λ q. subst (λ (z : Pair). IsBetween a b z.0) q i) (λ never. absurd never) h) in
      subst (LiesInPart AnyNumber Accepts a b) e (sealed _ l.0 l.1)

module _ (W : Pair → List Pair) (E : Pair → Type 0) where
  -- a walk that doesn't end where it begins
  record Step (n : Pair) (p v : List Pair) : Type 0 where
    rest : List Pair
    is : v ≡ n ∷ rest
    walk : IsWalk W E (n ∷ p) (W n) rest
    last : last_of v ≡ last_of rest

  step : (n : Pair) {p v : List Pair} → ¬ E n → IsWalk W E p (n ∷ []) v → Step n p v
  step n on (stops k here fresh stop) = absurd (on (subst E (sym (⊎_elim (λ e. e) (λ never. absurd never) here)) stop))
  step n {p = p} on (goes {w = w} k here fresh rest) =
      let e : n ≡ k = ⊎_elim (λ e. e) (λ never. absurd never) here in
      record {
        rest = w;
        is = ap (λ z. z ∷ w) (sym e);
        walk = subst (λ z. IsWalk W E (z ∷ p) (W z) w) (sym e) rest;
        last = last_of_more W E k rest;
      }

  -- by which of two ways a walk sets out
  record Side (l r : Pair) (p u : List Pair) : Type 0 where
    head : Pair
    rest : List Pair
    is : u ≡ head ∷ rest
    by : ((l ≡ head) × IsWalk W E p (l ∷ []) u) ⊎ ((r ≡ head) × IsWalk W E p (r ∷ []) u)

  side : (l r : Pair) {p u : List Pair} → IsWalk W E p (l ∷ r ∷ []) u → Side l r p u
  side l r (stops k here fresh stop) = record {
    head = k;
    rest = [];
    is = refl;
    by = ⊎_elim (λ e. inl (e, stops k (inl e) fresh stop)) (⊎_elim (λ e. inr (e, stops k (inl e) fresh stop)) (λ never. absurd never)) here;
  }
  side l r (goes {w = w} k here fresh rest) = record {
    head = k;
    rest = w;
    is = refl;
    by = ⊎_elim (λ e. inl (e, goes k (inl e) fresh rest)) (⊎_elim (λ e. inr (e, goes k (inl e) fresh rest)) (λ never. absurd never)) here;
  }

  before_both : (l r n m : Pair) (v w : List Pair) → l ≢ r → r ≡ n → r ≡ m → IsBefore W (l ∷ r ∷ []) (n ∷ v) (m ∷ w) → IsBefore W (r ∷ []) (n ∷ v) (m ∷ w)
  before_both l r n m v w apart e f (inl (early, by)) =
      absurd (⊎_elim (λ g. apart (g ∙ sym e)) (λ h. h.0 f) by)
  before_both l r n m v w apart e f (inr same) = inr same

  before_none : (l r n m : Pair) (v w : List Pair) → l ≢ r → r ≡ n → l ≡ m → ¬ IsBefore W (l ∷ r ∷ []) (n ∷ v) (m ∷ w)
  before_none l r n m v w apart e f (inl (early, by)) = early f
  before_none l r n m v w apart e f (inr (same, rest)) = apart (f ∙ sym same ∙ sym e)

  before_one : (n : Pair) (v w : List Pair) → IsBefore W (n ∷ []) (n ∷ v) (n ∷ w) → IsBefore W (W n) v w
  before_one n v w (inl (early, by)) = absurd (early refl)
  before_one n v w (inr (same, rest)) = rest

module _ (hs : List Re) (t : Text) (hi : ℕ) (only : Option ℕ) where
  abbrev P : List Place
  P = program hs

  abbrev W : Pair → List Pair
  W = ways (program hs) t hi

  abbrev E : Pair → Type 0
  E n = IsTrue (is_match_place only (place_at (program hs) n.0))

  pattern_sealed : (q slots start next s : ℕ) (h : Re) → Stand P start ((pattern_part q s h).places slots start next) →
      IsSealed P (λ r. r ≡ q) start (start + (pattern_part q s h).size)
  pattern_sealed q slots start next s h st n low high =
      let size = pattern_sized q s h slots start next in
      stand_each (LiesInPart AnyNumber (λ r. r ≡ q) start (start + (pattern_part q s h).size)) P start
      ((pattern_part q s h).places slots start next) st
      (pattern_sound AnyNumber (λ r. r ≡ q) q s h (any_groups s h) refl slots start next start (start + (pattern_part q s h).size) (omega arith) (omega arith))
      n low (omega (arith, size, high))

  rest_sealed : (q slots start next s : ℕ) (rest : List Re) → Stand P start ((choice_of_patterns (q + 1) s rest).places slots start next) →
      IsSealed P (λ r. q < r) start (start + (choice_of_patterns (q + 1) s rest).size)
  rest_sealed q slots start next s rest st n low high =
      let size = choice_sized (q + 1) s rest slots start next in
      stand_each (LiesInPart AnyNumber (λ r. q < r) start (start + (choice_of_patterns (q + 1) s rest).size)) P start
      ((choice_of_patterns (q + 1) s rest).places slots start next) st
      (choice_sound AnyNumber (λ r. q < r) (q + 1) s rest (later_suit q (q + 1) s rest (omega arith)) slots start next start
      (start + (choice_of_patterns (q + 1) s rest).size) (omega arith) (omega arith))
      n low (omega (arith, size, high))

  no_end : (start x : ℕ) (ns : List ℕ) → place_at P start ≡ choice ns → ¬ E (start, x)
  no_end start x ns e h = true≢false (sym h ∙ ap (is_match_place only) e ∙ no_match only ns)

  out_two : (start x left right : ℕ) → place_at P start ≡ choice (left ∷ right ∷ []) → W (start, x) ≡ (left, x) ∷ (right, x) ∷ []
  out_two start x left right e = ap (λ q. map (pair_at x) (ways_out (λ l. holds t l x) (ahead t hi x) q)) e

  -- the walk's last pair is at this pattern's match place
  abbrev IsOf : List Pair → ℕ → Type 0
  IsOf w k = place_at P (last_of w).0 ≡ accept k

  -- by the first of two parts, or by the second, with what follows
  module _ (left right x : ℕ) (apart : left < right) (q bl br : ℕ) (lefts : IsSealed P (λ r. r ≡ q) left bl) (rights : IsSealed P (λ r. q < r) right br)
      (some_left : left < bl) (some_right : right < br) where
    abbrev L : Pair
    L = (left, x)

    abbrev R : Pair
    R = (right, x)

    differ : L ≢ R
    differ e = let f : left ≡ right = ap (λ (n : Pair). n.0) e in omega (arith, apart, f)

    of_left : {p u : List Pair} (k : ℕ) → IsWalk W E p (L ∷ []) u → IsOf u k → k ≡ q
    of_left k walk e = accepts_inside P t hi (λ r. r ≡ q) left bl lefts E left x k (omega arith, some_left) walk e

    of_right : {p u : List Pair} (k : ℕ) → IsWalk W E p (R ∷ []) u → IsOf u k → q < k
    of_right k walk e = accepts_inside P t hi (λ r. q < r) right br rights E right x k (omega arith, some_right) walk e

    -- the first walk sets out by the first part, or both do by the second
    two : {o p v w : List Pair} → IsWalk W E o (L ∷ R ∷ []) v → IsWalk W E p (L ∷ R ∷ []) w → IsBefore W (L ∷ R ∷ []) v w → (k l : ℕ) → IsOf v k → IsOf w l →
        (k ≤ l) ⊎ (IsWalk W E o (R ∷ []) v × IsWalk W E p (R ∷ []) w × IsBefore W (R ∷ []) v w)
    two {v = v} {w = w} a b before k l of_v of_w =
        let f = side W E L R a in
        let g = side W E L R b in
        let early : IsBefore W (L ∷ R ∷ []) (f.head ∷ f.rest) (g.head ∷ g.rest) = subst (λ u. IsBefore W (L ∷ R ∷ []) (f.head ∷ f.rest) u) g.is (subst (λ u. IsBefore W (L ∷ R ∷ []) u w) f.is before) in
        ⊎_elim
        (λ i. ⊎_elim
        (λ j. let m = of_left k i.1 of_v in let n = of_left l j.1 of_w in inl (omega (arith, m, n)))
        (λ j. let m = of_left k i.1 of_v in let n = of_right l j.1 of_w in inl (omega (arith, m, n)))
        g.by)
        (λ i. ⊎_elim
        (λ j. absurd (before_none W E L R f.head g.head f.rest g.rest differ i.0 j.0 early))
        (λ j. inr (
          i.1,
          j.1,
          subst (λ u. IsBefore W (R ∷ []) u w) (sym f.is)
              (subst (λ u. IsBefore W (R ∷ []) (f.head ∷ f.rest) u) (sym g.is) (before_both W E L R f.head g.head f.rest g.rest differ i.0 j.0 early)),
        ))
        g.by)
        f.by

  dead_place : (start : ℕ) (w : List Pair) → place_at P start ≡ choice [] → (x : ℕ) {p : List Pair} → ¬ IsWalk W E p ((start, x) ∷ []) w
  dead_place start w e x {p = p} walk =
      let r = step W E (start, x) (no_end start x [] e) walk in
      let none : W (start, x) ≡ [] = ap (λ q. map (pair_at x) (ways_out (λ l. holds t l x) (ahead t hi x) q)) e in
      no_walk r.rest (subst (λ ms. IsWalk W E ((start, x) ∷ p) ms r.rest) none r.walk)
    where
      no_walk : {p : List Pair} (u : List Pair) → ¬ IsWalk W E p [] u
      no_walk u (stops k here fresh stop) = here
      no_walk u (goes k here fresh rest) = here

  ordered : (q slots start next s : ℕ) (rest : List Re) → Stand P start ((choice_of_patterns q s rest).places slots start next) → (x : ℕ) {o p v w : List Pair} →
      IsWalk W E o ((start, x) ∷ []) v → IsWalk W E p ((start, x) ∷ []) w → IsBefore W ((start, x) ∷ []) v w → (k l : ℕ) → IsOf v k → IsOf w l → k ≤ l
  ordered q slots start next s [] st x {v = v} a b before k l of_v of_w = absurd (dead_place start v st.0 x a)
  ordered q slots start next s (h ∷ rest) st x {o = o} {p = p} {v = v} {w = w} a b before k l of_v of_w =
      let first = pattern_part q s h in
      let later = choice_of_patterns (q + 1) (s + 2 * group_count h) rest in
      let right : ℕ = start + 1 + first.size in
      let out = out_two start x (start + 1) right st.0 in
      let f = step W E (start, x) (no_end start x ((start + 1) ∷ right ∷ []) st.0) a in
      let g = step W E (start, x) (no_end start x ((start + 1) ∷ right ∷ []) st.0) b in
      let below = Stand-second P first later slots start next (pattern_sized q s h slots (start + 1) next) st in
      let some : 0 < first.size = omega arith in
      let some_later = choice_some (q + 1) (s + 2 * group_count h) rest in
      let early : IsBefore W (W (start, x)) f.rest g.rest =
      before_one W E (start, x) f.rest g.rest (subst (λ u. IsBefore W ((start, x) ∷ []) ((start, x) ∷ f.rest) u) g.is (subst (λ u. IsBefore W ((start, x) ∷ []) u w) f.is before)) in
      let so : (k ≤ l) ⊎ (IsWalk W E ((start, x) ∷ o) ((right, x) ∷ []) f.rest × IsWalk W E ((start, x) ∷ p) ((right, x) ∷ []) g.rest × IsBefore W ((right, x) ∷ []) f.rest g.rest) =
      two (start + 1) right x (omega (arith, some)) q right (right + later.size)
      (pattern_sealed q slots (start + 1) next s h (Stand-first P first later slots start next st))
      (rest_sealed q slots right next (s + 2 * group_count h) rest below)
      (omega (arith, some)) (omega (arith, some_later))
      (subst (λ ms. IsWalk W E ((start, x) ∷ o) ms f.rest) out f.walk) (subst (λ ms. IsWalk W E ((start, x) ∷ p) ms g.rest) out g.walk)
      (subst (λ ms. IsBefore W ms f.rest g.rest) out early) k l (ap (λ (n : Pair). place_at P n.0) (sym f.last) ∙ of_v) (ap (λ (n : Pair). place_at P n.0) (sym g.last) ∙ of_w) in
      ⊎_elim (λ le. le)
      (λ r. ordered (q + 1) slots right next (s + 2 * group_count h) rest below x r.0 r.1 r.2 k l
      (ap (λ (n : Pair). place_at P n.0) (sym f.last) ∙ of_v) (ap (λ (n : Pair). place_at P n.0) (sym g.last) ∙ of_w))
      so

  -- the first walk is of the least pattern that has one
  pub least_pattern : (x : ℕ) (v w : List Pair) → IsFirstWalk W E [] ((0, x) ∷ []) v → IsWalk W E [] ((0, x) ∷ []) w → (k l : ℕ) → IsOf v k → IsOf w l → k ≤ l
  least_pattern x v w f walk k l of_v of_w =
      ⊎_elim
      (λ e. let same = same_accept k l (sym of_v ∙ ap (λ u. place_at P (last_of u).0) (sym e) ∙ of_w) in omega (arith, same))
      (λ before. ordered 0 0 0 0 (2 * length hs) hs (stand_all [] (program hs)) x f.is_walk walk before k l of_v of_w)
      (f.is_least w walk)
    where
      same_accept : (a b : ℕ) → accept a ≡ accept b → a ≡ b
      same_accept a b e = ap pattern_at e
