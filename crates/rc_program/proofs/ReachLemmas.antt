-- The answer by the longest walk, as a function, is that as a relation.
use Rattle.std.proofs.Common.{◌≡◌, ◌↔◌, ℕ, zero, suc, ◌+◌, ◌*◌, ◌<◌, ◌≤◌, ◌⊎◌, List, [], ◌∷◌, Option, Some, None, true, false, IsTrue, nat_eq, length, inl, inr, ⊎_elim, sym, subst, ap, ap₂, ◌∙◌, refl, arith, true≢false, eqb-true, eq-eqb}
use Rattle.std.specs.Option.{option_or, option_map, option_and_then}
use Rattle.std.proofs.lemmas.Bool.{cases_Bool, cases_lt, cases_order, and_parts, and_from}
use Rattle.std.proofs.lemmas.Option.{none-some, same_Some}
use Rattle.rc_walks.specs.Walks.{Pair, IsWalk, HasNoWalk}
use Rattle.rc_walks.proofs.TryLemmas.{Finds, IsBounded, walk_by_finds}
use Rattle.rc_program.specs.Answer.{Search, ends, next_of, IsFirstFrom, HasNoWalkFrom, last_of, is_allowed, is_anchored, Chosen, found, slots_of, allowed_only, first_given, start_count, chosen, answer, only}
use Rattle.rc_text.specs.Found.{Found}
use Rattle.rc_program.specs.Program.{place_at}
use Rattle.rc_program.specs.Greatest.{IsSpelledIn}
use Rattle.rc_program.proofs.WayLemmas.{same_pair}
use Rattle.rc_program.proofs.AnswerLemmas.{answer_law, match_place_is, last_pair, is_bounded, start_below, start_from, walk_ends, walk_within}
use Rattle.rc_program.proofs.GreatestLemmas.{other_ends}
use Rattle.rc_program.specs.Longest.{IsPassedOf, IsAnswerOf, HasNoAnswerOf, chosen_of, IsLongestFrom, ends_at, walk_to, furthest, longest_walk, longest_chosen, longest, longest_groups, LongestLaw}
use Rattle.rc_program.proofs.LongestLemmas.{EndsThere, longest_of, none_of_all, longest_is_one, reached}

-- the same ends
pub change_ends : (ways : Pair → List Pair) (A B : Pair → Type 0) (p f : List Pair) → ((n : Pair) → A n → B n) → ((n : Pair) → B n → A n) →
    (o : Option (List Pair)) → Finds ways A p f o → Finds ways B p f o
change_ends ways A B p f to back None h = λ v b. h v (other_ends ways B A b (back (last_of v) (walk_ends ways B b)))
change_ends ways A B p f to back (Some w) h = record {
  is_walk = other_ends ways A B h.is_walk (to (last_of w) (walk_ends ways A h.is_walk));
  is_least = λ v b. h.is_least v (other_ends ways B A b (back (last_of v) (walk_ends ways B b)));
}

module _ (s : Search) where
  abbrev Ending : Pair → Type 0
  Ending n = IsTrue (ends s n)

  there : (e : ℕ) (n : Pair) → IsTrue (ends_at s e n) → EndsThere (λ m. IsTrue (ends s m)) e n
  there e n h = let a = and_parts (ends s n) (nat_eq n.1 e) h in (a.0, eqb-true n.1 e a.1)

  back : (e : ℕ) (n : Pair) → EndsThere (λ m. IsTrue (ends s m)) e n → IsTrue (ends_at s e n)
  back e n h = and_from (ends s n) (nat_eq n.1 e) h.0 (eq-eqb n.1 e h.1)

  bounded_at : (e : ℕ) → IsBounded (next_of s) (ends_at s e) (length s.places) (s.hi + 1)
  bounded_at e = record {
    place_of_end = λ n h. (is_bounded s).place_of_end n (there e n h).0;
    place_of_way = (is_bounded s).place_of_way;
    position = (is_bounded s).position;
  }

  walk_to_finds : (x e : ℕ) → x ≤ s.hi → Finds (next_of s) (EndsThere (λ n. IsTrue (ends s n)) e) [] ((0, x) ∷ []) (walk_to s x e)
  walk_to_finds x e h =
      change_ends (next_of s) (λ n. IsTrue (ends_at s e n)) (EndsThere (λ n. IsTrue (ends s n)) e) [] ((0, x) ∷ []) (there e) (back e) (walk_to s x e)
      (walk_by_finds (next_of s) (ends_at s e) same_pair (λ n m t. last_pair s n m (there e n t).0) (length s.places) (s.hi + 1)
      (bounded_at e) (length s.places * (s.hi + 1)) [] (0, x) (omega arith) tt tt (omega arith))

  abbrev pub Reach : ℕ → Option (List Pair) → Type 0
  Reach x None = HasNoWalkFrom s x
  Reach x (Some w) = IsLongestFrom s x w

  abbrev NoneTo : ℕ → ℕ → Type 0
  NoneTo x e = HasNoWalk (next_of s) (EndsThere (λ n. IsTrue (ends s n)) e) [] ((0, x) ∷ [])

  one_less : (x n : ℕ) (o : Option (List Pair)) (rest : Option (List Pair)) →
      Finds (next_of s) (EndsThere (λ k. IsTrue (ends s k)) n) [] ((0, x) ∷ []) o → ((e : ℕ) → n < e → NoneTo x e) →
      (NoneTo x n → Reach x rest) → Reach x (option_or o rest)
  one_less x n None rest h above below = below h
  one_less x n (Some w) rest h above below = longest_of (next_of s) (λ k. IsTrue (ends s k)) [] ((0, x) ∷ []) w n h above

  furthest_reach : (x n : ℕ) → x ≤ s.hi → ((e : ℕ) → n ≤ e → NoneTo x e) → Reach x (furthest (walk_to s x) n)
  furthest_reach x zero h above = none_of_all (next_of s) (λ k. IsTrue (ends s k)) [] ((0, x) ∷ []) (λ e. above e (omega arith))
  furthest_reach x (suc n) h above =
      one_less x n (walk_to s x n) (furthest (walk_to s x) n) (walk_to_finds x n h) (λ e l. above e (omega (arith, l)))
      (λ none. furthest_reach x n h (λ e l. ⊎_elim (λ m. above e (omega (arith, m)))
      (λ m. let q : n ≡ e = omega (arith, l, m) in subst (NoneTo x) q none) (cases_lt n e)))

  none_past : (x e : ℕ) → x ≤ s.hi → s.hi + 1 ≤ e → NoneTo x e
  none_past x e h l v b =
      let r = walk_within s.places s.text s.hi (EndsThere (λ n. IsTrue (ends s n)) e) x b
      (λ n i. ⊎_elim (λ q. let k : x ≡ n.1 = ap (λ (k : Pair). k.1) q in (omega (arith, k), omega (arith, k, h))) (λ never. absurd never) i) in
      let q = reached (next_of s) (λ n. IsTrue (ends s n)) e b in omega (arith, l, q, r.2)

  pub longest_walk_reach : (x : ℕ) → x ≤ s.hi → Reach x (longest_walk s x)
  longest_walk_reach x h = furthest_reach x (s.hi + 1) h (λ e l. none_past x e h l)

-- For any choice of the walk that counts.
module _ (s : Search) (Counts : ℕ → List Pair → Type 0) (walk : ℕ → Option (List Pair)) where
  abbrev pub Shows : ℕ → Option (List Pair) → Type 0
  Shows x None = HasNoWalkFrom s x
  Shows x (Some w) = Counts x w

  module _ (shows : (x : ℕ) → x ≤ s.hi → Shows x (walk x))
      (walks : (x : ℕ) (w : List Pair) → Counts x w → IsWalk (next_of s) (λ n. IsTrue (ends s n)) [] ((0, x) ∷ []) w)
      (alone : (x : ℕ) (v w : List Pair) → Counts x v → Counts x w → v ≡ w) where
    abbrev Passed : ℕ → Type 0
    Passed x = IsPassedOf s Counts x

    record Gave (x : ℕ) (c : Chosen) : Type 0 where
      pub here : c.start ≡ x
      pub counts : Counts x c.walk
      pub allowed : IsTrue (is_allowed s c.walk)

    abbrev Gives : ℕ → Option Chosen → Type 0
    Gives x None = Passed x
    Gives x (Some c) = Gave x c

    gives_of : (x : ℕ) (o : Option (List Pair)) → Shows x o → Gives x (option_and_then (allowed_only s x) o)
    gives_of x None h = inl h
    gives_of x (Some w) h =
        ⊎_elim (λ ok. rw ok (record { here = refl; counts = h; allowed = ok })) (λ off. rw off (inr (w, h, off))) (cases_Bool (is_allowed s w))

    abbrev start_gives : ℕ → Option Chosen
    start_gives x = option_and_then (allowed_only s x) (walk x)

    abbrev GivesFirst : ℕ → ℕ → Option Chosen → Type 0
    GivesFirst n x None = (y : ℕ) → x ≤ y → y < x + n → Passed y
    GivesFirst n x (Some c) = (x ≤ c.start) × (c.start < x + n) × Gave c.start c × ((y : ℕ) → x ≤ y → y < c.start → Passed y)

    at_or_after : (x y : ℕ) → x ≤ y → (x ≡ y) ⊎ (x < y)
    at_or_after x y h = ⊎_elim (λ l. inr l) (λ ge. inl (omega (arith, h, ge))) (cases_lt x y)

    one_more : (n x : ℕ) (o rest : Option Chosen) → Gives x o → GivesFirst n (x + 1) rest → GivesFirst (suc n) x (option_or o rest)
    one_more n x (Some c) rest g r = (
      omega (arith, g.here),
      omega (arith, g.here),
      record { here = refl; counts = subst (λ y. Counts y c.walk) (sym g.here) g.counts; allowed = g.allowed },
      λ y a b. absurd (omega (arith, a, b, g.here)),
    )
    one_more n x None None g r =
        λ y a b. ⊎_elim (λ e. subst Passed e g) (λ ne. r y (omega (arith, ne)) (omega (arith, b))) (at_or_after x y a)
    one_more n x None (Some c) g r = (
      omega (arith, r.0),
      omega (arith, r.1),
      r.2,
      λ y a b. ⊎_elim (λ e. subst Passed e g) (λ ne. r.3 y (omega (arith, ne)) b) (at_or_after x y a),
    )

    starts_give : (n x : ℕ) → x + n ≤ s.hi + 1 → GivesFirst n x (first_given start_gives n x)
    starts_give zero x h = λ y a b. absurd (omega (arith, a, b))
    starts_give (suc n) x h =
        one_more n x (start_gives x) (first_given start_gives n (x + 1)) (gives_of x (walk x) (shows x (omega (arith, h))))
        (starts_give n (x + 1) (omega (arith, h)))

    abbrev pub Answers : Option Chosen → Type 0
    Answers None = HasNoAnswerOf s Counts
    Answers (Some c) = IsAnswerOf s Counts c

    count_in : s.lo + start_count s ≤ s.hi + 1 ⊎ start_count s ≡ 0
    count_in =
        ⊎_elim (λ t. rw t (⊎_elim (λ l. inr (omega arith)) (λ ge. inl (omega arith)) (cases_lt s.hi s.lo)))
        (λ f. rw f (⊎_elim (λ l. inr (omega arith)) (λ ge. inl (omega arith)) (cases_lt s.hi s.lo)))
        (cases_Bool (is_anchored s.anchoring))

    whole : (o : Option Chosen) → GivesFirst (start_count s) s.lo o → Answers o
    whole None g = λ y h. g y h.0 (start_below s y h)
    whole (Some c) g = record {
      is_start = start_from s c.start g.0 g.1;
      counts = g.2.counts;
      allowed = g.2.allowed;
      none_before = λ y h l. g.3 y h.0 l;
    }

    pub chosen_answers : Answers (chosen_of s walk)
    chosen_answers =
        ⊎_elim (λ h. whole _ (starts_give (start_count s) s.lo h))
        (λ e. subst (λ n. Answers (first_given start_gives n s.lo)) (sym e)
        (λ y h. absurd (let l = start_below s y h in omega (arith, l, e, h.0))))
        count_in

    passed_or_not : (x : ℕ) (w : List Pair) → Counts x w → IsTrue (is_allowed s w) → Passed x → ⊥
    passed_or_not x w f ok p =
        ⊎_elim (λ none. none w (walks x w f))
        (λ q. true≢false (sym ok ∙ ap (is_allowed s) (alone x w q.0 f q.1) ∙ q.2)) p

    answer_is_one : (c d : Chosen) → IsAnswerOf s Counts c → IsAnswerOf s Counts d → c ≡ d
    answer_is_one c d a b =
        ⊎_elim
        (λ e. ap₂ (λ x w. let r : Chosen = record { start = x; walk = w } in r) e
        (alone d.start c.walk d.walk (subst (λ x. Counts x c.walk) e a.counts) b.counts))
        (⊎_elim
        (λ l. absurd (passed_or_not c.start c.walk a.counts a.allowed (b.none_before c.start a.is_start l)))
        (λ l. absurd (passed_or_not d.start d.walk b.counts b.allowed (a.none_before d.start b.is_start l))))
        (cases_order c.start d.start)

    one_answer : (o : Option Chosen) (c : Chosen) → Answers o → IsAnswerOf s Counts c → o ≡ Some c
    one_answer None c none a = absurd (passed_or_not c.start c.walk a.counts a.allowed (none c.start a.is_start))
    one_answer (Some d) c b a = ap Some (answer_is_one d c b a)

    no_answer : (o : Option Chosen) → Answers o → HasNoAnswerOf s Counts → o ≡ None
    no_answer None a none = refl
    no_answer (Some c) a none = absurd (passed_or_not c.start c.walk a.counts a.allowed (none c.start a.is_start))

    pub some_law : (c : Chosen) → (chosen_of s walk ≡ Some c) ↔ IsAnswerOf s Counts c
    some_law c = ((λ e. subst Answers e chosen_answers), (λ a. one_answer (chosen_of s walk) c chosen_answers a))

    pub none_law : (chosen_of s walk ≡ None) ↔ HasNoAnswerOf s Counts
    none_law = ((λ e. subst Answers e chosen_answers), (λ none. no_answer (chosen_of s walk) chosen_answers none))

    some_of_map : {X : Type 0} (f : Chosen → X) (o : Option Chosen) (x : X) → option_map f o ≡ Some x → (c : Chosen) × (o ≡ Some c) × (f c ≡ x)
    some_of_map f None x e = absurd (none-some x e)
    some_of_map f (Some c) x e = (c, refl, same_Some _ _ e)

    none_of_map : {X : Type 0} (f : Chosen → X) (o : Option Chosen) → option_map f o ≡ None → o ≡ None
    none_of_map f None e = refl
    none_of_map f (Some c) e = absurd (none-some _ (sym e))

    pub mapped_law : {X : Type 0} (f : Chosen → X) (x : X) →
        (option_map f (chosen_of s walk) ≡ Some x) ↔ ((c : Chosen) × IsAnswerOf s Counts c × (f c ≡ x))
    mapped_law f x = (
      (λ e. let r = some_of_map f (chosen_of s walk) x e in (r.0, (some_law r.0).0 r.1, r.2)),
      (λ r. ap (option_map f) ((some_law r.0).1 r.1) ∙ ap Some r.2),
    )

    pub no_mapped_law : {X : Type 0} (f : Chosen → X) → (option_map f (chosen_of s walk) ≡ None) ↔ HasNoAnswerOf s Counts
    no_mapped_law f = ((λ e. none_law.0 (none_of_map f (chosen_of s walk) e)), (λ none. ap (option_map f) (none_law.1 none)))

longest_shows : (s : Search) (x : ℕ) → x ≤ s.hi → Shows s (IsLongestFrom s) (longest_walk s) x (longest_walk s x)
longest_shows s x h = same (longest_walk s x) (longest_walk_reach s x h)
  where
    same : (o : Option (List Pair)) → Reach s x o → Shows s (IsLongestFrom s) (longest_walk s) x o
    same None r = r
    same (Some w) r = r

longest_walks : (s : Search) (x : ℕ) (w : List Pair) → IsLongestFrom s x w → IsWalk (next_of s) (λ n. IsTrue (ends s n)) [] ((0, x) ∷ []) w
longest_walks s x w l = l.is_walk

longest_alone : (s : Search) (x : ℕ) (v w : List Pair) → IsLongestFrom s x v → IsLongestFrom s x w → v ≡ w
longest_alone s x v w a b = longest_is_one (next_of s) (λ n. IsTrue (ends s n)) [] ((0, x) ∷ []) v w a b

chosen_is : (s : Search) (c : Chosen) → (longest_chosen s ≡ Some c) ↔ IsAnswerOf s (IsLongestFrom s) c
unfolding longest_chosen
chosen_is s c = some_law s (IsLongestFrom s) (longest_walk s) (longest_shows s) (longest_walks s) (longest_alone s) c

answer_is : (s : Search) (m : Found) → (longest s ≡ Some m) ↔ ((c : Chosen) × IsAnswerOf s (IsLongestFrom s) c × (found s c ≡ m))
unfolding longest longest_chosen
answer_is s m = mapped_law s (IsLongestFrom s) (longest_walk s) (longest_shows s) (longest_walks s) (longest_alone s) (found s) m

answer_is_none : (s : Search) → (longest s ≡ None) ↔ HasNoAnswerOf s (IsLongestFrom s)
unfolding longest longest_chosen
answer_is_none s = no_mapped_law s (IsLongestFrom s) (longest_walk s) (longest_shows s) (longest_walks s) (longest_alone s) (found s)

spelled_of : (s : Search) (c : Chosen) → IsAnswerOf s (IsLongestFrom s) c → IsSpelledIn s (found s c)
spelled_of s c a = record {
  is_start = a.is_start;
  walk = c.walk;
  is_walk = a.counts.is_walk;
  pattern = match_place_is (only s.anchoring) (place_at s.places (last_of c.walk).0) (walk_ends (next_of s) (λ n. IsTrue (ends s n)) a.counts.is_walk);
  position = refl;
}

spelled_longest : (s : Search) (m : Found) → longest s ≡ Some m → IsSpelledIn s m
spelled_longest s m e = let r = (answer_is s m).0 e in subst (IsSpelledIn s) r.2 (spelled_of s r.0 r.1)

not_passed_over : (s : Search) → s.passes_over ≡ false → (w : List Pair) → is_allowed s w ≡ true
not_passed_over s off w = rw off refl

-- a start that is passed, where none is passed over, has no walk
none_if_passed : (s : Search) (Counts : ℕ → List Pair → Type 0) (x : ℕ) → s.passes_over ≡ false → IsPassedOf s Counts x → HasNoWalkFrom s x
none_if_passed s Counts x off p = ⊎_elim (λ none. none) (λ q. absurd (true≢false (sym (not_passed_over s off q.0) ∙ q.2))) p

starts_same : (s : Search) (c d : Chosen) → s.passes_over ≡ false → chosen s ≡ Some c → longest_chosen s ≡ Some d →
    (c.start ≡ d.start) × ((last_of c.walk).1 ≤ (last_of d.walk).1)
starts_same s c d off e f =
    let a = (answer_law.chosen_some s c).0 e in
    let b = (chosen_is s d).0 f in
    let same : c.start ≡ d.start =
    ⊎_elim (λ q. q)
    (⊎_elim
    (λ l. absurd (none_if_passed s (IsLongestFrom s) c.start off (b.none_before c.start a.is_start l) c.walk a.is_first.is_walk))
    (λ l. absurd (none_if_passed s (IsFirstFrom s) d.start off (a.none_before d.start b.is_start l) d.walk b.counts.is_walk)))
    (cases_order c.start d.start) in
    (same, b.counts.is_most c.walk (subst (λ x. IsWalk (next_of s) (λ n. IsTrue (ends s n)) [] ((0, x) ∷ []) c.walk) same a.is_first.is_walk))

none_same : (s : Search) → s.passes_over ≡ false → (longest s ≡ None) ↔ (answer s ≡ None)
none_same s off = (
  (λ e. (answer_law.answer_none s).1 (λ y h. inl (none_if_passed s (IsLongestFrom s) y off ((answer_is_none s).0 e y h)))),
  (λ e. (answer_is_none s).1 (λ y h. inl (none_if_passed s (IsFirstFrom s) y off ((answer_law.answer_none s).0 e y h)))),
)

pub longest_law : LongestLaw
unfolding longest_chosen longest longest_groups chosen
longest_law = record {
  chosen_some = λ s c. some_law s (IsLongestFrom s) (longest_walk s) (longest_shows s) (longest_walks s) (longest_alone s) c;
  chosen_none = λ s. none_law s (IsLongestFrom s) (longest_walk s) (longest_shows s) (longest_walks s) (longest_alone s);
  answer_some = λ s m. mapped_law s (IsLongestFrom s) (longest_walk s) (longest_shows s) (longest_walks s) (longest_alone s) (found s) m;
  answer_none = λ s. no_mapped_law s (IsLongestFrom s) (longest_walk s) (longest_shows s) (longest_walks s) (longest_alone s) (found s);
  groups_some = λ s n xs. mapped_law s (IsLongestFrom s) (longest_walk s) (longest_shows s) (longest_walks s) (longest_alone s) (slots_of s n) xs;
  groups_none = λ s n. no_mapped_law s (IsLongestFrom s) (longest_walk s) (longest_shows s) (longest_walks s) (longest_alone s) (slots_of s n);
  first_is = λ s c. (
    (λ a. record { is_start = a.is_start; is_first = a.counts; allowed = a.allowed; none_before = a.none_before }),
    (λ a. record { is_start = a.is_start; counts = a.is_first; allowed = a.allowed; none_before = a.none_before }),
  );
  same_start = starts_same;
  same_none = none_same;
  spelled = spelled_longest;
}
