-- A search over a byte program finds the walks that the search over the program finds.
use Rattle.std.proofs.Common.{◌≡◌, ℕ, zero, suc, ◌+◌, ◌*◌, ◌<◌, ◌≤◌, ◌⊎◌, List, [], ◌∷◌, ◌++◌, length, map, inl, inr, ⊎_elim, sym, subst, ap, ap₂, ◌∙◌, refl, arith, Bool, true, false, true≢false, IsTrue, Option, Some, None, if◌then◌else◌}
use Rattle.std.specs.List.{AllByRecursion}
use Rattle.std.specs.Option.{option_or, option_map}
use Rattle.std.proofs.lemmas.Bool.{cases_Bool, cases_lt, false_from_ne_true}
use Rattle.std.proofs.lemmas.Option.{none-some, same_Some}
use Rattle.rc_pattern.specs.Re.{Range}
use Rattle.rc_walks.specs.Walks.{Pair, IsIn, IsFirstWalk, HasNoWalk}
use Rattle.rc_walks.specs.Tries.{is_in, by_ways, walk_by}
use Rattle.rc_walks.proofs.WalkLemmas.{drop_way, first_after, first_stops, first_goes}
use Rattle.rc_walks.proofs.CutLemmas.{loosen}
use Rattle.rc_walks.proofs.StackLemmas.{no_ways, dead_if_passed, dead_if_tried}
use Rattle.rc_walks.proofs.CountLemmas.{AreApart, AreBelow, length_below}
use Rattle.rc_walks.proofs.TryLemmas.{is_in-true, is_in-from, IsBounded, Finds, walk_by_finds, first_way}
use Rattle.rc_walks.proofs.ThreadLemmas.{all_onward, Alike, first_alike, none_alike}
use Rattle.rc_program.specs.Text.{holds, ahead}
use Rattle.rc_program.specs.Scalars.{scalar_at}
use Rattle.rc_program.specs.Program.{Place, choice, byte, branch, scalar, guard, slot, accept, place_at, ways_out, pair_at, in_ranges, over_scalar, is_match_place}
use Rattle.rc_program.specs.Laws.{IsClosed}
use Rattle.rc_program.specs.Answer.{Search, next_of, last_of, names, last_visit, pattern_at}
use Rattle.rc_program.proofs.WayLemmas.{same_pair, no_way_from, past_places, ways_onward, ways_within, scalar_at_short}
use Rattle.rc_program.proofs.PlaceLemmas.{ways_closed}
use Rattle.rc_program.proofs.PartLemmas.{Stand, Stand-left, Stand-right}
use Rattle.rc_program.proofs.AnswerLemmas.{is_bounded}
use Rattle.rc_utf8.specs.Bytes.{Ways, tails, depth, class_tree, tree_block, class_ways, all_pieces, byte_place, block, bytes_of}
use Rattle.rc_utf8.specs.Laws.{by_bytes}
use Rattle.rc_utf8.proofs.ScalarLemmas.{all_pieces_each, in_all_pieces, scalar_of}
use Rattle.rc_utf8.proofs.BlockLemmas.{over, takes_class, class_test, class_none, tells_class, Tells, length-tails}
use Rattle.rc_utf8.proofs.LayoutLemmas.{stands_at}

names_same : (k b : ℕ) (q : Place) → names (byte_place b q) k ≡ names q k
names_same k b (choice ns) = refl
names_same k b (byte rs n) = refl
names_same k b (branch ts) = refl
names_same k b (scalar rs n) = refl
names_same k b (guard l n) = refl
names_same k b (slot j n) = refl
names_same k b (accept p) = refl

pattern_same : (b : ℕ) (q : Place) → pattern_at (byte_place b q) ≡ pattern_at q
pattern_same b (choice ns) = refl
pattern_same b (byte rs n) = refl
pattern_same b (branch ts) = refl
pattern_same b (scalar rs n) = refl
pattern_same b (guard l n) = refl
pattern_same b (slot j n) = refl
pattern_same b (accept p) = refl

-- a place of scalars, or one that stays as it is
is_scalar : (q : Place) → ((rs : List Range) × (n : ℕ) × (q ≡ scalar rs n)) ⊎ ((b : ℕ) → byte_place b q ≡ q)
is_scalar (choice ns) = inr (λ b. refl)
is_scalar (byte rs n) = inr (λ b. refl)
is_scalar (branch ts) = inr (λ b. refl)
is_scalar (scalar rs n) = inl (rs, n, refl)
is_scalar (guard l n) = inr (λ b. refl)
is_scalar (slot j n) = inr (λ b. refl)
is_scalar (accept p) = inr (λ b. refl)

last_more : (n : Pair) (w : List Pair) → 0 < length w → last_of (n ∷ w) ≡ last_of w
last_more n [] h = absurd (omega arith)
last_more n (m ∷ w) h = refl

or_nothing : (o : Option ℕ) → option_or o None ≡ o
or_nothing None = refl
or_nothing (Some x) = refl

over_nothing : (bs : List ℕ) (y : ℕ) → over bs y [] ≡ []
over_nothing [] y = refl
over_nothing (d ∷ ds) y = refl

module _ (s : Search) (closed : IsClosed s.places) (test : Place → ℕ → Bool)
    (accepts : (q : Place) (y : ℕ) → test q y ≡ true → is_match_place None q ≡ true) where
  abbrev B : List Place
  B = bytes_of s.places

  abbrev S : Pair → List Pair
  S = next_of s

  abbrev T : Pair → List Pair
  T = next_of (by_bytes s)

  -- a walk may end at a match place that passes the test
  abbrev pub may_end : List Place → Pair → Bool
  may_end places n = test (place_at places n.0) n.1

  abbrev F : Pair → Type 0
  F n = IsTrue (may_end B n)

  pub last_of_bytes : (n m : Pair) → F n → ¬ IsIn m (T n)
  last_of_bytes n m e =
      no_way_from None (λ l. holds s.text l n.1) (ahead s.text s.hi n.1) (place_at B n.0) n.1 m (accepts (place_at B n.0) n.1 e)

  pub bytes_bounded : IsBounded T (may_end B) (length B) (s.hi + 1)
  bytes_bounded = record {
    place_of_end = λ n e. ⊎_elim (λ l. l)
        (λ ge. absurd (true≢false (sym (accepts (place_at B n.0) n.1 e) ∙ ap (is_match_place None) (past_places B n.0 ge))))
        (cases_lt n.0 (length B));
    place_of_way = (is_bounded (by_bytes s)).place_of_way;
    position = (is_bounded (by_bytes s)).position;
  }

  test_off : (q : Place) (y : ℕ) → is_match_place None q ≡ false → test q y ≡ false
  test_off q y off = false_from_ne_true (test q y) (λ on. true≢false (sym (accepts q y on) ∙ off))

  test_same : (b : ℕ) (q : Place) (y : ℕ) → test (byte_place b q) y ≡ test q y
  test_same b q y =
      ⊎_elim
      (λ c. ap (λ r. test (byte_place b r) y) c.2 ∙ test_off (byte_place b (scalar c.0 c.1)) y refl ∙ sym (ap (λ r. test r y) c.2 ∙ test_off (scalar c.0 c.1) y refl))
      (λ same. ap (λ r. test r y) (same b))
      (is_scalar q)

  -- the one walk shows what the other does
  pub record Same (w v : List Pair) : Type 0 where
    pub some : 0 < length w
    pub also : 0 < length v
    pub last : last_of v ≡ last_of w
    pub pattern : pattern_at (place_at B (last_of v).0) ≡ pattern_at (place_at s.places (last_of w).0)
    pub visits : (k : ℕ) → last_visit B k v ≡ last_visit s.places k w

  -- what the search over the program finds, so does that over the bytes
  abbrev pub Also : List Pair → List Pair → Option (List Pair) → Type 0
  Also p f None = HasNoWalk T F p f
  Also p f (Some w) = (v : List Pair) × IsFirstWalk T F p f v × Same w v

  ends_same : (n : Pair) → n.0 < length s.places → may_end B n ≡ may_end s.places n
  ends_same n h = let r = stands_at s.places n.0 h in ap (λ q. test q n.1) r.1 ∙ test_same r.0 (place_at s.places n.0) n.1

  names_alike : (n k : ℕ) → n < length s.places → names (place_at B n) k ≡ names (place_at s.places n) k
  names_alike n k h = let r = stands_at s.places n h in ap (λ q. names q k) r.1 ∙ names_same k r.0 (place_at s.places n)

  same_stop : (n : Pair) → n.0 < length s.places → Same (n ∷ []) (n ∷ [])
  same_stop n h = record {
    some = omega arith;
    also = omega arith;
    last = refl;
    pattern = let r = stands_at s.places n.0 h in ap pattern_at r.1 ∙ pattern_same r.0 (place_at s.places n.0);
    visits = λ k. ap (λ b. option_or None (if b then Some n.1 else None)) (names_alike n.0 k h);
  }

  same_more : (n : Pair) (w v : List Pair) → n.0 < length s.places → Same w v → Same (n ∷ w) (n ∷ v)
  same_more n w v h x = record {
    some = omega arith;
    also = omega arith;
    last = last_more n v x.also ∙ x.last ∙ sym (last_more n w x.some);
    pattern = ap (λ (m : Pair). pattern_at (place_at B m.0)) (last_more n v x.also) ∙ x.pattern
        ∙ ap (λ (m : Pair). pattern_at (place_at s.places m.0)) (sym (last_more n w x.some));
    visits = λ k. ap₂ (λ o b. option_or o (if b then Some n.1 else None)) (x.visits k) (names_alike n.0 k h);
  }

  -- a pair of a block shows nothing
  same_branch : (n : Pair) (ts : Ways) (w v : List Pair) → place_at B n.0 ≡ branch ts → Same w v → Same w (n ∷ v)
  same_branch n ts w v e x = record {
    some = x.some;
    also = omega arith;
    last = last_more n v x.also ∙ x.last;
    pattern = ap (λ (m : Pair). pattern_at (place_at B m.0)) (last_more n v x.also) ∙ x.pattern;
    visits = λ k. ap (λ q. option_or (last_visit B k v) (if names q k then Some n.1 else None)) e ∙ or_nothing (last_visit B k v) ∙ x.visits k;
  }

  same_branches : (u w v : List Pair) → AllByRecursion (λ (n : Pair). (ts : Ways) × (place_at B n.0 ≡ branch ts)) u → Same w v → Same w (u ++ v)
  same_branches [] w v each x = x
  same_branches (n ∷ u) w v each x = same_branch n each.0.0 w (u ++ v) each.0.1 (same_branches u w v each.1 x)

  or_also : (n : Pair) (p f : List Pair) (o rest : Option (List Pair)) → Also p (n ∷ []) o → Also p f rest → Also p (n ∷ f) (option_or o rest)
  or_also n p f (Some w) rest x y = (x.0, first_way T F same_pair n x.1, x.2)
  or_also n p f None None x y = λ v b. y v (drop_way T F n x b)
  or_also n p f None (Some w) x y = (y.0, first_after T F n x y.1, y.2)

  by_ways_also : (walk : Pair → Option (List Pair)) (p f : List Pair) → ((n : Pair) → IsIn n f → Also p (n ∷ []) (walk n)) → Also p f (by_ways walk f)
  by_ways_also walk p [] h = λ v b. no_ways T F b
  by_ways_also walk p (n ∷ f) h = or_also n p f (walk n) (by_ways walk f) (h n (inl refl)) (by_ways_also walk p f (λ m i. h m (inr i)))

  onward : (n : Pair) (p : List Pair) (o : Option (List Pair)) → n.0 < length s.places → ¬ IsIn n p → ¬ F n →
      Also (n ∷ p) (T n) o → Also p (n ∷ []) (option_map (λ w. n ∷ w) o)
  onward n p None h fresh on x = λ v b. dead_if_tried T F on x b
  onward n p (Some w) h fresh on x =
      (n ∷ x.0, first_goes T F same_pair last_of_bytes n p [] x.0 fresh on x.1, same_more n w x.0 h x.2)

  abbrev AllUpTo : ℕ → List Pair → Type 0
  AllUpTo y p = (k : Pair) → IsIn k p → k.1 ≤ y

  -- pairs passed before make no difference later
  later_alike : (m : Pair) (p : List Pair) → ((k : Pair) → IsIn k p → k.1 < m.1) → Alike T F p [] (m ∷ [])
  later_alike m p low = record {
    there = λ w b. loosen T F b [] (λ k i j. j);
    back = λ w b. loosen T F b p (λ k i j.
        let x : m.1 ≤ k.1 = all_onward T F (ways_onward B s.text s.hi) m.1
        (λ q h. ⊎_elim (λ e. let f : m.1 ≡ q.1 = ap (λ (n : Pair). n.1) e in omega (arith, f)) (λ never. absurd never) h) b k i in
        let l = low k j in omega (arith, x, l));
  }

  abbrev bytes_at : Pair → List ℕ
  bytes_at n = ahead s.text s.hi n.1

  -- what is found from where a class leads is found by way of its block
  class_tells : (n : Pair) (rs : List Range) (next b z : ℕ) (o : Option (List Pair)) → Finds T F [] ((next, z) ∷ []) o →
      Stand B b (block b (scalar rs next)) →
      ((c k : ℕ) → scalar_at (bytes_at n) ≡ Some (c, k) → in_ranges (all_pieces rs) c ≡ true → n.1 + k ≡ z) →
      Tells B s.text s.hi test accepts next z o (Unit {0}) (over (bytes_at n) n.1 (class_ways b next rs)) (n.1 + 1)
      (takes_class (all_pieces rs) (bytes_at n))
  class_tells n rs next b z o found st right =
      let count = depth (class_tree rs) in
      let first = tails count b next in
      let behind = tree_block count b next (class_tree rs) (b + count) in
      tells_class B s.text s.hi test accepts next z o found count b
      (Stand-left B b first behind st)
      (all_pieces rs) (all_pieces_each rs) n.1 (b + count) (bytes_at n) (omega arith)
      (subst (λ k. Stand B (b + k) behind) (length-tails count b next) (Stand-right B b first behind st)) refl right

  -- something is found from each pair
  found_at : (next : ℕ) → Finds T F [] ((next, 0) ∷ []) (walk_by T (may_end B) (length B * (s.hi + 1)) [] (next, 0))
  found_at next =
      walk_by_finds T (may_end B) same_pair last_of_bytes (length B) (s.hi + 1) bytes_bounded
      (length B * (s.hi + 1)) [] (next, 0) (omega arith) tt tt (omega arith)

  below : (n : Pair) (p : List Pair) → AllUpTo n.1 p → (k : Pair) → IsIn k (n ∷ p) → k.1 < n.1 + 1
  below n p low k i =
      ⊎_elim (λ e. let f : n.1 ≡ k.1 = ap (λ (m : Pair). m.1) e in omega (arith, f)) (λ j. let l = low k j in omega (arith, l)) i

  module _ (n : Pair) (p : List Pair) (low : AllUpTo n.1 p) (rs : List Range) (next b : ℕ) (st : Stand B b (block b (scalar rs next)))
      (walk : Pair → Option (List Pair)) where
    abbrev f : List Pair
    f = over (bytes_at n) n.1 (class_ways b next rs)

    dead : takes_class (all_pieces rs) (bytes_at n) ≡ false →
        ((c k : ℕ) → scalar_at (bytes_at n) ≡ Some (c, k) → in_ranges (all_pieces rs) c ≡ true → n.1 + k ≡ 0) → HasNoWalk T F (n ∷ p) f
    dead h right = (class_tells n rs next b 0 _ (found_at next) st right).none h (n ∷ p) (below n p low)

    live : (c k : ℕ) → scalar_at (bytes_at n) ≡ Some (c, k) → takes_class (all_pieces rs) (bytes_at n) ≡ true → (o : Option (List Pair)) →
        Also (n ∷ p) ((next, n.1 + k) ∷ []) o → Also (n ∷ p) f (option_or o None)
    live c k e h o x =
        let short = (scalar_at_short (bytes_at n)).takes (c, k) e in
        let alike = later_alike (next, n.1 + k) (n ∷ p) (λ m i. let l = below n p low m i in let one = short.0 in omega (arith, l, one)) in
        on o alike x
      where
        right : (c2 k2 : ℕ) → scalar_at (bytes_at n) ≡ Some (c2, k2) → in_ranges (all_pieces rs) c2 ≡ true → n.1 + k2 ≡ n.1 + k
        right c2 k2 e2 i = ap (λ (x : ℕ × ℕ). n.1 + x.1) (same_Some (c2, k2) (c, k) (sym e2 ∙ e))

        on : (o : Option (List Pair)) → Alike T F (n ∷ p) [] ((next, n.1 + k) ∷ []) → Also (n ∷ p) ((next, n.1 + k) ∷ []) o →
            Also (n ∷ p) f (option_or o None)
        on None alike x =
            (class_tells n rs next b (n.1 + k) None (none_alike T F (n ∷ p) [] ((next, n.1 + k) ∷ []) alike x) st right).yes h tt (n ∷ p) (below n p low)
        on (Some w) alike x =
            let r = (class_tells n rs next b (n.1 + k) (Some x.0) (first_alike T F (n ∷ p) [] ((next, n.1 + k) ∷ []) x.0 alike x.1) st right).yes h tt
            (n ∷ p) (below n p low) in
            (r.0 ++ x.0, r.2, same_branches r.0 w x.0 r.1 x.2)

    -- what the edges of a class lead to, the block leads to
    class_also : (o : Option (ℕ × ℕ)) → scalar_at (bytes_at n) ≡ o →
        ((m : Pair) → IsIn m (map (pair_at n.1) (over_scalar rs next o)) → Also (n ∷ p) (m ∷ []) (walk m)) →
        Also (n ∷ p) f (by_ways walk (map (pair_at n.1) (over_scalar rs next o)))
    class_also None e each =
        dead (class_none (all_pieces rs) (all_pieces_each rs) (bytes_at n) e) (λ c k e2 i. absurd (none-some (c, k) (sym e ∙ e2)))
    class_also (Some q) e each =
        let test = class_test (all_pieces rs) (all_pieces_each rs) (bytes_at n) q.0 q.1 e
        ∙ in_all_pieces rs q.0 (scalar_of (bytes_at n) q.0 q.1 e) in
        ⊎_elim
        (λ i. in_class i (test ∙ i) each)
        (λ i. off_class i (test ∙ i))
        (cases_Bool (in_ranges rs q.0))
      where
        in_class : in_ranges rs q.0 ≡ true → takes_class (all_pieces rs) (bytes_at n) ≡ true →
            ((m : Pair) → IsIn m (map (pair_at n.1) (over_scalar rs next (Some q))) → Also (n ∷ p) (m ∷ []) (walk m)) →
            Also (n ∷ p) f (by_ways walk (map (pair_at n.1) (over_scalar rs next (Some q))))
        in_class i h each =
            let out : map (pair_at n.1) (over_scalar rs next (Some q)) ≡ (next, n.1 + q.1) ∷ [] = rw i refl in
            subst (λ ms. Also (n ∷ p) f (by_ways walk ms)) (sym out)
            (live q.0 q.1 e h (walk (next, n.1 + q.1)) (each (next, n.1 + q.1) (subst (λ ms. IsIn (next, n.1 + q.1) ms) (sym out) (inl refl))))

        off_class : in_ranges rs q.0 ≡ false → takes_class (all_pieces rs) (bytes_at n) ≡ false →
            Also (n ∷ p) f (by_ways walk (map (pair_at n.1) (over_scalar rs next (Some q))))
        off_class i h =
            let out : map (pair_at n.1) (over_scalar rs next (Some q)) ≡ [] = rw i refl in
            subst (λ ms. Also (n ∷ p) f (by_ways walk ms)) (sym out)
            (dead h (λ c k e2 i2.
            let same : (c, k) ≡ q = same_Some (c, k) q (sym e2 ∙ e) in
            let in_class : in_ranges rs c ≡ true = sym (in_all_pieces rs c (scalar_of (bytes_at n) c k e2)) ∙ i2 in
            absurd (true≢false (sym in_class ∙ ap (λ (x : ℕ × ℕ). in_ranges rs x.0) same ∙ i))))

  -- what the ways of a pair lead to
  ways_also : (n : Pair) (p : List Pair) → n.0 < length s.places → AllUpTo n.1 p → (walk : Pair → Option (List Pair)) →
      ((m : Pair) → IsIn m (S n) → Also (n ∷ p) (m ∷ []) (walk m)) → Also (n ∷ p) (T n) (by_ways walk (S n))
  ways_also n p h low walk each = ⊎_elim by_class by_place (is_scalar (place_at s.places n.0))
    where
      by_place : ((b : ℕ) → byte_place b (place_at s.places n.0) ≡ place_at s.places n.0) → Also (n ∷ p) (T n) (by_ways walk (S n))
      by_place same =
          let r = stands_at s.places n.0 h in
          let e : T n ≡ S n = ap (λ q. map (pair_at n.1) (ways_out (λ l. holds s.text l n.1) (bytes_at n) q)) (r.1 ∙ same r.0) in
          subst (λ ms. Also (n ∷ p) ms (by_ways walk (S n))) (sym e) (by_ways_also walk (n ∷ p) (S n) each)

      by_class : (rs : List Range) × (next : ℕ) × (place_at s.places n.0 ≡ scalar rs next) → Also (n ∷ p) (T n) (by_ways walk (S n))
      by_class c =
          let r = stands_at s.places n.0 h in
          let e : T n ≡ over (bytes_at n) n.1 (class_ways r.0 c.1 c.0) =
          ap (λ q. map (pair_at n.1) (ways_out (λ l. holds s.text l n.1) (bytes_at n) q)) (r.1 ∙ ap (byte_place r.0) c.2) in
          let d : S n ≡ map (pair_at n.1) (over_scalar c.0 c.1 (scalar_at (bytes_at n))) =
          ap (λ q. map (pair_at n.1) (ways_out (λ l. holds s.text l n.1) (bytes_at n) q)) c.2 in
          let st : Stand B r.0 (block r.0 (scalar c.0 c.1)) = subst (λ q. Stand B r.0 (block r.0 q)) c.2 r.2 in
          subst (λ ms. Also (n ∷ p) ms (by_ways walk (S n))) (sym e)
          (subst (λ ms. Also (n ∷ p) (over (bytes_at n) n.1 (class_ways r.0 c.1 c.0)) (by_ways walk ms)) (sym d)
          (class_also n p low c.0 c.1 r.0 st walk (scalar_at (bytes_at n)) refl
          (λ m i. each m (subst (λ ms. IsIn m ms) (sym d) i))))

  -- the search finds nothing new with no steps left
  none_left : (p : List Pair) (n : Pair) → length s.places * (s.hi + 1) ≤ length p → AreBelow (length s.places) (s.hi + 1) p → AreApart p →
      n.0 < length s.places → n.1 < s.hi + 1 → HasNoWalk T F p (n ∷ [])
  none_left p n full inside apart h k v walk =
      ⊎_elim
      (λ seen. dead_if_passed T F (is_in-true n p seen) walk)
      (λ new. let l = length_below (length s.places) (s.hi + 1) (n ∷ p) ((h, k), inside) ((λ i. true≢false (sym (is_in-from n p i) ∙ new)), apart) in
      omega (arith, l, full))
      (cases_Bool (is_in n p))

  -- what a search by the places finds, the search by the bytes does
  pub walk_also : (most : ℕ) (p : List Pair) (n : Pair) → length s.places * (s.hi + 1) ≤ most + length p →
      AreBelow (length s.places) (s.hi + 1) p → AreApart p → AllUpTo n.1 p → n.0 < length s.places → n.1 < s.hi + 1 →
      Also p (n ∷ []) (walk_by S (may_end s.places) most p n)
  walk_also zero p n enough inside apart low h k = none_left p n (omega (arith, enough)) inside apart h k
  walk_also (suc most) p n enough inside apart low h k =
      ⊎_elim
      (λ seen. rw seen (λ v b. dead_if_passed T F (is_in-true n p seen) b))
      (λ new.
      let fresh : ¬ IsIn n p = λ i. true≢false (sym (is_in-from n p i) ∙ new) in
      rw new
      (⊎_elim
      (λ stop. rw stop (n ∷ [], first_stops T F same_pair last_of_bytes n p [] fresh (ends_same n h ∙ stop), same_stop n h))
      (λ on. rw on
      (onward n p (by_ways (walk_by S (may_end s.places) most (n ∷ p)) (S n)) h fresh (λ stop. true≢false (sym stop ∙ ends_same n h ∙ on))
      (ways_also n p h low (walk_by S (may_end s.places) most (n ∷ p))
      (λ m i. walk_also most (n ∷ p) m (omega (arith, enough)) ((h, k), inside) (fresh, apart)
      (λ j q. let l : n.1 ≤ m.1 = ways_onward s.places s.text s.hi n m i in
      ⊎_elim (λ e. let f : n.1 ≡ j.1 = ap (λ (x : Pair). x.1) e in omega (arith, f, l)) (λ r. let g = low j r in omega (arith, g, l)) q)
      (ways_closed s.places closed s.text s.hi n m i)
      (let l : m.1 ≤ s.hi = ways_within s.places s.text s.hi n m (omega (arith, k)) i in omega (arith, l))))))
      (cases_Bool (may_end s.places n))))
      (cases_Bool (is_in n p))
