-- The walks that lead through a block: those over its bytes, and to its next place.
use Rattle.std.proofs.Common.{◌≡◌, ℕ, zero, suc, ◌+◌, ◌-◌, ◌/◌, ◌%◌, ◌<◌, ◌≤◌, ◌⊎◌, List, [], ◌∷◌, ◌++◌, length, length-append, map, take, drop, ⊎_elim, sym, subst, ap, ap₂, ◌∙◌, refl, arith, Bool, true, false, true≢false, IsTrue, Option, Some, None, ◌&&◌, ◌||◌, nat_le}
use Rattle.std.specs.List.{AllByRecursion}
use Rattle.std.proofs.lemmas.Bool.{cases_Bool, cases_lt, cases_eq, or_cases, or_parts, or_left, or_right, or_from, false_from_ne_true}
use Rattle.std.proofs.lemmas.Option.{none-some, same_Some}
use Rattle.rc_program.specs.Scalars.{scalar_at}
use Rattle.rc_walks.specs.Walks.{Pair, IsIn, IsFirstWalk, HasNoWalk}
use Rattle.rc_walks.proofs.WalkLemmas.{first_goes}
use Rattle.rc_walks.proofs.CutLemmas.{loosen}
use Rattle.rc_walks.proofs.StackLemmas.{no_ways, dead_if_tried}
use Rattle.rc_walks.proofs.TryLemmas.{Finds}
use Rattle.rc_walks.proofs.ThreadLemmas.{all_onward, Alike, first_alike, none_alike}
use Rattle.rc_pattern.specs.Re.{Range}
use Rattle.rc_program.specs.Text.{Text, holds, ahead}
use Rattle.rc_program.specs.Program.{Place, branch, place_at, ways, ways_out, over_byte, branch_ways, in_ranges, pair_at, is_match_place}
use Rattle.rc_program.proofs.WayLemmas.{same_pair, no_way_from, ways_onward}
use Rattle.rc_program.proofs.PartLemmas.{Stand, Stand-left, Stand-right}
use Rattle.rc_utf8.specs.Bytes as trees
use Rattle.rc_utf8.specs.Bytes.{Sequence, Tree, ends, goes, Ways, rest_of, tails, depth, size, within_bytes, tree_ways, tree_block, piece_sequences, sequences, tree_of}
use Rattle.rc_utf8.proofs.TreeLemmas.{takes, takes_some, IsLed, Takes, by_rest, by_below, past_end, past_way, IsLong, within_long, long_led, within_same, some_append, tree_takes, tree_parts}
use Rattle.rc_utf8.proofs.TakeLemmas.{inside, inside_parts, inside_from, any_from, takes_any, takes_within}
use Rattle.std.specs.Char.{encode_utf8}
use Rattle.rc_utf8.proofs.ScalarLemmas.{encode_one, encode_two, encode_three, encode_four, IsPiece, takes_piece, EachPiece, same_test}
use Rattle.rc_utf8.proofs.AppendLemmas.{none_append, first_append, first_after_none}

take_cons : (n : ℕ) (xs : List ℕ) (d : ℕ) (ds : List ℕ) → take n xs ≡ d ∷ ds →
    (k : ℕ) × (x : ℕ) × (r : List ℕ) × (n ≡ suc k) × (xs ≡ x ∷ r) × (take k r ≡ ds)
take_cons zero xs d ds e = absurd (cc)
take_cons (suc n) [] d ds e = absurd (cc)
take_cons (suc n) (x ∷ xs) d ds e = (n, x, xs, refl, refl, cc)

drop_next : (xs : List ℕ) (y x : ℕ) (r : List ℕ) → drop y xs ≡ x ∷ r → drop (y + 1) xs ≡ r
drop_next xs y x r e = let n : y + 1 ≡ suc y = omega arith in ap (λ k. drop k xs) n ∙ more xs y e
  where
    more : (xs : List ℕ) (y : ℕ) → drop y xs ≡ x ∷ r → drop (suc y) xs ≡ r
    more [] zero e = absurd (cc)
    more [] (suc y) e = absurd (cc)
    more (z ∷ xs) zero e = cc
    more (z ∷ xs) (suc y) e = more xs y e

-- one byte further
pub ahead_next : (t : Text) (hi y d : ℕ) (ds : List ℕ) → ahead t hi y ≡ d ∷ ds → ahead t hi (y + 1) ≡ ds
ahead_next t hi y d ds e =
    let r = take_cons (hi - y) (drop y t.content) d ds e in
    let k : hi - (y + 1) ≡ r.0 = let h = r.3 in omega (arith, h) in
    ap₂ (λ n (xs : List ℕ). take n xs) k (drop_next t.content y r.1 r.2 r.4) ∙ r.5

-- what the ways of a list over one byte lead to
abbrev pub over : List ℕ → ℕ → Ways → List Pair
over bs y ts = map (pair_at y) (over_byte (λ b. branch_ways b ts) bs)

over_append : (d y : ℕ) (ts us : Ways) → map (pair_at y) (branch_ways d (ts ++ us)) ≡ map (pair_at y) (branch_ways d ts) ++ map (pair_at y) (branch_ways d us)
over_append d y [] us = refl
over_append d y (t ∷ ts) us = ⊎_elim (λ e. rw e (ap (λ f. (t.1, y + 1) ∷ f) (over_append d y ts us))) (λ e. rw e (over_append d y ts us))
    (cases_Bool (inside t.0.0 t.0.1 d))

-- behind the first place
stand_behind : (prog : List Place) (start : ℕ) (qs : List Place) → Stand prog (suc start) qs → Stand prog (start + 1) qs
stand_behind prog start qs st = let e : suc start ≡ start + 1 = omega arith in subst (λ k. Stand prog k qs) e st

over_both : (bs : List ℕ) (y : ℕ) (ts us : Ways) → over bs y (ts ++ us) ≡ over bs y ts ++ over bs y us
over_both [] y ts us = refl
over_both (d ∷ ds) y ts us = over_append d y ts us

-- the bytes of the scalars of some pieces
abbrev pub takes_class : List Range → List ℕ → Bool
takes_class [] bs = false
takes_class (p ∷ ps) bs = takes_piece p bs || takes_class ps bs

piece_test : (p : Range) (n : ℕ) → IsPiece p n → (bs : List ℕ) (c k : ℕ) → scalar_at bs ≡ Some (c, k) → takes_piece p bs ≡ (nat_le p.0 c && nat_le c p.1)
piece_test p n q bs c k e =
    same_test _ _
    (λ h. let b = q.from bs h in
    let i : b.0 ≡ c = ap (λ (x : ℕ × ℕ). x.0) (same_Some (b.0, n) (c, k) (sym b.1 ∙ e)) in
    subst (λ x. inside p.0 p.1 x ≡ true) i (inside_from p.0 p.1 b.0 b.2 b.3))
    (λ h. let i = inside_parts p.0 p.1 c h in q.to bs c k e i.0 i.1)

pub class_test : (ps : List Range) → EachPiece ps → (bs : List ℕ) (c k : ℕ) → scalar_at bs ≡ Some (c, k) → takes_class ps bs ≡ in_ranges ps c
class_test [] each bs c k e = refl
class_test (p ∷ ps) each bs c k e = ap₂ ◌||◌ (piece_test p each.0.0 each.0.1 bs c k e) (class_test ps each.1 bs c k e)

pub class_none : (ps : List Range) → EachPiece ps → (bs : List ℕ) → scalar_at bs ≡ None → takes_class ps bs ≡ false
class_none [] each bs e = refl
class_none (p ∷ ps) each bs e =
    or_from _ _ (false_from_ne_true _ (λ h. let b = each.0.1.from bs h in none-some _ (sym e ∙ b.1))) (class_none ps each.1 bs e)

pub length-tails : (count tail next : ℕ) → length (tails count tail next) ≡ count
length-tails zero tail next = refl
length-tails (suc count) tail next = ap suc (length-tails count (tail + 1) next)

pub length-tree_block : (count tail next : ℕ) (tree : Tree) (start : ℕ) → length (tree_block count tail next tree start) ≡ size tree
length-tree_block count tail next trees.none start = refl
length-tree_block count tail next (ends a b n others) start = length-tree_block count tail next others start
length-tree_block count tail next (goes a b below others) start =
    let inner = tree_block count tail next below start in
    let outer = tree_block count tail next others (start + size below + 1) in
    let l = length-append inner (branch (tree_ways count tail next below start) ∷ outer) in
    let h = length-tree_block count tail next below start in
    let k = length-tree_block count tail next others (start + size below + 1) in
    omega (arith, l, h, k)

rest_same : (count tail next n : ℕ) → n ≤ count → rest_of (suc count) tail next n ≡ rest_of count (tail + 1) next n
rest_same count tail next zero h = refl
rest_same count tail next (suc n) h = omega (arith, h)

-- the place that reads any n + 1 continuation bytes
tails_at : (prog : List Place) (next count tail n : ℕ) → Stand prog tail (tails count tail next) → n < count →
    place_at prog (tail + (count - suc n)) ≡ branch (((128, 191), rest_of count tail next n) ∷ [])
tails_at prog next zero tail n st h = absurd (omega (arith, h))
tails_at prog next (suc count) tail n st h =
    ⊎_elim
    (λ e. let f : tail ≡ tail + (suc count - suc n) = omega (arith, e) in
    subst (λ k. place_at prog k ≡ branch (((128, 191), rest_of (suc count) tail next n) ∷ [])) f
    (st.0 ∙ ap (λ k. branch (((128, 191), k) ∷ [])) (sym (subst (λ m. rest_of (suc count) tail next m ≡ rest_of count (tail + 1) next count) (sym e) (rest_same count tail next count (omega arith))))))
    (λ ne. let f : tail + 1 + (count - suc n) ≡ tail + (suc count - suc n) = omega (arith, ne, h) in
    subst (λ k. place_at prog k ≡ branch (((128, 191), rest_of (suc count) tail next n) ∷ [])) f
    (tails_at prog next count (tail + 1) n (stand_behind prog tail (tails count (tail + 1) next) st.1) (omega (arith, ne, h))
    ∙ ap (λ k. branch (((128, 191), k) ∷ [])) (sym (rest_same count tail next n (omega (arith, h))))))
    (cases_eq n count)

-- THE TREE OF A CLASS

-- continuation bytes stand behind the first
abbrev Follows : List ℕ → Type 0
Follows [] = Unit {0}
Follows (a ∷ xs) = takes_any (length xs) xs ≡ true

encode_follows : (c : ℕ) → Follows (encode_utf8 c)
encode_follows c =
    ⊎_elim (λ l. subst Follows (sym (encode_one c l)) refl)
    (λ g1. ⊎_elim (λ l. subst Follows (sym (encode_two c g1 l)) (any_from 0 (128 + c % 64) [] (omega arith) (omega arith) refl))
    (λ g2. ⊎_elim (λ l. subst Follows (sym (encode_three c g2 l))
    (any_from 1 (128 + c / 64 % 64) ((128 + c % 64) ∷ []) (omega arith) (omega arith) (any_from 0 (128 + c % 64) [] (omega arith) (omega arith) refl)))
    (λ g3. subst Follows (sym (encode_four c g3))
    (any_from 2 (128 + c / 4096 % 64) ((128 + c / 64 % 64) ∷ (128 + c % 64) ∷ []) (omega arith) (omega arith)
    (any_from 1 (128 + c / 64 % 64) ((128 + c % 64) ∷ []) (omega arith) (omega arith) (any_from 0 (128 + c % 64) [] (omega arith) (omega arith) refl))))
    (cases_lt c 65536)) (cases_lt c 2048)) (cases_lt c 128)

piece_takes : (p : Range) (n : ℕ) → IsPiece p n → (bs : List ℕ) → takes_some (piece_sequences p) bs ≡ takes_piece p bs
piece_takes p n q bs = from (encode_utf8 p.0) (encode_utf8 p.1) q.first q.last (encode_follows p.0) (encode_follows p.1)
  where
    from : (xs ys : List ℕ) → length xs ≡ n → length ys ≡ n → Follows xs → Follows ys → takes_some (within_bytes xs ys) bs ≡ takes_within xs ys bs
    from [] ys a b f g = let some = q.some in absurd (omega (arith, a, some))
    from (x ∷ xs) [] a b f g = absurd (omega (arith, a, b))
    from (x ∷ xs) (y ∷ ys) a b f g = within_same x xs y ys bs (omega (arith, a, b)) f g

pub piece_long : (p : Range) (n : ℕ) → IsPiece p n → AllByRecursion (IsLong n) (piece_sequences p)
piece_long p n q =
    subst (λ m. AllByRecursion (IsLong m) (piece_sequences p)) q.first (within_long (encode_utf8 p.0) (encode_utf8 p.1) (q.last ∙ sym q.first))

led_append : (xs ys : List Sequence) → AllByRecursion IsLed xs → AllByRecursion IsLed ys → AllByRecursion IsLed (xs ++ ys)
led_append [] ys a b = b
led_append (s ∷ xs) ys a b = (a.0, led_append xs ys a.1 b)

pub class_led : (ps : List Range) → EachPiece ps → AllByRecursion IsLed (sequences ps)
class_led [] each = tt
class_led (p ∷ ps) each =
    led_append (piece_sequences p) (sequences ps) (long_led each.0.0 (piece_sequences p) (piece_long p each.0.0 each.0.1)) (class_led ps each.1)

some_class : (ps : List Range) → EachPiece ps → (bs : List ℕ) → takes_some (sequences ps) bs ≡ takes_class ps bs
some_class [] each bs = refl
some_class (p ∷ ps) each bs =
    some_append (piece_sequences p) (sequences ps) bs ∙ ap₂ ◌||◌ (piece_takes p each.0.0 each.0.1 bs) (some_class ps each.1 bs)

class_takes : (ps : List Range) → EachPiece ps → (bs : List ℕ) → takes (tree_of (sequences ps)) bs ≡ takes_class ps bs
class_takes ps each [] = sym (none ps each)
  where
    none : (ps : List Range) → EachPiece ps → takes_class ps [] ≡ false
    none [] each = refl
    none (p ∷ ps) each =
        or_from _ _ (within_nothing (encode_utf8 p.0) (encode_utf8 p.1)) (none ps each.1)
      where
        within_nothing : (xs ys : List ℕ) → takes_within xs ys [] ≡ false
        within_nothing [] ys = refl
        within_nothing (x ∷ xs) [] = refl
        within_nothing (x ∷ xs) (y ∷ ys) = refl
class_takes ps each (d ∷ ds) = tree_takes (sequences ps) (class_led ps each) d ds ∙ some_class ps each (d ∷ ds)

-- a path is over the bytes of a scalar of the pieces
class_parts : (ps : List Range) → EachPiece ps → (bs : List ℕ) (k : ℕ) → Takes (tree_of (sequences ps)) bs k →
    (c : ℕ) × (scalar_at bs ≡ Some (c, k)) × (in_ranges ps c ≡ true)
class_parts [] each bs k h = elim h [ ]
class_parts (p ∷ ps) each bs k h =
    let n = each.0.0 in
    let q = each.0.1 in
    ⊎_elim
    (λ x. let b = q.from bs (sym (piece_takes p n q bs) ∙ x.0) in
    (b.0, subst (λ m. scalar_at bs ≡ Some (b.0, m)) (sym x.1) b.1, or_left _ _ (inside_from p.0 p.1 b.0 b.2 b.3)))
    (λ x. let r = class_parts ps each.1 bs k x in (r.0, r.1, or_right _ _ r.2))
    (tree_parts n (piece_sequences p) (sequences ps) (piece_long p n q) bs k h)

module _ (prog : List Place) (t : Text) (hi : ℕ) (test : Place → ℕ → Bool)
    (accepts : (q : Place) (y : ℕ) → test q y ≡ true → is_match_place None q ≡ true) (next z : ℕ) (o : Option (List Pair)) where
  abbrev pub W : Pair → List Pair
  W = ways prog t hi

  abbrev pub E : Pair → Type 0
  E n = IsTrue (test (place_at prog n.0) n.1)

  abbrev pub IsBranch : Pair → Type 0
  IsBranch n = (ts : Ways) × (place_at prog n.0 ≡ branch ts)

  abbrev pub AllBefore : ℕ → List Pair → Type 0
  AllBefore y p = (k : Pair) → IsIn k p → k.1 < y

  -- what is found by way of branches, where `o` is found from (next, z)
  abbrev pub Via : Option (List Pair) → List Pair → List Pair → Type 0
  Via None p f = HasNoWalk W E p f
  Via (Some v) p f = (u : List Pair) × AllByRecursion IsBranch u × IsFirstWalk W E p f (u ++ v)

  -- what the test `ok` tells of the walks that set out by f at position y: they lead to (next, z), if G, or nowhere
  pub record Tells (G : Type 0) (f : List Pair) (y : ℕ) (ok : Bool) : Type 0 where
    pub yes : ok ≡ true → G → (p : List Pair) → AllBefore y p → Via o p f
    pub none : ok ≡ false → (p : List Pair) → AllBefore y p → HasNoWalk W E p f

  last_pair : (n m : Pair) → E n → ¬ IsIn m (W n)
  last_pair n m e = no_way_from None (λ l. holds t l n.1) (ahead t hi n.1) (place_at prog n.0) n.1 m (accepts (place_at prog n.0) n.1 e)

  pub tells_nothing : (G : Type 0) (y : ℕ) → Tells G [] y false
  tells_nothing G y = record { yes = λ e. absurd (true≢false (sym e)); none = λ e p b v walk. no_ways W E walk }

  pub tells_append : (G : Type 0) (f g : List Pair) (y : ℕ) (a b : Bool) → Tells G f y a → Tells G g y b → Tells G (f ++ g) y (a || b)
  tells_append G f g y a b x w = record {
    yes = λ e k p low. from o (cases_Bool a) (cases_Bool b) e k p low (λ h. x.yes h k p low) (λ h. x.none h p low) (λ h. w.yes h k p low) (λ h. w.none h p low);
    none = λ e p low. let q = or_parts a b e in none_append W E p f g (x.none q.0 p low) (w.none q.1 p low);
  }
    where
      from : (o : Option (List Pair)) → (a ≡ true) ⊎ (a ≡ false) → (b ≡ true) ⊎ (b ≡ false) → (a || b) ≡ true → G → (p : List Pair) → AllBefore y p →
          (a ≡ true → Via o p f) → (a ≡ false → HasNoWalk W E p f) → (b ≡ true → Via o p g) → (b ≡ false → HasNoWalk W E p g) → Via o p (f ++ g)
      from None ca cb e k p low fy fn gy gn = none_append W E p f g (⊎_elim fy fn ca) (⊎_elim gy gn cb)
      from (Some v) ca cb e k p low fy fn gy gn =
          ⊎_elim (λ h. let r = fy h in (r.0, r.1, first_append W E same_pair p f g (r.0 ++ v) r.2))
          (λ h. let i : b ≡ true = ⊎_elim (λ q. absurd (true≢false (sym q ∙ h))) (λ q. q) (or_cases a b e) in
          let r = gy i in (r.0, r.1, first_after_none W E p f g (r.0 ++ v) (fn h) r.2)) ca

  -- one way of a branch, and the others
  pub tells_way : (G : Type 0) (d y a b n : ℕ) (ts : Ways) (x w : Bool) → Tells G ((n, y + 1) ∷ []) (y + 1) x →
      Tells G (over (d ∷ []) y ts) (y + 1) w → Tells G (over (d ∷ []) y (((a, b), n) ∷ ts)) (y + 1) ((inside a b d && x) || w)
  tells_way G d y a b n ts x w one rest =
      ⊎_elim (λ e. rw e (tells_append G ((n, y + 1) ∷ []) (over (d ∷ []) y ts) (y + 1) x w one rest)) (λ e. rw e rest)
      (cases_Bool (inside a b d))

  -- where the byte is of the range
  pub tells_when : (G : Type 0) (d y a b n : ℕ) (ts : Ways) (x w : Bool) → (inside a b d ≡ true → Tells G ((n, y + 1) ∷ []) (y + 1) x) →
      Tells G (over (d ∷ []) y ts) (y + 1) w → Tells G (over (d ∷ []) y (((a, b), n) ∷ ts)) (y + 1) ((inside a b d && x) || w)
  tells_when G d y a b n ts x w one rest =
      ⊎_elim (λ e. let first = one e in rw e (tells_append G ((n, y + 1) ∷ []) (over (d ∷ []) y ts) (y + 1) x w first rest)) (λ e. rw e rest)
      (cases_Bool (inside a b d))

  free : (G : Type 0) (f : List Pair) (y : ℕ) (ok : Bool) → Tells G f y ok → (ok ≡ true → G) → Tells (Unit {0}) f y ok
  free G f y ok x h = record { yes = λ e k p low. x.yes e (h e) p low; none = λ e p low. x.none e p low }

  -- a place that branches
  pub tells_place : (G : Type 0) (n y : ℕ) (bs : List ℕ) (ts : Ways) (ok : Bool) → place_at prog n ≡ branch ts → ahead t hi y ≡ bs →
      Tells G (over bs y ts) (y + 1) ok → Tells G ((n, y) ∷ []) y ok
  tells_place G n y bs ts ok is e x = record {
    yes = λ h k p low. from o p low (x.yes h k ((n, y) ∷ p) (lower p low));
    none = λ h p low v walk. dead_if_tried W E on (subst (λ f. HasNoWalk W E ((n, y) ∷ p) f) (sym out) (x.none h ((n, y) ∷ p) (lower p low))) walk;
  }
    where
      out : W (n, y) ≡ over bs y ts
      out = ap₂ (λ q xs. map (pair_at y) (ways_out (λ l. holds t l y) xs q)) is e

      on : ¬ E (n, y)
      on h = true≢false (sym (accepts (place_at prog n) y h) ∙ ap (is_match_place None) is)

      lower : (p : List Pair) → AllBefore y p → AllBefore (y + 1) ((n, y) ∷ p)
      lower p low k i =
          ⊎_elim (λ e. let f : y ≡ k.1 = ap (λ (q : Pair). q.1) e in omega (arith, f)) (λ j. let l = low k j in omega (arith, l)) i

      from : (o : Option (List Pair)) → (p : List Pair) → AllBefore y p → Via o ((n, y) ∷ p) (over bs y ts) → Via o p ((n, y) ∷ [])
      from None p low none = λ v walk. dead_if_tried W E on (subst (λ f. HasNoWalk W E ((n, y) ∷ p) f) (sym out) none) walk
      from (Some v) p low r = (
        (n, y) ∷ r.0,
        ((ts, is), r.1),
        first_goes W E same_pair last_pair (n, y) p [] (r.0 ++ v) (λ i. let l : y < y = low (n, y) i in omega (arith, l)) on
            (subst (λ f. IsFirstWalk W E ((n, y) ∷ p) f (r.0 ++ v)) (sym out) r.2),
      )

  module _ (found : Finds W E [] ((next, z) ∷ []) o) where
    -- the end of a block
    pub tells_next : (e y : ℕ) → y ≡ e → Tells (e ≡ z) ((next, y) ∷ []) y true
    tells_next e y is = record {
      yes = λ h k p low. subst (λ x. Via o p ((next, x) ∷ [])) (sym (is ∙ k)) (from o found p (λ m i. let l = low m i in omega (arith, l, is, k)));
      none = λ h. absurd (true≢false h);
    }
      where
        alike : (p : List Pair) → AllBefore z p → Alike W E [] p ((next, z) ∷ [])
        alike p low = record {
          there = λ w b. loosen W E b p (λ k i j.
              let x : z ≤ k.1 = all_onward W E (ways_onward prog t hi) z
              (λ m q. ⊎_elim (λ e. let f : z ≡ m.1 = ap (λ (n : Pair). n.1) e in omega (arith, f)) (λ never. absurd never) q) b k i in
              let l = low k j in omega (arith, x, l));
          back = λ w b. loosen W E b [] (λ k i j. j);
        }

        from : (o : Option (List Pair)) → Finds W E [] ((next, z) ∷ []) o → (p : List Pair) → AllBefore z p → Via o p ((next, z) ∷ [])
        from None none p low = none_alike W E [] p ((next, z) ∷ []) (alike p low) none
        from (Some v) first p low = ([], tt, first_alike W E [] p ((next, z) ∷ []) v (alike p low) first)

    module _ (count tail : ℕ) (stands : Stand prog tail (tails count tail next)) where
      pub tells_any : (e n y : ℕ) (bs : List ℕ) → n ≤ count → ahead t hi y ≡ bs → y + n ≡ e → Tells (e ≡ z) ((rest_of count tail next n, y) ∷ []) y (takes_any n bs)
      tells_any e zero y bs h at end = tells_next e y (omega (arith, end))
      tells_any e (suc n) y [] h at end =
          tells_place (e ≡ z) (tail + (count - suc n)) y [] (((128, 191), rest_of count tail next n) ∷ []) false (tails_at prog next count tail n stands h) at (tells_nothing (e ≡ z) (y + 1))
      tells_any e (suc n) y (d ∷ ds) h at end =
          tells_place (e ≡ z) (tail + (count - suc n)) y (d ∷ ds) (((128, 191), rest_of count tail next n) ∷ []) _ (tails_at prog next count tail n stands h) at
          (tells_way (e ≡ z) d y 128 191 (rest_of count tail next n) [] (takes_any n ds) false
          (tells_any e n (y + 1) ds (omega (arith, h)) (ahead_next t hi y d ds at) (omega (arith, end)))
          (tells_nothing (e ≡ z) (y + 1)))

      -- the walks through a tree
      pub tells_tree : (tree : Tree) (y start : ℕ) (bs : List ℕ) → depth tree ≤ count → Stand prog start (tree_block count tail next tree start) →
          ahead t hi y ≡ bs → ((k : ℕ) → Takes tree bs k → y + k ≡ z) →
          Tells (Unit {0}) (over bs y (tree_ways count tail next tree start)) (y + 1) (takes tree bs)
      tells_tree tree y start [] h st at right = tells_nothing (Unit {0}) (y + 1)
      tells_tree trees.none y start (d ∷ ds) h st at right = tells_nothing (Unit {0}) (y + 1)
      tells_tree (ends a b n others) y start (d ∷ ds) h st at right =
          tells_when (Unit {0}) d y a b (rest_of count tail next n) (tree_ways count tail next others start) (takes_any n ds) (takes others (d ∷ ds))
          (λ i. free (y + 1 + n ≡ z) ((rest_of count tail next n, y + 1) ∷ []) (y + 1) (takes_any n ds)
          (tells_any (y + 1 + n) n (y + 1) ds (omega (arith, h)) (ahead_next t hi y d ds at) refl)
          (λ k. let e = right (suc n) (by_rest i k) in omega (arith, e)))
          (tells_tree others y start (d ∷ ds) (omega (arith, h)) st at (λ k x. right k (past_end x)))
      tells_tree (goes a b below others) y start (d ∷ ds) h st at right =
          let on = ahead_next t hi y d ds at in
          let inner = tree_block count tail next below start in
          let here = start + size below in
          let outer = tree_block count tail next others (here + 1) in
          let length_is = length-tree_block count tail next below start in
          let e : start + length inner ≡ here = omega (arith, length_is) in
          let mid : Stand prog here (branch (tree_ways count tail next below start) ∷ outer) =
          subst (λ k. Stand prog k (branch (tree_ways count tail next below start) ∷ outer)) e
          (Stand-right prog start inner (branch (tree_ways count tail next below start) ∷ outer) st) in
          tells_when (Unit {0}) d y a b here (tree_ways count tail next others (here + 1)) (takes below ds) (takes others (d ∷ ds))
          (λ i. tells_place (Unit {0}) here (y + 1) ds (tree_ways count tail next below start) (takes below ds) mid.0 on
          (tells_tree below (y + 1) start ds (omega (arith, h)) (Stand-left prog start inner (branch (tree_ways count tail next below start) ∷ outer) st) on
          (λ k x. let f = right (suc k) (by_below i x) in omega (arith, f))))
          (tells_tree others y (here + 1) (d ∷ ds) (omega (arith, h)) (stand_behind prog here outer mid.1) at (λ k x. right k (past_way x)))

      -- the walks over the scalars of some pieces
      pub tells_class : (ps : List Range) → EachPiece ps → (y start : ℕ) (bs : List ℕ) → depth (tree_of (sequences ps)) ≤ count →
          Stand prog start (tree_block count tail next (tree_of (sequences ps)) start) →
          ahead t hi y ≡ bs → ((c k : ℕ) → scalar_at bs ≡ Some (c, k) → in_ranges ps c ≡ true → y + k ≡ z) →
          Tells (Unit {0}) (over bs y (tree_ways count tail next (tree_of (sequences ps)) start)) (y + 1) (takes_class ps bs)
      tells_class ps each y start bs deep st at right =
          subst (λ ok. Tells (Unit {0}) (over bs y (tree_ways count tail next (tree_of (sequences ps)) start)) (y + 1) ok) (class_takes ps each bs)
          (tells_tree (tree_of (sequences ps)) y start bs deep st at
          (λ k h. let r = class_parts ps each bs k h in right r.0 k r.1 r.2))
