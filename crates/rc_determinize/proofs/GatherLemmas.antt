-- The loop of a step where each match counts.
use Rattle.std.proofs.Common.{◌≡◌, ℕ, suc, ◌+◌, ◌-◌, ◌*◌, ◌<◌, ◌≤◌, ◌⊎◌, ◌↔◌, List, [], ◌∷◌, ◌++◌, length, reverse, Option, Some, None, Bool, true, false, true≢false, IsTrue, nat_eq, min, inl, inr, ⊎_elim, sym, subst, ap, ◌∙◌, refl, arith}
use Rattle.std.specs.List.{list_any}
use Rattle.std.proofs.lemmas.Bool.{cases_lt, cases_Bool}
use Rattle.std.proofs.lemmas.List.{reverse-append, reverse-reverse, length-append, length-reverse, length-map}
use Rattle.rc_pattern.specs.declared.hir.Look.{Look}
use Rattle.rc_program.specs.Program.{Place, place_at, Way, stays, reads}
use Rattle.rc_program.specs.Laws.{IsClosed}
use Rattle.rc_utf8.specs.declared.place.BytePlace as code
use Rattle.rc_utf8.specs.Places.{place_of, places_of}
use Rattle.rc_determinize.specs.Sparse.{Members}
use Rattle.rc_determinize.specs.Steps.{HasPlace, AreBelow, IsRising, HasWay, out_by}
use Rattle.rc_determinize.specs.Sets.{ComesBy, listed, follows, IsLeastMatch, IsNextOfAllOver}
use Rattle.rc_determinize.specs.declared.sides.Sides.{Sides}
use Rattle.rc_determinize.specs.Sides.{out_over}
use Rattle.rc_determinize.specs.States.{State, is_match, root_if}
use Rattle.rc_determinize.specs.Machine.{stay_places, read_places, add_one, add_all, least_with, IsGathered}
use Rattle.rc_determinize.proofs.MachineLemmas.{has_parts, has_left, has_right}
use Rattle.rc_determinize.proofs.BackwardLemmas.{IsStay, each_way}
use Rattle.rc_determinize.proofs.OpenLemmas.{any_has}
use Rattle.rc_determinize.proofs.FollowLemmas.{by_bytes, two, out_below, below_reverse}

-- ways and the places to which they lead

pub has_reverse : (q : ℕ) (ys : List ℕ) → HasPlace q ys → HasPlace q (reverse ys)
has_reverse q [] z = z
has_reverse q (y ∷ ys) z =
    subst (λ l. HasPlace q l) (sym (reverse-append (y ∷ []) ys))
    (⊎_elim (λ e. has_right q (reverse ys) (y ∷ []) (inl e)) (λ t. has_left q (reverse ys) (y ∷ []) (has_reverse q ys t)) z)

pub from_reverse : (q : ℕ) (ys : List ℕ) → HasPlace q (reverse ys) → HasPlace q ys
from_reverse q ys z = subst (λ l. HasPlace q l) (reverse-reverse ys) (has_reverse q (reverse ys) z)

pub stay_way : (p : ℕ) (ws : List Way) → HasPlace p (stay_places ws) → HasWay (stays p) ws
stay_way p [] h = h
stay_way p (stays q ∷ ws) h = ⊎_elim (λ e. inl (ap (λ x. stays x) e)) (λ z. inr (stay_way p ws z)) h
stay_way p (reads n q ∷ ws) h = inr (stay_way p ws h)

abbrev stay_of : Way → ℕ
stay_of (stays q) = suc q
stay_of (reads n q) = 0

abbrev read_of : Way → ℕ
read_of (stays q) = 0
read_of (reads n q) = suc q

pub way_stay : (p : ℕ) (ws : List Way) → HasWay (stays p) ws → HasPlace p (stay_places ws)
way_stay p [] h = h
way_stay p (stays q ∷ ws) h = ⊎_elim (λ e. inl (let f : suc q ≡ suc p = ap (λ w. stay_of w) e in omega (arith, f))) (λ z. inr (way_stay p ws z)) h
way_stay p (reads n q ∷ ws) h =
    ⊎_elim (λ e. let f : 0 ≡ suc p = ap (λ w. stay_of w) e in absurd (omega (arith, f))) (λ z. way_stay p ws z) h

pub way_read : (n p : ℕ) (ws : List Way) → HasWay (reads n p) ws → HasPlace p (read_places ws)
way_read n p [] h = h
way_read n p (stays q ∷ ws) h =
    ⊎_elim (λ e. let f : 0 ≡ suc p = ap (λ w. read_of w) e in absurd (omega (arith, f))) (λ z. way_read n p ws z) h
way_read n p (reads m q ∷ ws) h =
    ⊎_elim (λ e. inl (let f : suc q ≡ suc p = ap (λ w. read_of w) e in omega (arith, f))) (λ z. inr (way_read n p ws z)) h

pub read_way : (p : ℕ) (ws : List Way) → ((w : Way) → HasWay w ws → IsStay w ⊎ ((k : ℕ) × (w ≡ reads 1 k))) → HasPlace p (read_places ws) →
    HasWay (reads 1 p) ws
read_way p [] each h = h
read_way p (stays q ∷ ws) each h = inr (read_way p ws (λ w z. each w (inr z)) h)
read_way p (reads n q ∷ ws) each h =
    ⊎_elim
    (λ e. inl (⊎_elim
    (λ s. let f : suc q ≡ 0 = ap (λ w. read_of w) s.1 in absurd (omega (arith, f)))
    (λ s. s.1 ∙ ap (λ x. reads 1 x) (let f : suc q ≡ suc s.0 = ap (λ w. read_of w) s.1 in let g : s.0 ≡ q = omega (arith, f) in g ∙ e))
    (each (reads n q) (inl refl))))
    (λ z. inr (read_way p ws (λ w y. each w (inr y)) z)) h

-- a list with some added
pub one_added : (list : List ℕ) (q p : ℕ) → HasPlace p (add_one list q) ↔ (HasPlace p list ⊎ (q ≡ p))
one_added list q p =
    ⊎_elim
    (λ t. rw t ((λ h. inl h), (λ h. ⊎_elim (λ x. x) (λ e. subst (λ k. HasPlace k list) e (any_has q list t)) h)))
    (λ f. rw f (
      (λ h. ⊎_elim (λ x. inl x) (λ e. inr (⊎_elim (λ x. x) (λ never. absurd never) e)) (has_parts p list (q ∷ []) h)),
      (λ h. ⊎_elim (λ x. has_left p list (q ∷ []) x) (λ e. has_right p list (q ∷ []) (inl e)) h),
    ))
    (cases_Bool (list_any (λ k. nat_eq k q) list))

pub all_added_are : (list qs : List ℕ) (p : ℕ) → HasPlace p (add_all list qs) ↔ (HasPlace p list ⊎ HasPlace p qs)
all_added_are list [] p = ((λ h. inl h), (λ h. ⊎_elim (λ x. x) (λ never. absurd never) h))
all_added_are list (q ∷ qs) p =
    let r = all_added_are (add_one list q) qs p in
    let o = one_added list q p in (
      (λ h. ⊎_elim (λ x. ⊎_elim (λ y. inl y) (λ e. inr (inl e)) (o.0 x)) (λ z. inr (inr z)) (r.0 h)),
      (λ h. r.1 (⊎_elim (λ x. inl (o.1 (inl x))) (λ y. ⊎_elim (λ e. inl (o.1 (inr e))) (λ z. inr z) y) h)),
    )

module _ (ps : List code.BytePlace) (test : Look → Bool) (after : Option ℕ) (list : List ℕ) where
  abbrev out : ℕ → List Way
  out = out_by (places_of ps) test after

  -- Between two turns of the loop.
  pub record IsCollecting (entered wanted : Members) (stack : List ℕ) (least : Option ℕ) : Type 0 where
    pub entered_size : entered.capacity ≡ length ps
    pub wanted_size : wanted.capacity ≡ length ps
    pub few : length entered.items ≤ length ps
    pub below : AreBelow (length ps) stack
    pub sound : (q : ℕ) → HasPlace q entered.items ⊎ HasPlace q stack → ComesBy out list q
    pub start : (q : ℕ) → HasPlace q list → HasPlace q entered.items ⊎ HasPlace q stack
    pub spent : (q p : ℕ) → HasPlace q entered.items → HasWay (stays p) (out q) → HasPlace p entered.items ⊎ HasPlace p stack
    pub wants : (q : ℕ) → HasPlace q wanted.items ↔ ((p : ℕ) × HasPlace p entered.items × HasWay (reads 1 q) (out p))
    pub lowest : IsLeastMatch (places_of ps) (λ q. HasPlace q entered.items) least

  pub sets_out : (entered wanted : Members) (stack : List ℕ) → list ≡ reverse stack → AreBelow (length ps) (reverse stack) →
      entered ≡ record { capacity = length ps; items = [] } → wanted ≡ record { capacity = length ps; items = [] } → IsCollecting entered wanted stack None
  sets_out entered wanted stack is below e f = rw (e, f) (record {
    entered_size = refl;
    wanted_size = refl;
    few = omega arith;
    below = subst (λ l. AreBelow (length ps) l) (reverse-reverse stack) (below_reverse (length ps) (reverse stack) below);
    sound = λ q h. listed q (⊎_elim (λ never. absurd never) (λ z. subst (λ l. HasPlace q l) (sym is) (has_reverse q stack z)) h);
    start = λ q h. inr (from_reverse q stack (subst (λ l. HasPlace q l) is h));
    spent = λ q p h w. absurd h;
    wants = λ q. ((λ h. absurd h), (λ h. absurd h.1));
    lowest = λ q h. absurd h;
  })

  -- how much is left to do
  abbrev pub left : Members → List ℕ → ℕ
  left entered stack = 3 * (length ps - length entered.items) + length stack

  popped_has : (old popped : List ℕ) (q p : ℕ) → old ≡ popped ++ q ∷ [] → HasPlace p old → HasPlace p popped ⊎ (q ≡ p)
  popped_has old popped q p e h =
      ⊎_elim (λ x. inl x) (λ y. inr (⊎_elim (λ x. x) (λ never. absurd never) y)) (has_parts p popped (q ∷ []) (subst (λ l. HasPlace p l) e h))

  has_popped : (old popped : List ℕ) (q p : ℕ) → old ≡ popped ++ q ∷ [] → HasPlace p popped ⊎ (q ≡ p) → HasPlace p old
  has_popped old popped q p e h =
      subst (λ l. HasPlace p l) (sym e) (⊎_elim (λ x. has_left p popped (q ∷ []) x) (λ y. has_right p popped (q ∷ []) (inl y)) h)

  pub top_below : (old popped : List ℕ) (q : ℕ) → old ≡ popped ++ q ∷ [] → AreBelow (length ps) old → q < length ps
  top_below old popped q e h = h q (has_popped old popped q q e (inr refl))

  -- a place that was entered is passed by
  pub passes_by : (entered entered2 wanted : Members) (old popped : List ℕ) (least : Option ℕ) (q : ℕ) → old ≡ popped ++ q ∷ [] → HasPlace q entered.items →
      entered2 ≡ entered → IsCollecting entered wanted old least → IsCollecting entered2 wanted popped least × (left entered2 popped < left entered old)
  passes_by entered entered2 wanted old popped least q e has same v =
      let lengths : length old ≡ length popped + 1 = ap (λ x. length x) e ∙ length-append popped (q ∷ []) in
      let count : length entered2.items ≡ length entered.items = ap (λ (m : Members). length m.items) same in (
        rw same (record {
          entered_size = v.entered_size;
          wanted_size = v.wanted_size;
          few = v.few;
          below = λ k i. v.below k (has_popped old popped q k e (inl i));
          sound = λ k h. v.sound k (⊎_elim (λ x. inl x) (λ y. inr (has_popped old popped q k e (inl y))) h);
          start = λ k h. narrowed k (v.start k h);
          spent = λ k p h w. narrowed p (v.spent k p h w);
          wants = v.wants;
          lowest = v.lowest;
        }),
        omega (arith, lengths, count),
      )
    where
      narrowed : (k : ℕ) → HasPlace k entered.items ⊎ HasPlace k old → HasPlace k entered.items ⊎ HasPlace k popped
      narrowed k h =
          ⊎_elim (λ x. inl x) (λ y. ⊎_elim (λ z. inr z) (λ f. inl (subst (λ x. HasPlace x entered.items) f has)) (popped_has old popped q k e y)) h

  -- what is least with one more
  least_grows : (entered entered2 : List ℕ) (q : ℕ) (least : Option ℕ) → entered2 ≡ entered ++ q ∷ [] →
      IsLeastMatch (places_of ps) (λ k. HasPlace k entered) least →
      IsLeastMatch (places_of ps) (λ k. HasPlace k entered2) (least_with (is_match (places_of ps) q) least q)
  least_grows entered entered2 q least grown h =
      ⊎_elim
      (λ t. rw t (at_match least t h))
      (λ f. rw f (elsewhere least f h))
      (cases_Bool (is_match (places_of ps) q))
    where
      split : (k : ℕ) → HasPlace k entered2 → HasPlace k entered ⊎ (q ≡ k)
      split k i = ⊎_elim (λ x. inl x) (λ y. inr (⊎_elim (λ x. x) (λ never. absurd never) y)) (has_parts k entered (q ∷ []) (subst (λ l. HasPlace k l) grown i))

      kept : (k : ℕ) → HasPlace k entered → HasPlace k entered2
      kept k i = subst (λ l. HasPlace k l) (sym grown) (has_left k entered (q ∷ []) i)

      here : HasPlace q entered2
      here = subst (λ l. HasPlace q l) (sym grown) (has_right q entered (q ∷ []) (inl refl))

      elsewhere : (o : Option ℕ) → is_match (places_of ps) q ≡ false → IsLeastMatch (places_of ps) (λ k. HasPlace k entered) o →
          IsLeastMatch (places_of ps) (λ k. HasPlace k entered2) o
      elsewhere None f m = λ k i t. ⊎_elim (λ x. m k x t) (λ e. true≢false (sym t ∙ ap (λ x. is_match (places_of ps) x) (sym e) ∙ f)) (split k i)
      elsewhere (Some p) f m = (
        m.0,
        kept p m.1,
        λ k i t. ⊎_elim (λ x. m.2 k x t) (λ e. absurd (true≢false (sym t ∙ ap (λ x. is_match (places_of ps) x) (sym e) ∙ f))) (split k i),
      )

      at_match : (o : Option ℕ) → is_match (places_of ps) q ≡ true → IsLeastMatch (places_of ps) (λ k. HasPlace k entered) o →
          IsLeastMatch (places_of ps) (λ k. HasPlace k entered2) (least_with true o q)
      at_match None t m = (t, here, λ k i s. ⊎_elim (λ x. absurd (m k x s)) (λ e. omega (arith, e)) (split k i))
      at_match (Some p) t m =
          ⊎_elim
          (λ lt. let e : p ≡ min p q = omega (arith, lt) in
          subst (λ x. IsTrue (is_match (places_of ps) x) × HasPlace x entered2 × ((k : ℕ) → HasPlace k entered2 → IsTrue (is_match (places_of ps) k) → x ≤ k)) e
          (m.0, kept p m.1, λ k i s. ⊎_elim (λ x. m.2 k x s) (λ f. omega (arith, f, lt)) (split k i)))
          (λ ge. let e : q ≡ min p q = omega (arith, ge) in
          subst (λ x. IsTrue (is_match (places_of ps) x) × HasPlace x entered2 × ((k : ℕ) → HasPlace k entered2 → IsTrue (is_match (places_of ps) k) → x ≤ k)) e
          (t, here, λ k i s. ⊎_elim (λ x. let a = m.2 k x s in omega (arith, a, ge)) (λ f. omega (arith, f)) (split k i)))
          (cases_lt p q)

  -- from another place the search goes on
  pub enters : IsClosed (places_of ps) → (entered entered2 wanted wanted2 : Members) (old popped stack2 : List ℕ) (least : Option ℕ) (q : ℕ) →
      old ≡ popped ++ q ∷ [] → entered2 ≡ record entered { items = entered.items ++ q ∷ [] } → length entered2.items ≤ entered2.capacity →
      stack2 ≡ popped ++ reverse (stay_places (out q)) → wanted2 ≡ record wanted { items = add_all wanted.items (read_places (out q)) } →
      IsCollecting entered wanted old least →
      IsCollecting entered2 wanted2 stack2 (least_with (is_match (places_of ps) q) least q) × (left entered2 stack2 < left entered old)
  enters closed entered entered2 wanted wanted2 old popped stack2 least q e grown few pushed more v =
      let size : entered2.capacity ≡ length ps = ap (λ (m : Members). m.capacity) grown ∙ v.entered_size in
      let count : length entered2.items ≡ length entered.items + 1 = ap (λ x. length x) items ∙ length-append entered.items (q ∷ []) in
      let lengths : length old ≡ length popped + 1 = ap (λ x. length x) e ∙ length-append popped (q ∷ []) in
      let longer : length stack2 ≡ length popped + length (stay_places (out q)) =
      ap (λ x. length x) pushed ∙ length-append popped _ ∙ ap (λ x. length popped + x) (length-reverse (stay_places (out q))) in
      let most : length (stay_places (out q)) ≤ 2 = two ps test after q in
      let fits : length entered2.items ≤ length ps = subst (λ x. length entered2.items ≤ x) size few in
      let stay : AreBelow (length ps) (stay_places (out q)) =
      subst (λ n. AreBelow n (stay_places (out q))) (length-map ps place_of) (out_below (places_of ps) closed test after q) in (
        record {
          entered_size = size;
          wanted_size = ap (λ (m : Members). m.capacity) more ∙ v.wanted_size;
          few = fits;
          below = λ k i. ⊎_elim (λ x. v.below k (has_popped old popped q k e (inl x))) (λ y. stay k y) (in_stack k i);
          sound = λ k h. ⊎_elim
              (λ x. ⊎_elim (λ a. v.sound k (inl a)) (λ b. subst (λ n. ComesBy out list n) b comes) (split k x))
              (λ y. ⊎_elim (λ a. v.sound k (inr (has_popped old popped q k e (inl a))))
              (λ b. follows k q comes (stay_way k (out q) b)) (in_stack k y)) h;
          start = λ k h. widened k (v.start k h);
          spent = λ k p h w. ⊎_elim (λ x. widened p (v.spent k p x w))
              (λ b. inr (to_stack p (inr (way_stay p (out q) (subst (λ n. HasWay (stays p) (out n)) (sym b) w))))) (split k h);
          wants = λ k. let a = all_added_are wanted.items (read_places (out q)) k in (
            (λ h. ⊎_elim
                (λ x. let r = (v.wants k).0 x in (r.0, kept r.0 r.1, r.2))
                (λ y. (q, here, read_way k (out q) (each_way test after (place_at (places_of ps) q) (by_bytes ps q)) y))
                (a.0 (subst (λ (m : Members). HasPlace k m.items) more h))),
            (λ h. subst (λ (m : Members). HasPlace k m.items) (sym more) (a.1
                (⊎_elim (λ x. inl ((v.wants k).1 (h.0, x, h.2))) (λ b. inr (way_read 1 k (out q) (subst (λ n. HasWay (reads 1 k) (out n)) (sym b) h.2))) (split h.0 h.1)))),
          );
          lowest = least_grows entered.items entered2.items q least items v.lowest;
        },
        omega (arith, count, lengths, longer, most, fits),
      )
    where
      items : entered2.items ≡ entered.items ++ q ∷ []
      items = ap (λ (m : Members). m.items) grown

      comes : ComesBy out list q
      comes = v.sound q (inr (has_popped old popped q q e (inr refl)))

      split : (k : ℕ) → HasPlace k entered2.items → HasPlace k entered.items ⊎ (q ≡ k)
      split k i =
          ⊎_elim (λ x. inl x) (λ y. inr (⊎_elim (λ x. x) (λ never. absurd never) y)) (has_parts k entered.items (q ∷ []) (subst (λ l. HasPlace k l) items i))

      kept : (k : ℕ) → HasPlace k entered.items → HasPlace k entered2.items
      kept k i = subst (λ l. HasPlace k l) (sym items) (has_left k entered.items (q ∷ []) i)

      here : HasPlace q entered2.items
      here = subst (λ l. HasPlace q l) (sym items) (has_right q entered.items (q ∷ []) (inl refl))

      in_stack : (k : ℕ) → HasPlace k stack2 → HasPlace k popped ⊎ HasPlace k (stay_places (out q))
      in_stack k i = ⊎_elim (λ x. inl x) (λ y. inr (from_reverse k (stay_places (out q)) y)) (has_parts k popped _ (subst (λ l. HasPlace k l) pushed i))

      to_stack : (k : ℕ) → HasPlace k popped ⊎ HasPlace k (stay_places (out q)) → HasPlace k stack2
      to_stack k h =
          subst (λ l. HasPlace k l) (sym pushed) (⊎_elim (λ x. has_left k popped _ x) (λ y. has_right k popped _ (has_reverse k (stay_places (out q)) y)) h)

      widened : (k : ℕ) → HasPlace k entered.items ⊎ HasPlace k old → HasPlace k entered2.items ⊎ HasPlace k stack2
      widened k h =
          ⊎_elim (λ x. inl (kept k x))
          (λ y. ⊎_elim (λ z. inr (to_stack k (inl z))) (λ b. inl (subst (λ n. HasPlace n entered2.items) b here)) (popped_has old popped q k e y)) h

  -- the places that were entered are those to which ways lead
  pub entered_are : (entered wanted : Members) (stack : List ℕ) (least : Option ℕ) → stack ≡ [] → IsCollecting entered wanted stack least →
      (q : ℕ) → HasPlace q entered.items ↔ ComesBy out list q
  entered_are entered wanted stack least e v q = ((λ h. v.sound q (inl h)), (λ h. is_in h))
    where
      none_left : (k : ℕ) → HasPlace k entered.items ⊎ HasPlace k stack → HasPlace k entered.items
      none_left k h = ⊎_elim (λ x. x) (λ y. absurd (subst (λ l. HasPlace k l) e y)) h

      is_in : {q : ℕ} → ComesBy out list q → HasPlace q entered.items
      is_in (listed q h) = none_left q (v.start q h)
      is_in (follows q p c w) = none_left q (v.spent p q (is_in c) w)

  pub all_entered : (entered wanted : Members) (stack : List ℕ) (least : Option ℕ) → stack ≡ [] → IsCollecting entered wanted stack least →
      IsGathered out (places_of ps) list wanted.items least
  all_entered entered wanted stack least e v = record {
    listed = λ q. (
      (λ h. let r = (v.wants q).0 h in (r.0, (entered_here r.0).0 r.1, r.2)),
      (λ h. (v.wants q).1 (h.0, (entered_here h.0).1 h.1, h.2)),
    );
    least = by_least least v.lowest;
  }
    where
      entered_here : (q : ℕ) → HasPlace q entered.items ↔ ComesBy out list q
      entered_here = entered_are entered wanted stack least e v

      by_least : (o : Option ℕ) → IsLeastMatch (places_of ps) (λ q. HasPlace q entered.items) o → IsLeastMatch (places_of ps) (ComesBy out list) o
      by_least None m = λ q h t. m q ((entered_here q).1 h) t
      by_least (Some q) m = (m.0, (entered_here q).0 m.1, λ p h t. m.2 p ((entered_here p).1 h) t)

-- what was gathered is the step
pub collected : (places : List Place) (root : ℕ) (s : State) (sides : Sides) (t : State) (got : List ℕ) →
    IsGathered (out_over places s.beside sides) places s.list got t.matched → IsRising t.list →
    ((q : ℕ) → HasPlace q t.list ↔ HasPlace q (add_all got (root_if s.goes_on root))) → t.goes_on ≡ s.goes_on → t.beside ≡ sides.far →
    IsNextOfAllOver places root s sides t
collected places root s sides t got r rising same goes_on beside = record {
  list = λ q. let a = all_added_are got (root_if s.goes_on root) q in (
    (λ h. ⊎_elim (λ x. inr ((r.listed q).0 x)) (λ y. let z = from_root s.goes_on q y in inl (goes_on ∙ z.0, z.1)) (a.0 ((same q).0 h))),
    (λ h. (same q).1 (a.1 (⊎_elim (λ x. inr (to_root s.goes_on q (sym goes_on ∙ x.0) x.1)) (λ y. inl ((r.listed q).1 y)) h))),
  );
  rising = rising;
  matched = r.least;
  goes_on = goes_on;
  beside = beside;
}
  where
    from_root : (b : Bool) (q : ℕ) → HasPlace q (root_if b root) → (b ≡ true) × (q ≡ root)
    from_root true q h = (refl, ⊎_elim (λ e. sym e) (λ never. absurd never) h)
    from_root false q h = absurd h

    to_root : (b : Bool) (q : ℕ) → b ≡ true → q ≡ root → HasPlace q (root_if b root)
    to_root true q e f = inl (sym f)
    to_root false q e f = absurd (true≢false (sym e))
