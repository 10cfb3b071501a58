-- The loop of a step backwards.
use Rattle.std.proofs.Common.{◌≡◌, ℕ, zero, suc, ◌+◌, ◌<◌, ◌≤◌, ◌↔◌, List, [], ◌∷◌, map, length, Option, Some, None, Bool, true, false, nat_eq, if◌then◌else◌, get_or, inl, inr, ⊎_elim, sym, subst, ap, ◌∙◌, refl, arith}
use Rattle.std.specs.List.{list_any}
use Rattle.std.proofs.lemmas.Bool.{cases_eq, cases_Bool}
use Rattle.std.proofs.lemmas.List.{length-append, get_or_append_left}
use Rattle.rc_program.specs.Program.{Place, Way, stays}
use Rattle.rc_determinize.specs.declared.sides.Seen.{Seen}
use Rattle.rc_determinize.specs.declared.backward.Over.{Over}
use Rattle.rc_determinize.specs.declared.backward.Source.{Source}
use Rattle.rc_determinize.specs.declared.backward.Reversed.{Reversed}
use Rattle.rc_determinize.specs.Sparse.{Members}
use Rattle.rc_determinize.specs.Steps.{HasPlace, AreBelow, IsRising, HasWay}
use Rattle.rc_determinize.specs.declared.sides.Sides.{Sides}
use Rattle.rc_determinize.specs.States.{State}
use Rattle.rc_determinize.specs.Backward.{LeadsBy, listed, leads, still_out, LeadsOver, ReadsTo, IsFirstRoot, IsPriorOver}
use Rattle.rc_determinize.specs.Machine.{add_one, add_all}
use Rattle.rc_determinize.specs.Reversed.{passes, reads_over, sources, into_at, IsReversed, AreInside}
use Rattle.rc_determinize.proofs.SparseLemmas.{has_at, index_of}
use Rattle.rc_determinize.proofs.GatherLemmas.{all_added_are}

pub source_in : (es : List Source) (i : ℕ) (d : Source) → i < length es → HasPlace (get_or es i d).from (map (λ (e : Source). e.from) es)
source_in [] i d h = absurd (omega (arith, h))
source_in (e ∷ es) zero d h = inl refl
source_in (e ∷ es) (suc i) d h = inr (source_in es i d (omega (arith, h)))

pub first_at : (Holds : ℕ → Type 0) (roots : List ℕ) (i : ℕ) → i < length roots → ((k : ℕ) → k < i → ¬ Holds (get_or roots k 0)) →
    Holds (get_or roots i 0) → IsFirstRoot Holds roots (Some i)
first_at Holds [] i h before here = absurd (omega (arith, h))
first_at Holds (r ∷ rs) zero h before here = here
first_at Holds (r ∷ rs) (suc i) h before here =
    (before 0 (omega arith), first_at Holds rs i (omega (arith, h)) (λ k l. before (suc k) (omega (arith, l))) here)

pub first_none : (Holds : ℕ → Type 0) (roots : List ℕ) → ((k : ℕ) → k < length roots → ¬ Holds (get_or roots k 0)) → IsFirstRoot Holds roots None
first_none Holds [] none = tt
first_none Holds (r ∷ rs) none = (none 0 (omega arith), first_none Holds rs (λ k l. none (suc k) (omega (arith, l))))

pub same_root : (A B : ℕ → Type 0) → ((q : ℕ) → A q ↔ B q) → (roots : List ℕ) (o : Option ℕ) → IsFirstRoot A roots o → IsFirstRoot B roots o
same_root A B same [] None h = h
same_root A B same [] (Some k) h = h
same_root A B same (root ∷ roots) None h = ((λ b. h.0 ((same root).1 b)), same_root A B same roots None h.1)
same_root A B same (root ∷ roots) (Some zero) h = (same root).0 h
same_root A B same (root ∷ roots) (Some (suc k)) h = ((λ b. h.0 ((same root).1 b)), same_root A B same roots (Some k) h.1)

-- a list that grows keeps what it has at each index

one_keeps : (list : List ℕ) (q k : ℕ) → k < length list → (k < length (add_one list q)) × (get_or (add_one list q) k 0 ≡ get_or list k 0)
one_keeps list q k h =
    ⊎_elim (λ t. rw t (h, refl))
    (λ f. let l = length-append list (q ∷ []) in rw f ((omega (arith, h, l)), get_or_append_left list (q ∷ []) 0 k h))
    (cases_Bool (list_any (λ x. nat_eq x q) list))

pub all_keep : (list qs : List ℕ) (k : ℕ) → k < length list → (k < length (add_all list qs)) × (get_or (add_all list qs) k 0 ≡ get_or list k 0)
all_keep list [] k h = (h, refl)
all_keep list (q ∷ qs) k h =
    let a = one_keeps list q k h in let b = all_keep (add_one list q) qs k a.0 in (b.0, b.1 ∙ a.1)

nothing_read : (es : List Source) → sources (reads_over None) es ≡ []
nothing_read [] = refl
nothing_read (e ∷ es) = nothing_read es

below_if : (n from : ℕ) (v : Bool) (rest : List ℕ) → from < n → AreBelow n rest → AreBelow n (if v then from ∷ rest else rest)
below_if n from true rest lt h q i = ⊎_elim (λ e. subst (λ k. k < n) e lt) (h q) i
below_if n from false rest lt h q i = h q i

sources_below : (n : ℕ) (holds : Over → Bool) (es : List Source) → AreBelow n (map (λ (e : Source). e.from) es) → AreBelow n (sources holds es)
sources_below n holds [] h = h
sources_below n holds (e ∷ es) h =
    below_if n e.from (holds e.over) (sources holds es) (h e.from (inl refl)) (sources_below n holds es (λ q i. h q (inr i)))

module _ (places : List Place) (behind ahead : Seen) (before : Option ℕ) (list : List ℕ) where
  abbrev out : ℕ → List Way
  out = still_out places behind ahead

  -- Between two turns of the loop.
  pub record IsGoingBack (entered got : Members) (i : ℕ) : Type 0 where
    pub kept : (q : ℕ) → HasPlace q list → HasPlace q entered.items
    pub sound : (q : ℕ) → HasPlace q entered.items → LeadsBy out list q
    pub spent : (k : ℕ) → k < i → (k < length entered.items) × ((q : ℕ) → HasWay (stays (get_or entered.items k 0)) (out q) → HasPlace q entered.items)
    pub wants : (q : ℕ) → HasPlace q got.items ↔ ((b : ℕ) × (before ≡ Some b) × (k : ℕ) × (k < i) × ReadsTo places b q (get_or entered.items k 0))

  begins_back : (entered got : Members) → list ≡ entered.items → got.items ≡ [] → IsGoingBack entered got 0
  begins_back entered got is none = record {
    kept = λ q h. subst (λ l. HasPlace q l) is h;
    sound = λ q h. listed q (subst (λ l. HasPlace q l) (sym is) h);
    spent = λ k h. absurd (omega (arith, h));
    wants = λ q. ((λ h. absurd (subst (λ l. HasPlace q l) none h)), (λ h. let l = h.3 in absurd (omega (arith, l))));
  }

  turns_back : (r : Reversed) → IsReversed places r → (entered entered2 got got2 : Members) (i : ℕ) → i < length entered.items →
      entered2 ≡ record entered { items = add_all entered.items (sources (passes behind ahead) (into_at r (get_or entered.items i 0))) } →
      got2 ≡ record got { items = add_all got.items (sources (reads_over before) (into_at r (get_or entered.items i 0))) } →
      IsGoingBack entered got i → IsGoingBack entered2 got2 (i + 1)
  turns_back r rev entered entered2 got got2 i lt grown more v = rw (grown, more) (record {
    kept = λ q h. widened q (v.kept q h);
    sound = λ q h. ⊎_elim (v.sound q) (λ y. leads q p ((rev.still behind ahead q p).0 y) (v.sound p (has_at entered.items i lt))) ((all_added_are entered.items from q).0 h);
    spent = λ k h. ⊎_elim
        (λ same. let a = all_keep entered.items from i lt in
        subst (λ x. (x < length (add_all entered.items from)) × ((q : ℕ) → HasWay (stays (get_or (add_all entered.items from) x 0)) (out q) → HasPlace q (add_all entered.items from))) same
        (a.0, λ q w. (all_added_are entered.items from q).1 (inr ((rev.still behind ahead q p).1 (subst (λ x. HasWay (stays x) (out q)) a.1 w)))))
        (λ ne. let s = v.spent k (omega (arith, h, ne)) in let a = all_keep entered.items from k s.0 in
        (a.0, λ q w. widened q (s.1 q (subst (λ x. HasWay (stays x) (out q)) a.1 w))))
        (cases_eq i k);
    wants = λ q. (
      (λ h. ⊎_elim
          (λ x. let w = (v.wants q).0 x in let s = v.spent w.2 w.3 in let l = w.3 in
          (w.0, w.1, w.2, omega (arith, l), subst (λ x. ReadsTo places w.0 q x) (sym (all_keep entered.items from w.2 s.0).1) w.4))
          (λ y. by_byte q before refl y)
          ((all_added_are got.items (sources (reads_over before) (into_at r p)) q).0 h)),
      (λ h. (all_added_are got.items (sources (reads_over before) (into_at r p)) q).1 (⊎_elim
          (λ same. inr (subst (λ o. HasPlace q (sources (reads_over o) (into_at r p))) (sym h.1)
          ((rev.reading h.0 q p).1 (subst (λ x. ReadsTo places h.0 q x) (all_keep entered.items from i lt).1
          (subst (λ x. ReadsTo places h.0 q (get_or (add_all entered.items from) x 0)) (sym same) h.4)))))
          (λ ne. let l = h.3 in let s = v.spent h.2 (omega (arith, l, ne)) in
          inl ((v.wants q).1 (h.0, h.1, h.2, omega (arith, l, ne), subst (λ x. ReadsTo places h.0 q x) (all_keep entered.items from h.2 s.0).1 h.4)))
          (cases_eq i h.2))),
    );
  })
    where
      p : ℕ
      p = get_or entered.items i 0

      from : List ℕ
      from = sources (passes behind ahead) (into_at r p)

      widened : (q : ℕ) → HasPlace q entered.items → HasPlace q (add_all entered.items from)
      widened q h = (all_added_are entered.items from q).1 (inl h)

      by_byte : (q : ℕ) (o : Option ℕ) → before ≡ o → HasPlace q (sources (reads_over before) (into_at r p)) →
          (b : ℕ) × (before ≡ Some b) × (k : ℕ) × (k < i + 1) × ReadsTo places b q (get_or (add_all entered.items from) k 0)
      by_byte q None e y = absurd (subst (λ l. HasPlace q l) (nothing_read (into_at r p)) (subst (λ x. HasPlace q (sources (reads_over x) (into_at r p))) e y))
      by_byte q (Some b) e y = (
        b,
        e,
        i,
        omega arith,
        subst (λ x. ReadsTo places b q x) (sym (all_keep entered.items from i lt).1)
            ((rev.reading b q p).0 (subst (λ x. HasPlace q (sources (reads_over x) (into_at r p))) e y)),
      )

  pub all_back : (entered got : Members) (i : ℕ) → length entered.items ≤ i → IsGoingBack entered got i →
      (q : ℕ) → HasPlace q entered.items ↔ LeadsBy out list q
  all_back entered got i past v q = (v.sound q, λ l. is_in l)
    where
      is_in : {k : ℕ} → LeadsBy out list k → HasPlace k entered.items
      is_in (listed k h) = v.kept k h
      is_in (leads k p w l) =
          let x = index_of entered.items p (is_in l) in let lt = x.1 in
          (v.spent x.0 (omega (arith, lt, past))).1 k (subst (λ n. HasWay (stays n) (out k)) (sym x.2) w)

  pub all_got : (entered got : Members) (i : ℕ) → length entered.items ≤ i → IsGoingBack entered got i →
      (q : ℕ) → HasPlace q got.items ↔ ((b : ℕ) × (before ≡ Some b) × (p : ℕ) × ReadsTo places b q p × HasPlace p entered.items)
  all_got entered got i past v q = (
    (λ h. let w = (v.wants q).0 h in (w.0, w.1, get_or entered.items w.2 0, w.4, has_at entered.items w.2 (v.spent w.2 w.3).0)),
    (λ h. let x = index_of entered.items h.2 h.4 in let lt = x.1 in
        (v.wants q).1 (h.0, h.1, x.0, omega (arith, lt, past), subst (λ n. ReadsTo places h.0 q n) (sym x.2) h.3)),
  )

-- Between two turns of the loop, whatever program the edges are of.
pub record IsTurn (r : Reversed) (behind ahead : Seen) (before : Option ℕ) (list : List ℕ) (entered got : Members) (i : ℕ) : Type 0 where
  pub entered_size : entered.capacity ≡ length r.into.items
  pub got_size : got.capacity ≡ length r.into.items
  pub below : AreBelow (length r.into.items) entered.items
  pub means : (places : List Place) → IsReversed places r → IsGoingBack places behind ahead before list entered got i

pub sets_out : (r : Reversed) (behind ahead : Seen) (before : Option ℕ) (list : List ℕ) (entered got : Members) → list ≡ entered.items →
    entered.capacity ≡ length r.into.items → AreBelow (length r.into.items) entered.items →
    got ≡ record { capacity = length r.into.items; items = [] } → IsTurn r behind ahead before list entered got 0
sets_out r behind ahead before list entered got is size below none = record {
  entered_size = size;
  got_size = ap (λ (m : Members). m.capacity) none;
  below = below;
  means = λ places rev. begins_back places behind ahead before list entered got is (ap (λ (m : Members). m.items) none);
}

pub here_below : (r : Reversed) (behind ahead : Seen) (before : Option ℕ) (list : List ℕ) (entered got : Members) (i : ℕ) → i < length entered.items →
    IsTurn r behind ahead before list entered got i → get_or entered.items i 0 < length r.into.items
here_below r behind ahead before list entered got i lt v = v.below (get_or entered.items i 0) (has_at entered.items i lt)

pub goes_back : (r : Reversed) (behind ahead : Seen) (before : Option ℕ) (list : List ℕ) → AreInside r → (entered entered2 got got2 : Members) (i : ℕ) →
    i < length entered.items →
    entered2 ≡ record entered { items = add_all entered.items (sources (passes behind ahead) (into_at r (get_or entered.items i 0))) } →
    got2 ≡ record got { items = add_all got.items (sources (reads_over before) (into_at r (get_or entered.items i 0))) } →
    IsTurn r behind ahead before list entered got i → IsTurn r behind ahead before list entered2 got2 (i + 1)
goes_back r behind ahead before list inside entered entered2 got got2 i lt grown more v =
    let p = get_or entered.items i 0 in
    let from = sources (passes behind ahead) (into_at r p) in
    record {
      entered_size = ap (λ (m : Members). m.capacity) grown ∙ v.entered_size;
      got_size = ap (λ (m : Members). m.capacity) more ∙ v.got_size;
      below = λ q h. ⊎_elim (v.below q) (λ y. sources_below (length r.into.items) (passes behind ahead) (into_at r p) (inside p) q y)
          ((all_added_are entered.items from q).0 (subst (λ (m : Members). HasPlace q m.items) grown h));
      means = λ places rev. turns_back places behind ahead before list r rev entered entered2 got got2 i lt grown more (v.means places rev);
    }

leads_same : (out : ℕ → List Way) (a b : List ℕ) → ((q : ℕ) → HasPlace q a → HasPlace q b) → {q : ℕ} → LeadsBy out a q → LeadsBy out b q
leads_same out a b same (listed q h) = listed q (same q h)
leads_same out a b same (leads q p w l) = leads q p w (leads_same out a b same l)

-- what was gone back is the step
pub is_prior : (places : List Place) (roots : List ℕ) (s : State) (sides : Sides) (t : State) (begun entered got : List ℕ) →
    ((q : ℕ) → HasPlace q begun ↔ HasPlace q s.list) → ((q : ℕ) → HasPlace q entered ↔ LeadsBy (still_out places sides.near s.beside) begun q) →
    ((q : ℕ) → HasPlace q got ↔ ((b : ℕ) × (sides.byte ≡ Some b) × (p : ℕ) × ReadsTo places b q p × HasPlace p entered)) →
    ((q : ℕ) → HasPlace q t.list ↔ HasPlace q got) → IsRising t.list → IsFirstRoot (λ q. HasPlace q entered) roots t.matched →
    t.goes_on ≡ false → t.beside ≡ sides.far → IsPriorOver places roots s sides t
is_prior places roots s sides t begun entered got same back over list rising matched goes_on beside = record {
  list = λ q. (
    (λ h. let w = (over q).0 ((list q).0 h) in (w.0, w.1, w.2, w.3, (here w.2).0 w.4)),
    (λ h. (list q).1 ((over q).1 (h.0, h.1, h.2, h.3, (here h.2).1 h.4))),
  );
  rising = rising;
  matched = same_root (λ q. HasPlace q entered) (LeadsOver places s sides.near) here roots t.matched matched;
  goes_on = goes_on;
  beside = beside;
}
  where
    here : (q : ℕ) → HasPlace q entered ↔ LeadsOver places s sides.near q
    here q = (
      (λ h. leads_same (still_out places sides.near s.beside) begun s.list (λ p z. (same p).0 z) ((back q).0 h)),
      (λ l. (back q).1 (leads_same (still_out places sides.near s.beside) s.list begun (λ p z. (same p).1 z) l)),
    )

-- the set of a list
pub begun_are : (empty full : Members) (list : List ℕ) → empty.items ≡ [] → full ≡ record empty { items = add_all empty.items list } →
    (q : ℕ) → HasPlace q full.items ↔ HasPlace q list
begun_are empty full list none is q =
    let a = all_added_are [] list q in
    let e : full.items ≡ add_all [] list = ap (λ (m : Members). m.items) is ∙ ap (λ l. add_all l list) none in
    ((λ h. ⊎_elim (λ never. absurd never) (λ x. x) (a.0 (subst (λ l. HasPlace q l) e h))), (λ h. subst (λ l. HasPlace q l) (sym e) (a.1 (inr h))))
