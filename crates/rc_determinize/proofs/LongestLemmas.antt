-- From state to state where the longest match of the least start is sought.
use Rattle.std.proofs.Common.{◌≡◌, ◌≢◌, ℕ, ◌+◌, ◌<◌, ◌≤◌, ◌⊎◌, List, [], ◌∷◌, ◌++◌, length, Option, Some, None, inl, inr, ⊎_elim, sym, subst, ap, ap₂, ◌∙◌, refl, arith, append_assoc}
use Rattle.std.proofs.lemmas.Bool.{cases_lt}
use Rattle.std.proofs.lemmas.List.{append-nil, map-append}
use Rattle.rc_walks.specs.Walks.{Pair, IsIn, IsFirstWalk, HasNoWalk}
use Rattle.rc_program.specs.Answer.{last_of}
use Rattle.rc_program.proofs.LongestLemmas.{longest_of, first_of_longest, none_longer, none_of_all, none_to, ends_on}
use Rattle.rc_determinize.specs.Gives.{Gives, starts}
use Rattle.rc_determinize.specs.Run.{IsGoal}
use Rattle.rc_determinize.specs.Steps.{AreBelow, Adds, at}
use Rattle.rc_determinize.specs.Longest.{flat}
use Rattle.rc_determinize.specs.LongestLaws.{Held, begun, held, AreHeldBelow, IsQuiet, CarriesTo, AreCarried, IsKnown, ReachesLongest, FirstReaches, GivesLongest}
use Rattle.rc_determinize.proofs.PartsLemmas.{first_parts, no_walk_left, no_walk_right, no_walk_both}
use Rattle.rc_determinize.proofs.PassLemmas.{no_ways}
use Rattle.rc_determinize.proofs.PositionLemmas.{once_gives}
use Rattle.rc_determinize.proofs.RunLemmas.{rises}
use Rattle.rc_determinize.proofs.AnswerLemmas.{last_at}
use Rattle.rc_determinize.proofs.MachineLemmas.{has_parts}
use Rattle.rc_determinize.proofs.CloseLemmas.{carried_behind}

pub begun_append : (xs ys : List Held) → begun (xs ++ ys) ≡ begun xs ++ begun ys
begun_append xs ys = map-append (λ (h : Held). h.0) xs ys

pub held_append : (xs ys : List Held) → held (xs ++ ys) ≡ held xs ++ held ys
held_append xs ys = map-append (λ (h : Held). h.1) xs ys

pub flat_append : (xs ys : List (List ℕ)) → flat (xs ++ ys) ≡ flat xs ++ flat ys
flat_append [] ys = refl
flat_append (x ∷ xs) ys = ap (λ z. x ++ z) (flat_append xs ys) ∙ sym (append_assoc x (flat xs) (flat ys))

pub flat_below : (n : ℕ) (hs : List Held) → AreHeldBelow n hs → AreBelow n (flat (held hs))
flat_below n [] b k h = absurd h
flat_below n (h ∷ hs) b k i = ⊎_elim (b.0 k) (flat_below n hs b.1 k) (has_parts k h.1 (flat (held hs)) i)

pub below_append : (n : ℕ) (hs : List Held) (h : Held) → AreHeldBelow n hs → AreBelow n h.1 → AreHeldBelow n (hs ++ h ∷ [])
below_append n [] h a b = (b, tt)
below_append n (x ∷ hs) h a b = (a.0, below_append n hs h a.1 b)

-- a list that ends with the one pair begins within what stands before the other
cut : (xs : List Pair) (y : Pair) (ys before : List Pair) (n : Pair) → xs ++ y ∷ ys ≡ before ++ n ∷ [] → (zs : List Pair) × (before ≡ xs ++ zs)
cut [] y ys before n e = (before, refl)
cut (x ∷ xs) y ys [] n e = absurd (longer xs y ys (let l : length (x ∷ (xs ++ y ∷ ys)) ≡ 1 = ap (λ z. length z) e in omega (arith, l)))
  where
    longer : (xs : List Pair) (y : Pair) (ys : List Pair) → length (xs ++ y ∷ ys) ≡ 0 → ⊥
    longer [] y ys e = omega (arith, e)
    longer (x ∷ xs) y ys e = omega (arith, e)
cut (x ∷ xs) y ys (b ∷ before) n e =
    let r = cut xs y ys before n (ap tail e) in (r.0, ap₂ (λ z zs. z ∷ zs) (sym (ap head e)) r.1)
  where
    tail : List Pair → List Pair
    tail [] = []
    tail (z ∷ zs) = zs

    head : List Pair → Pair
    head [] = x
    head (z ∷ zs) = z

module _ (ways : Pair → List Pair) (Ends : Pair → Type 0) (decide : (n m : Pair) → (n ≡ m) ⊎ (n ≢ m))
    (last : (n m : Pair) → Ends n → ¬ IsIn m (ways n)) (near : (n m : Pair) → IsIn m (ways n) → (m.1 ≡ n.1) ⊎ (m.1 ≡ n.1 + 1)) where
  rises_here : (n m : Pair) → IsIn m (ways n) → n.1 ≤ m.1
  rises_here = rises ways Ends decide last near

  last_to : (e : ℕ) (n m : Pair) → IsGoal Ends e n → ¬ IsIn m (ways n)
  last_to e n m h = last n m h.0

  -- all starts that count, together
  whole : (i : ℕ) (hs : List Held) (origin : List Pair) (places : List ℕ) → ((e : ℕ) → i ≤ e → CarriesTo ways Ends e origin (at i places)) →
      AreCarried ways Ends i origin places hs → (e : ℕ) → i ≤ e → CarriesTo ways Ends e (origin ++ begun hs) (at i (places ++ flat (held hs)))
  whole i [] origin places base c e le r g =
      subst (λ z. Gives ways (IsGoal Ends e) [] z r) (sym (append-nil origin))
      (base e le r (subst (λ z. Gives ways (IsGoal Ends e) [] (at i z) r) (append-nil places) g))
  whole i (h ∷ hs) origin places base c e le r g =
      subst (λ z. Gives ways (IsGoal Ends e) [] z r) (append_assoc origin (h.0 ∷ []) (begun hs))
      (whole i hs (origin ++ h.0 ∷ []) (places ++ h.1) c.0 c.1 e le r
      (subst (λ z. Gives ways (IsGoal Ends e) [] (at i z) r) (sym (append_assoc places h.1 (flat (held hs)))) g))

  pub all_carry : (i : ℕ) (hs : List Held) → AreCarried ways Ends i [] [] hs → (e : ℕ) → i ≤ e → CarriesTo ways Ends e (begun hs) (at i (flat (held hs)))
  all_carry i hs c = whole i hs [] [] (λ e le r g. g) c

  -- the first of the starts
  pub carried_first : (i : ℕ) (xs ys : List Held) (origin : List Pair) (places : List ℕ) → AreCarried ways Ends i origin places (xs ++ ys) →
      AreCarried ways Ends i origin places xs
  carried_first i [] ys origin places c = tt
  carried_first i (x ∷ xs) ys origin places c = (c.0, carried_first i xs ys (origin ++ x.0 ∷ []) (places ++ x.1) c.1)

  -- one start more
  carried_append : (i : ℕ) (hs : List Held) (origin : List Pair) (places : List ℕ) (m : Pair) (own : List ℕ) → AreCarried ways Ends i origin places hs →
      ((e : ℕ) → i ≤ e → CarriesTo ways Ends e ((origin ++ begun hs) ++ m ∷ []) (at i ((places ++ flat (held hs)) ++ own))) →
      AreCarried ways Ends i origin places (hs ++ (m, own) ∷ [])
  carried_append i [] origin places m own c f = (
    (λ e le r g. subst (λ z. Gives ways (IsGoal Ends e) [] (z ++ m ∷ []) r) (append-nil origin)
        (f e le r (subst (λ z. Gives ways (IsGoal Ends e) [] (at i (z ++ own)) r) (sym (append-nil places)) g))),
    tt,
  )
  carried_append i (h ∷ hs) origin places m own c f = (
    c.0,
    carried_append i hs (origin ++ h.0 ∷ []) (places ++ h.1) m own c.1
        (λ e le r g. subst (λ z. Gives ways (IsGoal Ends e) [] (z ++ m ∷ []) r) (sym (append_assoc origin (h.0 ∷ []) (begun hs)))
        (f e le r (subst (λ z. Gives ways (IsGoal Ends e) [] (at i (z ++ own)) r) (append_assoc places h.1 (flat (held hs))) g))),
  )

  -- the next start, whose place is held for it if it is held for none before
  pub start_joins : (i : ℕ) (hs : List Held) (listed : List ℕ) (root : ℕ) (own : List ℕ) → flat (held hs) ≡ listed → AreCarried ways Ends i [] [] hs →
      Adds listed (root ∷ []) (listed ++ own) → AreCarried ways Ends i [] [] (hs ++ ((root, i), own) ∷ [])
  start_joins i hs listed root own same c added =
      carried_append i hs [] [] (root, i) own c
      (λ e le r g. carried_behind ways (IsGoal Ends e) decide (begun hs) (at i listed) ((root, i) ∷ [])
      (λ r h. all_carry i hs c e le r (subst (λ z. Gives ways (IsGoal Ends e) [] (at i z) r) (sym same) h)) r
      (once_gives ways (IsGoal Ends e) decide (last_to e) near i [] added r
      (subst (λ z. Gives ways (IsGoal Ends e) [] z r) (sym (append-nil (at i (listed ++ own))))
      (subst (λ z. Gives ways (IsGoal Ends e) [] (at i (z ++ own)) r) same g))))

  -- WHAT IS KNOWN

  pub known_none : (i : ℕ) (starts all : List Pair) (best : Option Pair) → all ≡ starts → IsQuiet ways Ends i starts →
      IsKnown ways Ends i all best → IsKnown ways Ends (i + 1) starts best
  known_none i starts all None e quiet k = λ p lt.
      ⊎_elim (λ l. subst (λ z. IsQuiet ways Ends p z) e (k p l))
      (λ ge. let q : i ≡ p = omega (arith, lt, ge) in subst (λ z. IsQuiet ways Ends z starts) q quiet) (cases_lt p i)
  known_none i starts all (Some b) e quiet k =
      let before = k.0 in
      let n = k.1 in
      let split : starts ≡ before ++ n ∷ [] = sym e ∙ k.2 in
      let lt = k.3 in (
        before,
        n,
        split,
        omega (arith, lt),
        (λ p l. ⊎_elim (λ l2. k.4 p l2)
            (λ ge. let q : i ≡ p = omega (arith, l, ge) in
            subst (λ z. IsQuiet ways Ends z before) q
            (no_walk_left ways (IsGoal Ends i) before (n ∷ []) (subst (λ z. IsQuiet ways Ends i z) split quiet)))
            (cases_lt p i)),
        (λ p m l. ⊎_elim (λ l2. subst (λ z. IsQuiet ways Ends p z) e (k.5 p m l2))
            (λ ge. let q : i ≡ p = omega (arith, l, ge) in subst (λ z. IsQuiet ways Ends z starts) q quiet) (cases_lt p i)),
        subst (λ z. Gives ways (IsGoal Ends b.1) [] z (Some b)) e k.6,
      )

  quiet_before : (i : ℕ) (before : List Pair) (n : Pair) (dropped all : List Pair) (best : Option Pair) → all ≡ before ++ n ∷ dropped →
      IsKnown ways Ends i all best → (p : ℕ) → p < i → IsQuiet ways Ends p before
  quiet_before i before n dropped all None e k p lt =
      no_walk_left ways (IsGoal Ends p) before (n ∷ dropped) (subst (λ z. IsQuiet ways Ends p z) e (k p lt))
  quiet_before i before n dropped all (Some b) e k p lt =
      let r = cut before n dropped k.0 k.1 (sym e ∙ k.2) in
      no_walk_left ways (IsGoal Ends p) before r.0 (subst (λ z. IsQuiet ways Ends p z) r.1 (k.4 p lt))

  pub known_some : (i q : ℕ) (starts all dropped before : List Pair) (n : Pair) (best : Option Pair) → all ≡ starts ++ dropped → starts ≡ before ++ n ∷ [] →
      IsQuiet ways Ends i before → Gives ways (IsGoal Ends i) [] starts (Some (q, i)) →
      IsKnown ways Ends i all best → IsKnown ways Ends (i + 1) starts (Some (q, i))
  known_some i q starts all dropped before n best e split quiet gives k = (
    before,
    n,
    split,
    omega arith,
    (λ p l. ⊎_elim
        (λ l2. quiet_before i before n dropped all best
        (e ∙ ap (λ z. z ++ dropped) split ∙ append_assoc before (n ∷ []) dropped) k p l2)
        (λ ge. let same : i ≡ p = omega (arith, l, ge) in subst (λ z. IsQuiet ways Ends z before) same quiet)
        (cases_lt p i)),
    (λ p m l. absurd (omega (arith, m, l))),
    gives,
  )

  -- THE LAST MATCH

  first_reaches : (before : List Pair) (n : Pair) (rest : List Pair) (b : Pair) → HasNoWalk ways Ends [] before → ReachesLongest ways Ends n b →
      FirstReaches ways Ends (before ++ n ∷ rest) b
  first_reaches [] n rest b none r = inl r
  first_reaches (m ∷ before) n rest b none r =
      inr (no_walk_left ways Ends (m ∷ []) before none, first_reaches before n rest b (no_walk_right ways Ends (m ∷ []) before none) r)

  -- nothing is held any more
  pub over_gives : (i : ℕ) (hs : List Held) (rest origin : List Pair) (best : Option Pair) → AreCarried ways Ends i [] [] hs → flat (held hs) ≡ [] →
      IsKnown ways Ends i (begun hs) best → origin ≡ begun hs ++ rest → (best ≡ None → rest ≡ []) → GivesLongest ways Ends origin best
  over_gives i hs rest origin best c empty known all no_rest = gives best known no_rest
    where
      quiet : (e : ℕ) → i ≤ e → IsQuiet ways Ends e (begun hs)
      quiet e le =
          all_carry i hs c e le None (subst (λ z. HasNoWalk ways (IsGoal Ends e) [] (at i z)) (sym empty) (λ v b. no_ways ways (IsGoal Ends e) b))

      gives : (best : Option Pair) → IsKnown ways Ends i (begun hs) best → (best ≡ None → rest ≡ []) → GivesLongest ways Ends origin best
      gives None k no_rest =
          subst (λ z. HasNoWalk ways Ends [] z) (sym (all ∙ ap (λ z. begun hs ++ z) (no_rest refl) ∙ append-nil (begun hs)))
          (none_of_all ways Ends [] (begun hs) (λ e. ⊎_elim (λ l. k e l) (λ ge. quiet e ge) (cases_lt e i)))
      gives (Some b) k no_rest =
          let before = k.0 in
          let n = k.1 in
          let split = k.2 in
          let early : (e : ℕ) → IsQuiet ways Ends e before =
          λ e. ⊎_elim (λ l. k.4 e l) (λ ge. no_walk_left ways (IsGoal Ends e) before (n ∷ []) (subst (λ z. IsQuiet ways Ends e z) split (quiet e ge))) (cases_lt e i) in
          let beyond : (e : ℕ) → b.1 < e → HasNoWalk ways (IsGoal Ends e) [] (n ∷ []) =
          λ e m. no_walk_right ways (IsGoal Ends e) before (n ∷ []) (subst (λ z. IsQuiet ways Ends e z) split
          (⊎_elim (λ l. k.5 e m l) (λ ge. quiet e ge) (cases_lt e i))) in
          let walk : Gives ways (IsGoal Ends b.1) [] (before ++ n ∷ []) (Some b) = subst (λ z. Gives ways (IsGoal Ends b.1) [] z (Some b)) split k.6 in
          let reaches : ReachesLongest ways Ends n b =
          ⊎_elim (λ f. absurd (early b.1 walk.0 f.is_walk)) (λ f. (walk.0, longest_of ways Ends [] (n ∷ []) walk.0 b.1 f.1 beyond, walk.2))
          (first_parts ways (IsGoal Ends b.1) decide before walk.1) in
          subst (λ z. FirstReaches ways Ends z b) (sym (all ∙ ap (λ z. z ++ rest) split ∙ append_assoc before (n ∷ []) rest))
          (first_reaches before n rest b (none_of_all ways Ends [] before early) reaches)

  -- RESTING

  -- starts without a walk are left out
  pub reaches_behind : (before : List Pair) (from : List Pair) (b : Pair) → HasNoWalk ways Ends [] before → FirstReaches ways Ends from b →
      FirstReaches ways Ends (before ++ from) b
  reaches_behind [] from b none r = r
  reaches_behind (m ∷ before) from b none r =
      inr (no_walk_left ways Ends (m ∷ []) before none, reaches_behind before from b (no_walk_right ways Ends (m ∷ []) before none) r)

  -- the start for which the one place is held
  one_start : (root : ℕ) (hs : List Held) → flat (held hs) ≡ root ∷ [] →
      (before : List Held) × (h : Held) × (behind : List Held) × (hs ≡ before ++ h ∷ behind) × (flat (held before) ≡ []) × (h.1 ≡ root ∷ [])
  one_start root [] e = absurd (let l : 0 ≡ 1 = ap (λ z. length z) e in omega (arith, l))
  one_start root ((m, []) ∷ hs) e =
      let r = one_start root hs e in ((m, []) ∷ r.0, r.1, r.2, ap (λ z. (m, []) ∷ z) r.3, r.4, r.5)
  one_start root ((m, q ∷ g) ∷ hs) e = ([], (m, q ∷ g), hs, refl, refl, alone g (flat (held hs)) e)
    where
      alone : (g rest : List ℕ) → (q ∷ g) ++ rest ≡ root ∷ [] → q ∷ g ≡ root ∷ []
      alone [] [] e = e
      alone [] (x ∷ rest) e = absurd (let l : length (q ∷ x ∷ rest) ≡ 1 = ap (λ z. length z) e in omega (arith, l))
      alone (x ∷ g) rest e = absurd (let l : length (q ∷ x ∷ (g ++ rest)) ≡ 1 = ap (λ z. length z) e in omega (arith, l))

  module _ (i root : ℕ) (hs : List Held) (c : AreCarried ways Ends i [] [] hs) (one : flat (held hs) ≡ root ∷ [])
      (known : (e : ℕ) → e < i → IsQuiet ways Ends e (begun hs)) where
    -- without a walk from the place none leads from the starts
    none_rests : HasNoWalk ways Ends [] ((root, i) ∷ []) → HasNoWalk ways Ends [] (begun hs)
    none_rests none =
        none_of_all ways Ends [] (begun hs)
        (λ e. ⊎_elim (λ l. known e l)
        (λ ge. all_carry i hs c e ge None
        (subst (λ z. HasNoWalk ways (IsGoal Ends e) [] (at i z)) (sym one) (none_to ways Ends [] ((root, i) ∷ []) e none)))
        (cases_lt e i))

    -- the longest walk from the place is as long as that of the start for which it is held
    some_rests : (rest : List Pair) (b : Pair) → ReachesLongest ways Ends (root, i) b → FirstReaches ways Ends (begun hs ++ rest) b
    some_rests rest b r =
        let f = one_start root hs one in
        let before = f.0 in
        let h = f.1 in
        let behind = f.2 in
        let start = h.0 in
        let c2 : AreCarried ways Ends i [] [] (before ++ h ∷ []) =
        carried_first i (before ++ h ∷ []) behind [] [] (subst (λ z. AreCarried ways Ends i [] [] z) (f.3 ∙ sym (append_assoc before (h ∷ []) behind)) c) in
        let starts_are : begun (before ++ h ∷ []) ≡ begun before ++ start ∷ [] = begun_append before (h ∷ []) in
        let places_are : flat (held (before ++ h ∷ [])) ≡ root ∷ [] =
        ap flat (held_append before (h ∷ [])) ∙ flat_append (held before) (h.1 ∷ []) ∙ ap₂ (λ z w. z ++ (w ++ [])) f.4 f.5 in
        let carried : (e : ℕ) → i ≤ e → CarriesTo ways Ends e (begun before ++ start ∷ []) ((root, i) ∷ []) =
        λ e le r g. subst (λ z. Gives ways (IsGoal Ends e) [] z r) starts_are
        (all_carry i (before ++ h ∷ []) c2 e le r (subst (λ z. Gives ways (IsGoal Ends e) [] (at i z) r) (sym places_are) g)) in
        let all_are : begun hs ≡ begun before ++ start ∷ begun behind = ap begun f.3 ∙ begun_append before (h ∷ behind) in
        let early : (e : ℕ) → IsQuiet ways Ends e (begun before) =
        λ e. ⊎_elim (λ l. no_walk_left ways (IsGoal Ends e) (begun before) (start ∷ begun behind) (subst (λ z. IsQuiet ways Ends e z) all_are (known e l)))
        (λ ge. all_carry i before (carried_first i before (h ∷ []) [] [] c2) e ge None
        (subst (λ z. HasNoWalk ways (IsGoal Ends e) [] (at i z)) (sym f.4) (λ v x. no_ways ways (IsGoal Ends e) x)))
        (cases_lt e i) in
        let w = r.0 in
        let longest = r.1 in
        let end : last_of w ≡ b = last_at w b r.2 in
        let at_end : (last_of w).1 ≡ b.1 = ap (λ (z : Pair). z.1) end in
        let first = subst (λ e. IsFirstWalk ways (IsGoal Ends e) [] ((root, i) ∷ []) w) at_end (first_of_longest ways Ends [] ((root, i) ∷ []) w longest) in
        let late : i ≤ b.1 = ends_on ways Ends rises_here i b.1 (λ k x. ⊎_elim (λ q. subst (λ (z : Pair). i ≤ z.1) q (omega arith)) (λ never. absurd never) x) first.is_walk in
        let walk = carried b.1 late (Some b) (w, first, r.2) in
        let beyond : (m : ℕ) → b.1 < m → HasNoWalk ways (IsGoal Ends m) [] (start ∷ []) =
        λ m lt. no_walk_right ways (IsGoal Ends m) (begun before) (start ∷ [])
        (carried m (omega (arith, late, lt)) None (none_longer ways Ends [] ((root, i) ∷ []) w longest m (omega (arith, lt, at_end)))) in
        let reaches : ReachesLongest ways Ends start b =
        ⊎_elim (λ x. absurd (early b.1 walk.0 x.is_walk)) (λ x. (walk.0, longest_of ways Ends [] (start ∷ []) walk.0 b.1 x.1 beyond, walk.2))
        (first_parts ways (IsGoal Ends b.1) decide (begun before) {w = walk.0} walk.1) in
        subst (λ z. FirstReaches ways Ends z b)
        (sym (ap (λ z. z ++ rest) all_are ∙ append_assoc (begun before) (start ∷ begun behind) rest))
        (first_reaches (begun before) start (begun behind ++ rest) b (none_of_all ways Ends [] (begun before) early) reaches)

    pub rest_gives : (rest : List Pair) (r : Option Pair) → GivesLongest ways Ends ((root, i) ∷ rest) r → GivesLongest ways Ends (begun hs ++ rest) r
    rest_gives rest None none =
        no_walk_both ways Ends {xs = begun hs} (none_rests (no_walk_left ways Ends ((root, i) ∷ []) rest none)) (no_walk_right ways Ends ((root, i) ∷ []) rest none)
    rest_gives rest (Some b) r =
        ⊎_elim (λ f. some_rests rest b f) (λ f. reaches_behind (begun hs) rest b (none_rests f.0) f.1) r
