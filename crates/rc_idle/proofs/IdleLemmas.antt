-- Where runs rest: the places to which walks come, as long as nothing was found.
use Rattle.std.proofs.Common.{◌≡◌, ℕ, suc, ◌+◌, ◌-◌, ◌<◌, ◌≤◌, ◌⊎◌, Bool, true, false, true≢false, ◌&&◌, List, [], ◌∷◌, ◌++◌, map, Option, Some, None, is_none, IsTrue, inl, inr, ⊎_elim, sym, subst, ap, ap₂, ◌∙◌, refl, arith}
use Rattle.std.proofs.lemmas.Bool.{cases_lt, eqb-true}
use Rattle.std.proofs.lemmas.Option.{none-some, same_Some}
use Rattle.rc_text.specs.declared.types.MatchKind.TheVariants.{LeftmostFirst as leftmost_first}
use Rattle.rc_text.specs.declared.types.Anchored.TheVariants.{No}
use Rattle.rc_walks.specs.Walks.{Pair, IsIn, IsWalk, HasNoWalk}
use Rattle.rc_walks.specs.Walks as walks
use Rattle.rc_program.specs.Text.{Text, before_at, after_at}
use Rattle.rc_program.specs.Program.{Way, stays, reads, pair_at, place_at, program, ways}
use Rattle.rc_program.proofs.PlaceLemmas.{program_some}
use Rattle.rc_determinize.specs.Steps.{HasPlace, HasWay, Steps, Adds, IsStep}
use Rattle.rc_determinize.specs.Steps as steps
use Rattle.rc_determinize.specs.Sets.{Comes, begins, goes, ArrivesAt}
use Rattle.rc_determinize.specs.Sides.{out_over, told_side, sides_near, byte_of}
use Rattle.rc_determinize.specs.States.{Setting, IsSetting, State, is_match, root_if, IsNextOver, IsFirstBeside, sides_ahead, IsInside, IsUnderWay, Stops, all_starts, best_at}
use Rattle.rc_determinize.proofs.BackwardLemmas.{each_way, same_position, next_position, IsStay}
use Rattle.rc_determinize.proofs.LawLemmas.{forward_law, gather_law}
use Rattle.rc_determinize.proofs.MachineLemmas.{has_left, has_right}
use Rattle.rc_determinize.proofs.TextLemmas.{out_here, same_below, near}
use Rattle.rc_dfa.specs.Machine.{Alphabet, Machine, forwards, is_root_alone, IsMachine}
use Rattle.rc_dfa.specs.Runs.{RunEnd, met_last, stopped_at, idle_at, EndsOver, SearchEndsOver, SearchEnds, ran}
use Rattle.rc_dfa.proofs.AlphabetLemmas.{across_ahead, begins_ahead}
use Rattle.rc_dfa.specs.Runs as runs
use Rattle.rc_idle.specs.Idle.{LeadOn, IdleLaw}
use Rattle.rc_idle.proofs.EnteredLemmas.{program_leads_on, bytes_lead_on, leads_on}

-- ONE STEP

abbrev stay_of : Way → ℕ
stay_of (stays q) = suc q
stay_of (reads n q) = 0

abbrev read_of : Way → ℕ
read_of (stays q) = 0
read_of (reads n q) = suc q

same_stay : (q p : ℕ) → stays q ≡ stays p → q ≡ p
same_stay q p e = let f : suc q ≡ suc p = ap (λ w. stay_of w) e in omega (arith, f)

same_read : (q p : ℕ) → reads 1 q ≡ reads 1 p → q ≡ p
same_read q p e = let f : suc q ≡ suc p = ap (λ w. read_of w) e in omega (arith, f)

no_stay : (q p : ℕ) → reads 1 q ≡ stays p → ⊥
no_stay q p e = let f : 0 ≡ suc p = ap (λ w. stay_of w) e in omega (arith, f)

no_read : (q p : ℕ) → stays q ≡ reads 1 p → ⊥
no_read q p e = let f : 0 ≡ suc p = ap (λ w. read_of w) e in omega (arith, f)

way_stays : (q : ℕ) (list : List ℕ) → HasPlace q list → HasWay (stays q) (map stays list)
way_stays q [] h = h
way_stays q (p ∷ ps) h = ⊎_elim (λ e. inl (ap (λ x. stays x) e)) (λ z. inr (way_stays q ps z)) h

-- each place of both lists is in the third
added_left : {list qs new : List ℕ} (k : ℕ) → Adds list qs new → HasPlace k list → HasPlace k new
added_left k steps.all_added h = h
added_left k (steps.adds_one {list} q fresh a) h = added_left k a (has_left k list (q ∷ []) h)
added_left k (steps.leaves_out q seen a) h = added_left k a h

added_right : {list qs new : List ℕ} (k : ℕ) → Adds list qs new → HasPlace k qs → HasPlace k new
added_right k steps.all_added h = absurd h
added_right k (steps.adds_one {list} q fresh a) h =
    ⊎_elim (λ e. added_left k a (has_right k list (q ∷ []) (inl e))) (λ z. added_right k a z) h
added_right k (steps.leaves_out {list} q seen a) h =
    ⊎_elim (λ e. added_left k a (subst (λ x. HasPlace x list) e seen)) (λ z. added_right k a z) h

module _ (out : ℕ → List Way) (ends : ℕ → Bool) where
  -- The ways out of the place lead to places that were entered, or that are handed on. No walk ends
  -- there.
  record IsShut (visited onward : List ℕ) (k : ℕ) : Type 0 where
    pub stays : (p : ℕ) → HasWay (stays p) (out k) → HasPlace p visited
    pub reads : (p : ℕ) → HasWay (reads 1 p) (out k) → HasPlace p onward
    pub unmet : ¬ IsTrue (ends k)

  record IsCollected (visited : List ℕ) (from : List Way) (onward visited2 : List ℕ) : Type 0 where
    pub kept : (k : ℕ) → HasPlace k visited → HasPlace k visited2
    pub stays : (p : ℕ) → HasWay (stays p) from → HasPlace p visited2
    pub reads : (p : ℕ) → HasWay (reads 1 p) from → HasPlace p onward
    pub shut : (k : ℕ) → HasPlace k visited2 → HasPlace k visited ⊎ IsShut visited2 onward k

  -- where nothing is found, all is collected
  collected : {visited onward visited2 : List ℕ} {from : List Way} {matched : Option ℕ} → matched ≡ None →
      Steps out ends visited from onward matched visited2 → IsCollected visited from onward visited2
  collected none steps.out_of_ways = record { kept = λ k h. h; stays = λ p h. absurd h; reads = λ p h. absurd h; shut = λ k h. inl h }
  collected none (steps.hands_on q more) =
      let c = collected none more in
      record {
        kept = c.kept;
        stays = λ p h. ⊎_elim (λ e. absurd (no_stay q p e)) (λ z. c.stays p z) h;
        reads = λ p h. ⊎_elim (λ e. inl (same_read q p e)) (λ z. inr (c.reads p z)) h;
        shut = λ k h. ⊎_elim (λ x. inl x) (λ y. inr (record { stays = y.stays; reads = λ p w. inr (y.reads p w); unmet = y.unmet })) (c.shut k h);
      }
  collected none (steps.skips {visited2 = visited2} q seen more) =
      let c = collected none more in
      record {
        kept = c.kept;
        stays = λ p h. ⊎_elim (λ e. subst (λ x. HasPlace x visited2) (same_stay q p e) (c.kept q seen)) (λ z. c.stays p z) h;
        reads = λ p h. ⊎_elim (λ e. absurd (no_read q p e)) (λ z. c.reads p z) h;
        shut = c.shut;
      }
  collected none (steps.arrives q fresh met) = absurd (none-some q (sym none))
  collected none (steps.stops_under {e = e} q fresh on sub) = absurd (none-some e (sym none))
  collected none (steps.comes_back {visited} {onward} {onward2} {visited2} {visited3} q fresh on sub more) =
      let a = collected refl sub in
      let c = collected none more in
      record {
        kept = λ k h. c.kept k (a.kept k (inr h));
        stays = λ p h. ⊎_elim (λ e. subst (λ x. HasPlace x visited3) (same_stay q p e) (c.kept q (a.kept q (inl refl)))) (λ z. c.stays p z) h;
        reads = λ p h. ⊎_elim (λ e. absurd (no_read q p e)) (λ z. has_right p onward onward2 (c.reads p z)) h;
        shut = λ k h. ⊎_elim
            (λ x. ⊎_elim
            (λ y. ⊎_elim
            (λ e. inr (subst (λ n. IsShut visited3 (onward ++ onward2) n) e (record {
              stays = λ p w. c.kept p (a.stays p w);
              reads = λ p w. has_left p onward onward2 (a.reads p w);
              unmet = on;
            })))
            (λ z. inl z) y)
            (λ y. inr (record {
              stays = λ p w. c.kept p (y.stays p w);
              reads = λ p w. has_left p onward onward2 (y.reads p w);
              unmet = y.unmet;
            }))
            (a.shut k x))
            (λ y. inr (record { stays = y.stays; reads = λ p w. has_right p onward onward2 (y.reads p w); unmet = y.unmet }))
            (c.shut k h);
      }

-- THE SEARCH UNDER WAY

best_none : (i : ℕ) (matched : Option ℕ) (met : Option Pair) → best_at i matched met ≡ None → (matched ≡ None) × (met ≡ None)
best_none i None met e = (refl, e)
best_none i (Some q) met e = absurd (none-some (q, i) (sym e))

module _ (g : Setting) (ok : IsSetting g) (t : Text) (terminator : g.terminator ≡ t.terminator) (hi from : ℕ) (inside : IsInside t from hi) where
  abbrev W : Pair → List Pair
  W = ways g.places t hi

  abbrev origin : List Pair
  origin = all_starts false 0 from hi

  near_here : (n m : Pair) → IsIn m (W n) → (m.1 ≡ n.1) ⊎ (m.1 ≡ n.1 + 1)
  near_here = near g.places t hi ok.by_bytes

  -- the starts
  is_start : (q y : ℕ) → IsIn (q, y) origin → (q ≡ 0) × (from ≤ y)
  is_start q y (inl e) = (ap (λ (n : Pair). n.0) (sym e), let f : from ≡ y = ap (λ (n : Pair). n.1) e in omega (arith, f))
  is_start q y (inr h) = let r = (gather_law.start 0 (from + 1) (hi - from) q y).0 h in (r.0, let le = r.1 in omega (arith, le))

  a_start : (z : ℕ) → from ≤ z → z ≤ hi → IsIn (0, z) origin
  a_start z low high =
      ⊎_elim (λ e. inl (ap (λ x. (0, x)) e)) (λ lt. inr ((gather_law.start 0 (from + 1) (hi - from) 0 z).1 (refl, lt, omega (arith, high, lt)))) (split from z low)
    where
      split : (a b : ℕ) → a ≤ b → (a ≡ b) ⊎ (a + 1 ≤ b)
      split a b le = ⊎_elim (λ l. inr (omega (arith, l))) (λ l. inl (omega (arith, le, l))) (cases_lt a b)

  comes_low : {n : Pair} → Comes W origin n → from ≤ n.1
  comes_low (begins n h) = (is_start n.0 n.1 h).1
  comes_low (goes n m c h) = let low = comes_low c in ⊎_elim (λ e. omega (arith, e, low)) (λ e. omega (arith, e, low)) (near_here m n h)

  -- At the position i nothing was found, and the list has each place to which a walk comes.
  record IsCovered (i : ℕ) (s : State) : Type 0 where
    pub under : IsUnderWay g t hi 0 origin i s None
    pub above : from ≤ i
    pub list : (q : ℕ) → ArrivesAt W origin i q → HasPlace q s.list
    pub unmet : (q e : ℕ) → e < i → Comes W origin (q, e) → ¬ IsTrue (is_match g.places q)
    pub goes_on : s.goes_on ≡ true

  begun_so : (first : State) → IsFirstBeside 0 (told_side g.needs g.terminator (before_at t from)) false first → IsCovered from first
  begun_so first f = record {
    under = forward_law.begins_beside g t hi 0 from false first ok terminator f;
    above = omega arith;
    list = λ q h. subst (λ l. HasPlace q l) (sym f.list)
        (⊎_elim (λ x. inl (sym (is_start q from x).0)) (λ x. let low = comes_low x.3 in let e = x.2 in absurd (omega (arith, low, e))) h);
    unmet = λ q e lt c m. let low = comes_low c in omega (arith, lt, low);
    goes_on = f.goes_on;
  }

  module _ (i : ℕ) (lt : i < hi) (s s2 : State) (c : IsCovered i s)
      (n : IsNextOver g.places 0 s (sides_ahead g t i) s2) (none : s2.matched ≡ None) where
    abbrev out : ℕ → List Way
    out = out_here g.places g.needs ok.by_bytes ok.covers t i

    each : (q : ℕ) (w : Way) → HasWay w (out q) → IsStay w ⊎ ((k : ℕ) × (w ≡ reads 1 k))
    each q w h = each_way _ (byte_of (after_at t i)) (place_at g.places q) (ok.by_bytes q) w h

    over : (q : ℕ) → W (q, i) ≡ map (pair_at i) (out q)
    over = same_below g.places g.needs ok.by_bytes ok.covers t i hi lt inside.high inside.bounded

    step : IsStep out (is_match g.places) s.list n.next s2.matched
    step = subst (λ o. IsStep o (is_match g.places) s.list n.next s2.matched)
        (ap₂ (λ x b. out_over g.places b (sides_near g.needs x (after_at t i) (told_side g.needs g.terminator (before_at t (i + 1))))) terminator
        c.under.beside) n.is_step

    all : IsCollected out (is_match g.places) [] (map stays s.list) step.onward step.visited
    all = collected out (is_match g.places) none step.steps

    shut : (k : ℕ) → HasPlace k step.visited → IsShut out (is_match g.places) step.visited step.onward k
    shut k h = ⊎_elim (λ x. absurd x) (λ y. y) (all.shut k h)

    entered : {m : Pair} → Comes W origin m → m.1 ≡ i → HasPlace m.0 step.visited
    entered (begins m h) e = all.stays m.0 (way_stays m.0 s.list (c.list m.0 (inl (subst (λ x. IsIn (m.0, x) origin) e h))))
    entered (goes m k l h) e =
        ⊎_elim
        (λ f. let at : k.1 ≡ i = sym f ∙ e in
        (shut k.0 (entered l at)).stays m.0 (same_position i m.0 (out k.0) (each k.0)
        (subst (λ ms. IsIn (m.0, i) ms) (over k.0) (subst (λ x. IsIn (m.0, i) (W (k.0, x))) at (subst (λ x. IsIn (m.0, x) (W k)) e h)))))
        (λ f. all.stays m.0 (way_stays m.0 s.list (c.list m.0 (inr (k.1, k.0, sym f ∙ e, l, subst (λ x. IsIn (m.0, x) (W k)) e h)))))
        (near_here k m h)

    on : s2.goes_on ≡ true
    on = n.goes_on ∙ ap₂ (λ a b. a && is_none b) c.goes_on none

    goes_so : IsCovered (i + 1) s2
    goes_so = record {
      under = subst (λ b. IsUnderWay g t hi 0 origin (i + 1) s2 (best_at i b None)) none
          (forward_law.goes_over g t hi 0 origin i s s2 None ok terminator lt here c.under n);
      above = let above = c.above in omega (arith, above);
      list = λ q h. ⊎_elim
          (λ x. added_right q n.joined (subst (λ b. HasPlace q (root_if b 0)) (sym on) (inl (sym (is_start q (i + 1) x).0))))
          (λ x. let e : x.0 ≡ i = let f = x.2 in omega (arith, f) in
          let origin_there : Comes W origin (x.1, i) = subst (λ k. Comes W origin (x.1, k)) e x.3 in
          let edge : IsIn (q, i + 1) (W (x.1, i)) = subst (λ k. IsIn (q, i + 1) (W (x.1, k))) e x.4 in
          added_left q n.joined (added_right q step.once
          ((shut x.1 (entered origin_there refl)).reads q (next_position i q (out x.1) (each x.1) (subst (λ ms. IsIn (q, i + 1) ms) (over x.1) edge))))) h;
      unmet = λ q e le k. ⊎_elim
          (λ before. c.unmet q e before k)
          (λ at. (shut q (entered k (sym at))).unmet)
          (split e le);
      goes_on = on;
    }
      where
        here : IsInside t i hi
        here = let low = inside.low in let above = c.above in record { low = omega (arith, low, above); high = inside.high; bounded = inside.bounded }

        split : (e : ℕ) → e < i + 1 → (e < i) ⊎ (i ≡ e)
        split e le = ⊎_elim (λ l. inl l) (λ l. inr (omega (arith, le, l))) (cases_lt e i)

-- RUNS

abbrev ahead_by : Alphabet → Setting → List ℕ → Machine
ahead_by a g entries = record { setting = g; entries = entries; direction = forwards leftmost_first; alphabet = a }

module _ (a : Alphabet) (g : Setting) (entries : List ℕ) (ok : IsSetting g) (on : LeadOn g.places) (t : Text) (terminator : g.terminator ≡ t.terminator) (hi from : ℕ)
    (inside : IsInside t from hi) where
  covered : {first : State} {i : ℕ} {s : State} {met : Option Pair} → met ≡ None → IsCovered g ok t terminator hi from inside from first →
      runs.RunsOver a (ahead_by a g entries) t hi from first i s met → IsCovered g ok t terminator hi from inside i s
  covered none c runs.begun = c
  covered none c (runs.goes_on {met} i s next run lt may leads) =
      let b = best_none i next.matched met none in
      let d = covered b.1 c run in
      let here : IsInside t i hi = let low = inside.low in let above = d.above in record { low = omega (arith, low, above); high = inside.high; bounded = inside.bounded } in
      goes_so g ok t terminator hi from inside i lt s next d (across_ahead a (ahead_by a g entries) t hi i lt here may s next leads) b.0

  -- from a place before that of rest no walk leads on to it
  module _ (i : ℕ) (s : State) (c : IsCovered g ok t terminator hi from inside i s) (rests : s.list ≡ 0 ∷ []) where
    stays_before : (n m : Pair) → n.1 < i → Comes (W g ok t terminator hi from inside) (origin g ok t terminator hi from inside) n →
        IsIn m (W g ok t terminator hi from inside n) → m.1 < i
    stays_before n m lt comes edge =
        ⊎_elim
        (λ e. omega (arith, e, lt))
        (λ e. ⊎_elim (λ l. l)
        (λ l. let at : n.1 + 1 ≡ i = omega (arith, e, l, lt) in
        let has : HasPlace m.0 (0 ∷ []) = subst (λ xs. HasPlace m.0 xs) rests (c.list m.0 (inr (
          n.1,
          n.0,
          at,
          comes,
          subst (λ x. IsIn (m.0, x) (W g ok t terminator hi from inside n)) (e ∙ at) edge,
        ))) in
        let some = leads_on g.places on t hi n m edge in
        ⊎_elim (λ z. absurd (omega (arith, z, some))) (λ z. absurd z) has)
        (cases_lt m.1 i))
        (near_here g ok t terminator hi from inside n m edge)

    no_walk : {passed from_pairs v : List Pair} → ((n : Pair) → IsIn n from_pairs →
        (n.1 < i) × Comes (W g ok t terminator hi from inside) (origin g ok t terminator hi from inside) n) →
        IsWalk (W g ok t terminator hi from inside) (Stops g.places) passed from_pairs v → ⊥
    no_walk h (walks.stops n here fresh ends) = let k = h n here in c.unmet n.0 n.1 k.0 k.1 ends
    no_walk h (walks.goes n here fresh more) =
        let k = h n here in
        no_walk (λ m edge. (stays_before n m k.0 k.1 edge, goes m n k.1 edge)) more

  both : (a b : Bool) → (a && b) ≡ true → (a ≡ true) × (b ≡ true)
  both true true e = (refl, refl)
  both true false e = absurd (true≢false (sym e))
  both false b e = absurd (true≢false (sym e))

  root_alone : (list : List ℕ) → is_root_alone list ≡ true → list ≡ 0 ∷ []
  root_alone [] e = absurd (true≢false (sym e))
  root_alone (q ∷ []) e = ap (λ k. k ∷ []) (eqb-true q 0 e)
  root_alone (q ∷ p ∷ qs) e = absurd (true≢false (sym e))

  abbrev rest_of : RunEnd → Option ℕ
  rest_of (met_last met) = None
  rest_of (stopped_at p) = None
  rest_of (idle_at i) = Some i

  none_ends : (earliest : Bool) (first : State) (e : RunEnd) (i : ℕ) → IsCovered g ok t terminator hi from inside from first →
      EndsOver a (ahead_by a g entries) t hi from first earliest e → rest_of e ≡ Some i → (z : ℕ) → from ≤ z → z < i →
      HasNoWalk (ways g.places t hi) (Stops g.places) [] ((0, z) ∷ [])
  none_ends earliest first e i c (runs.at_bound s next run may leads) is = absurd (none-some i is)
  none_ends earliest first e i c (runs.dead k s run dead) is = absurd (none-some i is)
  none_ends earliest first e i c (runs.early k s first_counts run) is = absurd (none-some i is)
  none_ends earliest first e i c (runs.quit k s run le may) is = absurd (none-some i is)
  none_ends earliest first e i c (runs.rests k s run le idle) is = λ z low lt v walk.
      let at : k ≡ i = same_Some k i is in
      let d = covered refl c run in
      no_walk k s d (root_alone s.list (both (is_root_alone s.list) s.goes_on idle).0)
      (λ n here. ⊎_elim
      (λ e. subst (λ (m : Pair). (m.1 < k) × Comes (W g ok t terminator hi from inside) (origin g ok t terminator hi from inside) m) e
      (omega (arith, lt, at), begins (0, z) (a_start g ok t terminator hi from inside z low (omega (arith, lt, at, le)))))
      (λ never. absurd never) here) walk

  none_in : (earliest : Bool) (i : ℕ) → SearchEndsOver a (ahead_by a g entries) t hi from No earliest (idle_at i) → (z : ℕ) → from ≤ z → z < i →
      HasNoWalk (ways g.places t hi) (Stops g.places) [] ((0, z) ∷ [])
  none_in earliest i (ran first may begin so) =
      none_ends earliest first (idle_at i) i (begun_so g ok t terminator hi from inside first
      (begins_ahead a (ahead_by a g entries) No t from first may begin)) so refl

turned : (m : Machine) → m.direction ≡ forwards leftmost_first → (P : Machine → Type 0) → P m → P (ahead_by m.alphabet m.setting m.entries)
turned m e P h = subst (λ d. P (record m { direction = d })) e h

none_before : (m : Machine) (t : Text) (hi from i : ℕ) (earliest : Bool) → IsMachine m → m.direction ≡ forwards leftmost_first →
    m.setting.terminator ≡ t.terminator → IsInside t from hi → LeadOn m.setting.places → SearchEnds m t hi from No earliest (idle_at i) →
    (z : ℕ) → from ≤ z → z < i → HasNoWalk (ways m.setting.places t hi) (Stops m.setting.places) [] ((0, z) ∷ [])
none_before m t hi from i earliest k d terminator inside on h =
    none_in m.alphabet m.setting m.entries k.setting on t terminator hi from inside earliest i
    (turned m d (λ x. SearchEnds x t hi from No earliest (idle_at i)) h)

pub idle_law : IdleLaw
idle_law = record {
  leads_on = λ hs. bytes_lead_on (program hs) (program_some hs) (program_leads_on hs);
  none_before = none_before;
}
