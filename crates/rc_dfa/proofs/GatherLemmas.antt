-- Runs forwards, where each match counts.
use Rattle.std.proofs.Common.{◌≡◌, ℕ, ◌+◌, ◌<◌, ◌≤◌, ◌⊎◌, ◌↔◌, Bool, true, false, true≢false, not, List, [], ◌∷◌, Option, Some, None, inl, inr, ⊎_elim, sym, subst, ap, ◌∙◌, refl, arith}
use Rattle.std.proofs.lemmas.Bool.{cases_lt}
use Rattle.std.proofs.lemmas.Option.{none-some}
use Rattle.rc_text.specs.declared.types.MatchKind.TheVariants.{All as all_matches}
use Rattle.rc_walks.specs.Walks.{Pair, IsIn}
use Rattle.rc_program.specs.Text.{Text, before_at, after_at}
use Rattle.rc_program.specs.Program.{Place, ways}
use Rattle.rc_determinize.specs.Steps.{HasPlace}
use Rattle.rc_determinize.specs.declared.sides.Seen.{Seen}
use Rattle.rc_determinize.specs.declared.sides.Sides.{Sides}
use Rattle.rc_determinize.specs.Sides.{told_side, sides_near}
use Rattle.rc_determinize.specs.States.{Setting, IsSetting, State, IsFirstBeside, IsInside, Stops, all_starts, best_at, sides_ahead}
use Rattle.rc_determinize.specs.Sets.{Comes, ComesOver, IsNextOfAllOver, IsLeastMatch, IsGathering, ArrivesAt}
use Rattle.rc_determinize.specs.Sets as sets
use Rattle.rc_determinize.specs.Spans.{IsLastSoFar, last_at}
use Rattle.rc_determinize.proofs.TextLemmas.{near}
use Rattle.rc_determinize.proofs.LawLemmas.{gather_law}
use Rattle.rc_determinize.proofs.SpanLemmas.{greatest_span_law}
use Rattle.rc_dfa.specs.Machine.{Alphabet, Machine, forwards, is_dead}
use Rattle.rc_dfa.specs.Runs.{RunEnd, met_last, RunsOver, begun, goes_on, EndsOver, at_bound, dead, early, quit, rests}
use Rattle.rc_dfa.specs.Laws.{position_of}
use Rattle.rc_dfa.proofs.AlphabetLemmas.{LeadsNear, across_ahead, near_ahead}
use Rattle.rc_dfa.proofs.StartLemmas.{same_met, stop_no_met, rest_no_met, starts_at, first_start, later_start, once_start}
use Rattle.rc_dfa.proofs.FirstLemmas.{no_list}

-- where no walk may begin later, it is all the same where it would
any_root : (places : List Place) (root : ℕ) (s next : State) (sides : Sides) → (root ≡ 0) ⊎ (s.goes_on ≡ false) → IsNextOfAllOver places 0 s sides next →
    IsNextOfAllOver places root s sides next
any_root places root s next sides (inl e) n = subst (λ r. IsNextOfAllOver places r s sides next) (sym e) n
any_root places root s next sides (inr f) n =
    let d : next.goes_on ≡ false = n.goes_on ∙ f in
    record {
      list = λ q. let l = n.list q in (
        (λ h. ⊎_elim (λ x. absurd (true≢false (sym x.0 ∙ d))) (λ x. inr x) (l.0 h)),
        (λ h. ⊎_elim (λ x. absurd (true≢false (sym x.0 ∙ d))) (λ x. l.1 (inr x)) h),
      );
      rising = n.rising;
      matched = n.matched;
      goes_on = n.goes_on;
      beside = n.beside;
    }

same_position : (i : ℕ) (matched : Option ℕ) (met : Option Pair) → position_of (best_at i matched met) ≡ last_at i matched (position_of met)
same_position i None met = refl
same_position i (Some q) met = refl

-- a walk comes to no position before the first
pub comes_behind : (W : Pair → List Pair) → ((n m : Pair) → IsIn m (W n) → n.1 ≤ m.1) → (origin : List Pair) (from : ℕ) →
    ((n : Pair) → IsIn n origin → from ≤ n.1) → {n : Pair} → Comes W origin n → from ≤ n.1
comes_behind W rises origin from after (sets.begins n h) = after n h
comes_behind W rises origin from after (sets.goes n m c h) =
    let a = comes_behind W rises origin from after c in let b = rises m n h in omega (arith, a, b)

module _ (a : Alphabet) (g : Setting) (entries : List ℕ) (ok : IsSetting g) (t : Text) (same : g.terminator ≡ t.terminator) (hi from root : ℕ) (once : Bool)
    (inside : IsInside t from hi) (first : State)
    (f : IsFirstBeside root (told_side g.needs g.terminator (before_at t from)) once first) (rooted : (root ≡ 0) ⊎ (once ≡ true)) where
  abbrev m : Machine
  m = record { setting = g; entries = entries; direction = forwards all_matches; alphabet = a }

  abbrev W : Pair → List Pair
  W = ways g.places t hi

  abbrev origin : List Pair
  origin = all_starts once root from hi

  rises : (n k : Pair) → IsIn k (W n) → n.1 ≤ k.1
  rises n k h = ⊎_elim (λ e. omega (arith, e)) (λ e. omega (arith, e)) (near g.places t hi ok.by_bytes n k h)

  pub behind : {n : Pair} → Comes W origin n → from ≤ n.1
  behind c = comes_behind W rises origin from (λ n h. (starts_at once root from hi n.0 n.1 h).1) c

  begins : IsGathering g t hi origin from first
  begins = record {
    list = λ q. (
      (λ h. inl (first_start once root from hi q
          (⊎_elim (λ e. e) (λ never. absurd never) (subst (λ l. HasPlace q l) f.list h)))),
      (λ h. subst (λ l. HasPlace q l) (sym f.list)
          (⊎_elim (λ i. inl (sym (starts_at once root from hi q from i).0))
          (λ x. let e = x.2 in let b = behind x.3 in absurd (omega (arith, e, b))) h)),
    );
    beside = f.beside ∙ ap (λ x. told_side g.needs x (before_at t from)) same;
  }

  -- Between two bytes.
  record IsUp (i : ℕ) (s : State) (met : Option Pair) : Type 0 where
    low : from ≤ i
    high : (s.list ≡ root ∷ []) ⊎ (i ≤ hi)
    on : s.goes_on ≡ not once
    gathers : IsGathering g t hi origin i s
    last : IsLastSoFar g t hi origin i (position_of met)

  rooted_so : (s : State) → s.goes_on ≡ not once → (root ≡ 0) ⊎ (s.goes_on ≡ false)
  rooted_so s e = ⊎_elim (λ z. inl z) (λ z. inr (e ∙ ap (λ b. not b) z)) rooted

  within : (i : ℕ) → from ≤ i → IsInside t i hi
  within i low = record { low = let l = inside.low in omega (arith, l, low); high = inside.high; bounded = inside.bounded }

  -- which starts there are at the next position
  next_starts : (i q : ℕ) (b : Bool) → from ≤ i → i < hi → b ≡ not once → IsIn (q, i + 1) origin ↔ ((b ≡ true) × (q ≡ root))
  next_starts i q b low lt e = by_once once refl
    where
      by_once : (o : Bool) → once ≡ o → IsIn (q, i + 1) origin ↔ ((b ≡ true) × (q ≡ root))
      by_once true o = (
        (λ h. let z = once_start once root from hi q (i + 1) o h in absurd (omega (arith, z, low))),
        (λ h. absurd (true≢false (sym h.0 ∙ e ∙ ap (λ x. not x) o))),
      )
      by_once false o = (
        (λ h. (e ∙ ap (λ x. not x) o, (starts_at once root from hi q (i + 1) h).0)),
        (λ h. later_start once root from hi i q low lt o h.1),
      )

  -- what is met here
  least : (i : ℕ) (s next : State) (met : Option Pair) → IsUp i s met → i ≤ hi → LeadsNear m (after_at t i) s next →
      IsLeastMatch g.places (λ k. Comes W origin (k, i)) next.matched
  least i s next met v le l =
      gather_law.tells_over g t hi root origin i s next l.0 ok same le (within i v.low) v.gathers
      (any_root g.places root s next (sides_near g.needs g.terminator (after_at t i) l.0) (rooted_so s v.on) l.1)

  -- with it, the last so far
  later : (i : ℕ) (s next : State) (met : Option Pair) → IsUp i s met → i ≤ hi → LeadsNear m (after_at t i) s next →
      IsLastSoFar g t hi origin (i + 1) (position_of (best_at i next.matched met))
  later i s next met v le l =
      subst (λ o. IsLastSoFar g t hi origin (i + 1) o) (sym (same_position i next.matched met))
      (greatest_span_law.later g t hi origin i next.matched (position_of met) (least i s next met v le l) v.last)

  runs_up : {i : ℕ} {s : State} {met : Option Pair} → RunsOver a m t hi from first i s met → IsUp i s met
  runs_up begun = record {
    low = omega arith;
    high = inl f.list;
    on = f.goes_on;
    gathers = begins;
    last = λ y lt h. let b = behind h.1 in absurd (omega (arith, lt, b));
  }
  runs_up (goes_on {met} i s next r lt may step) =
      let v = runs_up r in
      let low = v.low in
      let l = across_ahead a m t hi i lt (within i v.low) may s next step in
      let n = any_root g.places root s next (sides_ahead g t i) (rooted_so s v.on) l in
      let on : next.goes_on ≡ not once = n.goes_on ∙ v.on in
      record {
        low = omega (arith, low);
        high = inr (omega (arith, lt));
        on = on;
        gathers = gather_law.goes_over g t hi root origin i s next ok same lt (within i v.low) (λ q. next_starts i q next.goes_on v.low lt on) v.gathers n;
        last = later i s next met v (omega (arith, lt)) (told_side g.needs g.terminator (before_at t (i + 1)), l);
      }

  -- from where nothing goes on, the last so far is the last
  stays_last : (i : ℕ) (last : Option ℕ) → i ≤ hi + 1 → ((q y : ℕ) → i ≤ y → ¬ Comes W origin (q, y)) → IsLastSoFar g t hi origin i last →
      IsLastSoFar g t hi origin (hi + 1) last
  stays_last i None le none l = λ y lt h. ⊎_elim (λ a. l y a h) (λ ge. none h.0 y ge h.1) (cases_lt y i)
  stays_last i (Some e) le none l = (
    let a = l.0 in omega (arith, a, le),
    l.1,
    λ y a lt h. ⊎_elim (λ b. l.2 y a b h) (λ ge. none h.0 y ge h.1) (cases_lt y i),
  )

  later_none : (i : ℕ) (s : State) (met : Option Pair) → IsUp i s met → is_dead s ≡ true → (q y : ℕ) → i ≤ y → ¬ Comes W origin (q, y)
  later_none i s met v d =
      let n = no_list s d in
      let low = v.low in
      let anchored : once ≡ true = not_not once (sym v.on ∙ n.1) in
      gather_law.dies g t hi origin i s ok v.gathers n.0
      (λ q y h. let e = once_start once root from hi q y anchored h in omega (arith, e, low))
    where
      not_not : (b : Bool) → not b ≡ false → b ≡ true
      not_not true e = refl
      not_not false e = absurd (true≢false e)

  dies : (i : ℕ) (s : State) (met : Option Pair) → IsUp i s met → is_dead s ≡ true → IsLastSoFar g t hi origin (hi + 1) (position_of met)
  dies i s met v d =
      let n = no_list s d in
      let le : i ≤ hi = ⊎_elim (λ e. absurd (some_none (sym e ∙ n.0))) (λ x. x) v.high in
      stays_last i (position_of met) (omega (arith, le)) (later_none i s met v d) v.last
    where
      some_none : root ∷ [] ≡ [] → ⊥
      some_none e = cc

  pub ends : (earliest : Bool) (e : RunEnd) (r : Option Pair) → EndsOver a m t hi from first earliest e → e ≡ met_last r → (earliest ≡ false) ⊎ (r ≡ None) →
      IsLastSoFar g t hi origin (hi + 1) (position_of r)
  ends earliest e r (at_bound {met} s next runs may step) is k =
      subst (λ x. IsLastSoFar g t hi origin (hi + 1) (position_of x)) (same_met is) (later hi s next met (runs_up runs) (omega arith) (near_ahead a m t hi may s next step))
  ends earliest e r (dead {met} i s runs d) is k =
      subst (λ x. IsLastSoFar g t hi origin (hi + 1) (position_of x)) (same_met is) (dies i s met (runs_up runs) d)
  ends earliest e r (early {met} i s t2 runs) is (inl z) = absurd (true≢false (sym t2 ∙ z))
  ends earliest e r (early {met} i s t2 runs) is (inr z) = absurd (none-some met (sym z ∙ sym (same_met is)))
  ends earliest e r (quit i s runs le unread) is k = absurd (stop_no_met is)
  ends earliest e r (rests i s runs le idle) is k = absurd (rest_no_met is)

  -- to which places walks come at a position
  pub comes_here : (i q : ℕ) (s : State) (met : Option Pair) (far : Seen) → i ≤ hi → RunsOver a m t hi from first i s met →
      ComesOver g.places s (sides_near g.needs g.terminator (after_at t i) far) q ↔ Comes W origin (q, i)
  comes_here i q s met far le runs =
      let v = runs_up runs in gather_law.comes_over g t hi origin i s far ok same le (within i v.low) v.gathers q

  -- from where nothing goes on, none comes to any
  pub none_comes : (i : ℕ) (s : State) (met : Option Pair) → RunsOver a m t hi from first i s met → is_dead s ≡ true → (q y : ℕ) → i ≤ y → ¬ Comes W origin (q, y)
  none_comes i s met runs d = later_none i s met (runs_up runs) d

  -- what is met at a position is met by a walk that ends there
  pub meets : (i q : ℕ) (s next : State) (met : Option Pair) → i ≤ hi → RunsOver a m t hi from first i s met → LeadsNear m (after_at t i) s next →
      next.matched ≡ Some q → Comes W origin (q, i) × Stops g.places (q, i)
  meets i q s next met le runs step is =
      let l = subst (λ o. IsLeastMatch g.places (λ k. Comes W origin (k, i)) o) is (least i s next met (runs_up runs) le step) in
      (l.1, l.0)

  -- a search that ends so began within its bound
  pub bounded : (earliest : Bool) (e : RunEnd) → EndsOver a m t hi from first earliest e → e ≡ met_last None → from ≤ hi
  bounded earliest e (at_bound s next runs may step) is = (runs_up runs).low
  bounded earliest e (dead i s runs d) is =
      let v = runs_up runs in
      let low = v.low in
      ⊎_elim (λ f. absurd (filled (sym f ∙ (no_list s d).0))) (λ le. omega (arith, le, low)) v.high
    where
      filled : root ∷ [] ≡ [] → ⊥
      filled f = cc
  bounded earliest e (early {met} i s t2 runs) is = absurd (none-some met (sym (same_met is)))
  bounded earliest e (quit i s runs le unread) is = absurd (stop_no_met is)
  bounded earliest e (rests i s runs le idle) is = absurd (rest_no_met is)
