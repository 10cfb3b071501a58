-- From state to state.
use Rattle.std.proofs.Common.{◌≡◌, ℕ, suc, ◌+◌, ◌-◌, ◌<◌, ◌⊎◌, List, [], ◌∷◌, ◌++◌, map, Option, Some, None, Bool, true, false, ◌&&◌, is_none, sym, subst, ap, ap₂, ◌∙◌, refl, arith}
use Rattle.rc_walks.specs.Walks.{Pair, IsIn}
use Rattle.rc_program.specs.Text.{Text, before_at, after_at}
use Rattle.rc_program.specs.Program.{Way, pair_at, ways}
use Rattle.rc_program.proofs.WayLemmas.{same_pair}
use Rattle.rc_determinize.specs.Gives.{Gives, Carries, starts}
use Rattle.rc_determinize.specs.Steps.{Adds, all_added, IsStep, at}
use Rattle.rc_determinize.specs.declared.sides.Seen.{Seen}
use Rattle.rc_determinize.specs.Sides.{told_side, sides_near, out_over}
use Rattle.rc_determinize.specs.States.{Setting, IsSetting, State, is_match, root_if, IsNextOver, IsFirstBeside, sides_ahead, Stops, later_starts, all_starts, best_at, IsInside, IsUnderWay}
use Rattle.rc_determinize.proofs.PassLemmas.{sets_out, arrives_last}
use Rattle.rc_determinize.proofs.RunLemmas.{starts_from, rises}
use Rattle.rc_determinize.proofs.PositionLemmas.{goes_by, start_joins, stops_by, ends_by}
use Rattle.rc_determinize.proofs.TextLemmas.{out_here, same_below, same_at_end, near, last}

same_added : {next list : List ℕ} → Adds next [] list → next ≡ list
same_added all_added = refl

module _ (g : Setting) (ok : IsSetting g) (t : Text) (terminator : g.terminator ≡ t.terminator) (hi root : ℕ)
    (origin : List Pair) where
  last_here : (n m : Pair) → Stops g.places n → ¬ IsIn m (ways g.places t hi n)
  last_here = last g.places t hi None

  near_here : (n m : Pair) → IsIn m (ways g.places t hi n) → (m.1 ≡ n.1) ⊎ (m.1 ≡ n.1 + 1)
  near_here = near g.places t hi ok.by_bytes

  goes_on_by : (i : ℕ) (out : ℕ → List Way) → i < hi → ((q : ℕ) → ways g.places t hi (q, i) ≡ map (pair_at i) (out q)) →
      (goes_on : Bool) (matched : Option ℕ) (list next list2 : List ℕ) (best : Option Pair) →
      IsStep out (is_match g.places) list next matched → Adds next (root_if (goes_on && is_none matched) root) list2 →
      Carries (ways g.places t hi) (Stops g.places) origin (at i list ++ later_starts goes_on root i hi) best →
      Carries (ways g.places t hi) (Stops g.places) origin
      (at (i + 1) list2 ++ later_starts (goes_on && is_none matched) root (i + 1) hi) (best_at i matched best)
  goes_on_by i out lt same true None list next list2 best step added c =
      let e : hi - i ≡ suc (hi - (i + 1)) = omega (arith, lt) in
      start_joins (ways g.places t hi) (Stops g.places) same_pair last_here near_here i out (is_match g.places) (λ q. refl) list next origin best
      root (hi - (i + 1)) list2 added
      (subst (λ n. Carries (ways g.places t hi) (Stops g.places) origin (at (i + 1) next ++ starts root (i + 1) n) best) e
      (goes_by (ways g.places t hi) (Stops g.places) same_pair last_here near_here i out (is_match g.places) (λ q. refl) list next origin best
      same step (starts root (i + 1) (hi - i)) (λ n h. let a = starts_from root (i + 1) (hi - i) n h in omega (arith, a)) c))
  goes_on_by i out lt same false None list next list2 best step added c =
      subst (λ xs. Carries (ways g.places t hi) (Stops g.places) origin (at (i + 1) xs ++ []) best) (same_added added)
      (goes_by (ways g.places t hi) (Stops g.places) same_pair last_here near_here i out (is_match g.places) (λ q. refl) list next origin best
      same step [] (λ n h. absurd h) c)
  goes_on_by i out lt same true (Some e) list next list2 best step added c =
      subst (λ xs. Carries (ways g.places t hi) (Stops g.places) origin (at (i + 1) xs ++ []) (Some (e, i))) (same_added added)
      (stops_by (ways g.places t hi) (Stops g.places) same_pair last_here near_here i out (is_match g.places) (λ q. refl) list next origin best
      e same step (starts root (i + 1) (hi - i)) c)
  goes_on_by i out lt same false (Some e) list next list2 best step added c =
      subst (λ xs. Carries (ways g.places t hi) (Stops g.places) origin (at (i + 1) xs ++ []) (Some (e, i))) (same_added added)
      (stops_by (ways g.places t hi) (Stops g.places) same_pair last_here near_here i out (is_match g.places) (λ q. refl) list next origin best
      e same step [] c)

  -- what the table's step reads is what stands there
  told_here : (i : ℕ) (s : State) (best : Option Pair) (far : Seen) → IsUnderWay g t hi root origin i s best →
      out_over g.places s.beside (sides_near g.needs g.terminator (after_at t i) far) ≡ out_here g.places g.needs ok.by_bytes ok.covers t i
  told_here i s best far u =
      ap₂ (λ x b. out_over g.places b (sides_near g.needs x (after_at t i) far)) terminator u.beside

  -- before the first byte
  pub begins : (lo : ℕ) (anchored : Bool) (s : State) → IsFirstBeside root (told_side g.needs g.terminator (before_at t lo)) anchored s →
      origin ≡ all_starts anchored root lo hi → IsUnderWay g t hi root origin lo s None
  begins lo anchored s f e = record {
    carries = subst (λ xs. Carries (ways g.places t hi) (Stops g.places) xs (at lo s.list ++ later_starts s.goes_on root lo hi) None) (sym e)
        (subst (λ xs. Carries (ways g.places t hi) (Stops g.places) (all_starts anchored root lo hi) (at lo xs ++ later_starts s.goes_on root lo hi) None) (sym f.list)
        (subst (λ b. Carries (ways g.places t hi) (Stops g.places) (all_starts anchored root lo hi) ((root, lo) ∷ later_starts b root lo hi) None) (sym f.goes_on)
        (sets_out (ways g.places t hi) (Stops g.places) same_pair last_here (rises (ways g.places t hi) (Stops g.places) same_pair last_here near_here) (all_starts anchored root lo hi))));
    beside = f.beside ∙ ap (λ x. told_side g.needs x (before_at t lo)) terminator;
  }

  -- THE STEP
  pub goes : (i : ℕ) (s s2 : State) (best : Option Pair) → i < hi → IsInside t i hi → IsUnderWay g t hi root origin i s best →
      IsNextOver g.places root s (sides_ahead g t i) s2 →
      IsUnderWay g t hi root origin (i + 1) s2 (best_at i s2.matched best)
  goes i s s2 best lt inside u n =
      let high = inside.high in let bounded = inside.bounded in
      record {
        carries = subst (λ b. Carries (ways g.places t hi) (Stops g.places) origin (at (i + 1) s2.list ++ later_starts b root (i + 1) hi) (best_at i s2.matched best))
            (sym n.goes_on)
            (goes_on_by i (out_here g.places g.needs ok.by_bytes ok.covers t i) lt
            (same_below g.places g.needs ok.by_bytes ok.covers t i hi lt high bounded) s.goes_on s2.matched s.list n.next s2.list best
            (subst (λ o. IsStep o (is_match g.places) s.list n.next s2.matched) (told_here i s best (told_side g.needs g.terminator (before_at t (i + 1))) u) n.is_step)
            (subst (λ b. Adds n.next (root_if b root) s2.list) n.goes_on n.joined) u.carries);
        beside = n.beside ∙ ap (λ x. told_side g.needs x (before_at t (i + 1))) terminator;
      }

  no_later : (goes_on : Bool) → later_starts goes_on root hi hi ≡ []
  no_later true = let e : 0 ≡ hi - hi = omega arith in subst (λ n. starts root (hi + 1) n ≡ []) e refl
  no_later false = refl

  -- at the bound: the byte that stands behind it, if one does, is looked at, and not read
  pub ends : (s s2 : State) (best : Option Pair) (far : Seen) → IsUnderWay g t hi root origin hi s best →
      IsNextOver g.places root s (sides_near g.needs g.terminator (after_at t hi) far) s2 →
      Gives (ways g.places t hi) (Stops g.places) [] origin (best_at hi s2.matched best)
  ends s s2 best far u n =
      ends_by (ways g.places t hi) (Stops g.places) same_pair last_here near_here hi
      (out_here g.places g.needs ok.by_bytes ok.covers t hi) (is_match g.places) (λ q. refl) s.list n.next origin best s2.matched
      (same_at_end g.places g.needs ok.by_bytes ok.covers t hi)
      (subst (λ o. IsStep o (is_match g.places) s.list n.next s2.matched) (told_here hi s best far u) n.is_step)
      (subst (λ xs. Carries (ways g.places t hi) (Stops g.places) origin (at hi s.list ++ xs) best) (no_later s.goes_on) u.carries)

  -- a state from which nothing goes on
  pub dies : (i : ℕ) (s : State) (best : Option Pair) → IsUnderWay g t hi root origin i s best → s.list ≡ [] → s.goes_on ≡ false →
      Gives (ways g.places t hi) (Stops g.places) [] origin best
  dies i s best u empty done =
      arrives_last (ways g.places t hi) (Stops g.places) same_pair last_here (rises (ways g.places t hi) (Stops g.places) same_pair last_here near_here) origin best
      (subst (λ xs. Carries (ways g.places t hi) (Stops g.places) origin (at i xs ++ []) best) empty
      (subst (λ b. Carries (ways g.places t hi) (Stops g.places) origin (at i s.list ++ later_starts b root i hi) best) done u.carries))
