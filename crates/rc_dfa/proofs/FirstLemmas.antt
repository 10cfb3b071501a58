-- Runs forwards, where the preferred match is sought.
use Rattle.std.proofs.Common.{◌≡◌, ℕ, ◌≤◌, ◌⊎◌, Bool, true, false, true≢false, not, ◌&&◌, List, [], ◌∷◌, Option, None, is_none, inl, inr, sym, subst, ap, ◌∙◌, refl, arith}
use Rattle.std.proofs.lemmas.Option.{none-some}
use Rattle.rc_text.specs.declared.types.MatchKind.TheVariants.{LeftmostFirst as leftmost_first}
use Rattle.rc_walks.specs.Walks.{Pair}
use Rattle.rc_program.specs.Text.{Text, after_at}
use Rattle.rc_program.specs.Program.{Place, ways}
use Rattle.rc_determinize.specs.Gives.{Gives}
use Rattle.rc_determinize.specs.Steps.{Adds}
use Rattle.rc_determinize.specs.declared.sides.Sides.{Sides}
use Rattle.rc_determinize.specs.Sides.{sides_near}
use Rattle.rc_determinize.specs.States.{Setting, IsSetting, State, IsNextOver, IsInside, IsUnderWay, Stops, root_if, sides_ahead}
use Rattle.rc_determinize.proofs.LawLemmas.{forward_law}
use Rattle.rc_dfa.specs.Machine.{Alphabet, Machine, forwards, is_empty, is_dead}
use Rattle.rc_dfa.specs.Runs.{RunEnd, met_last, RunsOver, begun, goes_on, EndsOver, at_bound, dead, early, quit, rests}
use Rattle.rc_dfa.proofs.AlphabetLemmas.{across_ahead, near_ahead}
use Rattle.rc_dfa.proofs.StartLemmas.{same_met, stop_no_met, rest_no_met}

-- where no walk may begin later, it is all the same where it would
any_root : (places : List Place) (root : ℕ) (s next : State) (sides : Sides) → (root ≡ 0) ⊎ (s.goes_on ≡ false) → IsNextOver places 0 s sides next →
    IsNextOver places root s sides next × ((root ≡ 0) ⊎ (next.goes_on ≡ false))
any_root places root s next sides (inl e) n = (subst (λ r. IsNextOver places r s sides next) (sym e) n, inl e)
any_root places root s next sides (inr f) n =
    let d : next.goes_on ≡ false = n.goes_on ∙ ap (λ b. b && is_none next.matched) f in (
      record {
        next = n.next;
        is_step = n.is_step;
        goes_on = n.goes_on;
        joined = subst (λ l. Adds n.next l next.list) (ap (λ b. root_if b 0) d ∙ sym (ap (λ b. root_if b root) d)) n.joined;
        beside = n.beside;
      },
      inr d,
    )

pub no_list : (s : State) → is_dead s ≡ true → (s.list ≡ []) × (s.goes_on ≡ false)
no_list s d = by_list s.list s.goes_on d
  where
    by_list : (l : List ℕ) (b : Bool) → (is_empty l && not b) ≡ true → (l ≡ []) × (b ≡ false)
    by_list [] true h = absurd (true≢false (sym h))
    by_list [] false h = (refl, refl)
    by_list (x ∷ l) b h = absurd (true≢false (sym h))

module _ (a : Alphabet) (g : Setting) (entries : List ℕ) (ok : IsSetting g) (t : Text) (same : g.terminator ≡ t.terminator) (hi from root : ℕ) (inside : IsInside t from hi)
    (origin : List Pair) (first : State) (u : IsUnderWay g t hi root origin from first None) (rooted : (root ≡ 0) ⊎ (first.goes_on ≡ false)) where
  abbrev m : Machine
  m = record { setting = g; entries = entries; direction = forwards leftmost_first; alphabet = a }

  runs_on : {i : ℕ} {s : State} {met : Option Pair} → RunsOver a m t hi from first i s met →
      (from ≤ i) × IsUnderWay g t hi root origin i s met × ((root ≡ 0) ⊎ (s.goes_on ≡ false))
  runs_on begun = (omega arith, u, rooted)
  runs_on (goes_on {met} i s next r lt may step) =
      let h = runs_on r in
      let low = h.0 in
      let here : IsInside t i hi = record { low = let l = inside.low in omega (arith, l, low); high = inside.high; bounded = inside.bounded } in
      let n = any_root g.places root s next (sides_ahead g t i) h.2 (across_ahead a m t hi i lt here may s next step) in
      (omega (arith, low), forward_law.goes_over g t hi root origin i s next met ok same lt here h.1 n.0, n.1)

  -- how it ends
  pub ends : (earliest : Bool) (e : RunEnd) (r : Option Pair) → EndsOver a m t hi from first earliest e → e ≡ met_last r → (earliest ≡ false) ⊎ (r ≡ None) →
      Gives (ways g.places t hi) (Stops g.places) [] origin r
  ends earliest e r (at_bound {met} s next runs may step) is k =
      let h = runs_on runs in
      let l = near_ahead a m t hi may s next step in
      let n = any_root g.places root s next (sides_near g.needs g.terminator (after_at t hi) l.0) h.2 l.1 in
      subst (λ x. Gives (ways g.places t hi) (Stops g.places) [] origin x) (same_met is)
      (forward_law.ends_over g t hi root origin s next met l.0 ok same h.1 n.0)
  ends earliest e r (dead {met} i s runs d) is k =
      let h = runs_on runs in
      let n = no_list s d in
      subst (λ x. Gives (ways g.places t hi) (Stops g.places) [] origin x) (same_met is)
      (forward_law.dies g t hi root origin i s met ok same h.1 n.0 n.1)
  ends earliest e r (early {met} i s t2 runs) is (inl f) = absurd (true≢false (sym t2 ∙ f))
  ends earliest e r (early {met} i s t2 runs) is (inr f) = absurd (none-some met (sym f ∙ sym (same_met is)))
  ends earliest e r (quit i s runs le unread) is k = absurd (stop_no_met is)
  ends earliest e r (rests i s runs le idle) is k = absurd (rest_no_met is)
