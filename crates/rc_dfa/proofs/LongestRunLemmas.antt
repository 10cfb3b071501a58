-- Runs forwards, where the longest match of the least start is sought.
use Rattle.std.proofs.Common.{◌≡◌, ℕ, ◌<◌, ◌≤◌, ◌⊎◌, Bool, true, false, true≢false, ◌&&◌, List, [], ◌∷◌, ◌++◌, length, Option, None, is_none, inl, inr, sym, subst, ap, ◌∙◌, refl, arith}
use Rattle.std.proofs.lemmas.Option.{none-some, get_or_from_slice_get}
use Rattle.rc_text.specs.declared.types.MatchKind.TheVariants.{LeftmostLongest as leftmost_longest}
use Rattle.rc_text.specs.declared.types.Anchored.{Anchored}
use Rattle.rc_text.specs.declared.types.Anchored.TheVariants.{No, Yes, Pattern}
use Rattle.rc_walks.specs.Walks.{Pair}
use Rattle.rc_program.specs.Text.{Text, after_at}
use Rattle.rc_program.specs.Program.{Place, ways}
use Rattle.rc_program.specs.Laws.{IsClosed}
use Rattle.rc_determinize.specs.declared.sides.Seen.{Seen}
use Rattle.rc_determinize.specs.declared.sides.Sides.{Sides}
use Rattle.rc_determinize.specs.Sides.{sides_near}
use Rattle.rc_determinize.specs.States.{Setting, IsSetting, State, IsInside, Stops, sides_ahead}
use Rattle.rc_determinize.specs.Longest.{AddsGroups, root_group, IsNextOfLongestOver}
use Rattle.rc_determinize.specs.LongestLaws.{IsRacing, GivesLongest}
use Rattle.rc_determinize.proofs.LongestStepLemmas.{longest_forward_law}
use Rattle.rc_dfa.specs.Machine.{Alphabet, Machine, forwards, begins_beside, IsMachine}
use Rattle.rc_dfa.specs.Runs.{RunEnd, met_last, RunsOver, begun, goes_on, EndsOver, at_bound, dead, early, quit, rests}
use Rattle.rc_dfa.proofs.AlphabetLemmas.{across_ahead, near_ahead}
use Rattle.rc_dfa.proofs.StartLemmas.{IsRoot, same_met, stop_no_met, rest_no_met}
use Rattle.rc_dfa.proofs.FirstLemmas.{no_list}
use Rattle.rc_dfa.proofs.WithinLemmas.{entry_below}

-- where no walk may begin later, it is all the same where it would
any_root : (places : List Place) (root : ℕ) (s next : State) (sides : Sides) → (root ≡ 0) ⊎ (s.goes_on ≡ false) →
    IsNextOfLongestOver places 0 s sides next → IsNextOfLongestOver places root s sides next × ((root ≡ 0) ⊎ (next.goes_on ≡ false))
any_root places root s next sides (inl e) n = (subst (λ r. IsNextOfLongestOver places r s sides next) (sym e) n, inl e)
any_root places root s next sides (inr f) n =
    let d : next.goes_on ≡ false = n.goes_on ∙ ap (λ b. b && is_none next.matched) f in (
      record {
        onward = n.onward;
        groups = n.groups;
        steps = n.steps;
        goes_on = n.goes_on;
        once = subst (λ l. AddsGroups [] (n.onward ++ l) n.groups) (ap (λ b. root_group b 0) d ∙ sym (ap (λ b. root_group b root) d)) n.once;
        list = n.list;
        beside = n.beside;
      },
      inr d,
    )

-- the root from which a search begins is a place
pub placed_root : (a : Alphabet) (g : Setting) (entries : List ℕ) (anchored : Anchored) (facts : Seen) (from hi : ℕ) (first : State) →
    let m : Machine = record { setting = g; entries = entries; direction = forwards leftmost_longest; alphabet = a } in
    IsMachine m → begins_beside (forwards leftmost_longest) g.places entries anchored facts first → (b : IsRoot m anchored facts from hi first) × (b.root < length g.places)
placed_root a g entries No facts from hi first k h =
    (record { root = 0; once = false; is_first = h; starts = refl; rooted = inl refl }, k.rooted)
placed_root a g entries Yes facts from hi first k h =
    (record { root = 0; once = true; is_first = h; starts = refl; rooted = inl refl }, k.rooted)
placed_root a g entries (Pattern p) facts from hi first k h = (
  record { root = h.0; once = true; is_first = h.2; starts = ap (λ e. (e, from) ∷ []) (get_or_from_slice_get entries p h.0 0 h.1); rooted = inr refl },
  entry_below (record { setting = g; entries = entries; direction = forwards leftmost_longest; alphabet = a }) p h.0 k h.1,
)

module _ (a : Alphabet) (g : Setting) (entries : List ℕ) (ok : IsSetting g) (closed : IsClosed g.places) (t : Text) (same : g.terminator ≡ t.terminator) (hi from root : ℕ)
    (placed : root < length g.places) (inside : IsInside t from hi) (origin : List Pair) (first : State) (u : IsRacing g t hi root origin from first None)
    (rooted : (root ≡ 0) ⊎ (first.goes_on ≡ false)) where
  abbrev m : Machine
  m = record { setting = g; entries = entries; direction = forwards leftmost_longest; alphabet = a }

  pub runs_on : {i : ℕ} {s : State} {met : Option Pair} → RunsOver a m t hi from first i s met →
      (from ≤ i) × IsRacing g t hi root origin i s met × ((root ≡ 0) ⊎ (s.goes_on ≡ false))
  runs_on begun = (omega arith, u, rooted)
  runs_on (goes_on {met} i s next r lt may step) =
      let h = runs_on r in
      let low = h.0 in
      let here : IsInside t i hi = record { low = let l = inside.low in omega (arith, l, low); high = inside.high; bounded = inside.bounded } in
      let n = any_root g.places root s next (sides_ahead g t i) h.2 (across_ahead a m t hi i lt here may s next step) in
      (omega (arith, low), longest_forward_law.goes_over g t hi root origin i s next met ok closed placed same lt here h.1 n.0, n.1)

  -- how it ends
  pub ends : (earliest : Bool) (e : RunEnd) (r : Option Pair) → EndsOver a m t hi from first earliest e → e ≡ met_last r → (earliest ≡ false) ⊎ (r ≡ None) →
      GivesLongest (ways g.places t hi) (Stops g.places) origin r
  ends earliest e r (at_bound {met} s next runs may step) is k =
      let h = runs_on runs in
      let l = near_ahead a m t hi may s next step in
      let n = any_root g.places root s next (sides_near g.needs g.terminator (after_at t hi) l.0) h.2 l.1 in
      subst (λ x. GivesLongest (ways g.places t hi) (Stops g.places) origin x) (same_met is)
      (longest_forward_law.ends_over g t hi root origin s next met l.0 ok same h.1 n.0)
  ends earliest e r (dead {met} i s runs d) is k =
      let h = runs_on runs in
      let n = no_list s d in
      subst (λ x. GivesLongest (ways g.places t hi) (Stops g.places) origin x) (same_met is)
      (longest_forward_law.dies g t hi root origin i s met ok same h.1 n.0 n.1)
  ends earliest e r (early {met} i s t2 runs) is (inl f) = absurd (true≢false (sym t2 ∙ f))
  ends earliest e r (early {met} i s t2 runs) is (inr f) = absurd (none-some met (sym f ∙ sym (same_met is)))
  ends earliest e r (quit i s runs le unread) is k = absurd (stop_no_met is)
  ends earliest e r (rests i s runs le idle) is k = absurd (rest_no_met is)
