-- Runs backwards.
use Rattle.std.proofs.Common.{◌≡◌, ℕ, ◌+◌, ◌<◌, ◌≤◌, ◌⊎◌, Bool, false, true≢false, List, [], ◌∷◌, Option, Some, None, inl, inr, ⊎_elim, sym, subst, ◌∙◌, refl, arith}
use Rattle.std.proofs.lemmas.Bool.{cases_lt, cases_eq}
use Rattle.std.proofs.lemmas.Option.{none-some}
use Rattle.rc_text.specs.declared.types.Anchored.{Anchored}
use Rattle.rc_text.specs.declared.types.Anchored.TheVariants.{No, Yes, Pattern}
use Rattle.rc_text.specs.Plain.{only_pattern}
use Rattle.rc_walks.specs.Walks.{Pair}
use Rattle.rc_program.specs.Text.{Text, before_at, after_at}
use Rattle.rc_program.specs.Program.{place_at, ways}
use Rattle.rc_program.proofs.WayLemmas.{same_pair}
use Rattle.rc_determinize.specs.Steps.{HasPlace}
use Rattle.rc_determinize.specs.declared.sides.Seen.{Seen}
use Rattle.rc_determinize.specs.Sides.{told_side, sides_near}
use Rattle.rc_determinize.specs.States.{Setting, IsSetting, State, IsInside, Stops, sides_behind}
use Rattle.rc_determinize.specs.Backward.{IsFirstRoot, IsLastBeside, IsComing, ReachesEnd, IsLeastSoFar, least_at}
use Rattle.rc_determinize.proofs.Leads.{Leads, listed, leads}
use Rattle.rc_determinize.proofs.RunLemmas.{back_decides}
use Rattle.rc_determinize.proofs.TextLemmas.{near, last}
use Rattle.rc_determinize.proofs.LawLemmas.{backward_law}
use Rattle.rc_dfa.specs.Machine.{Alphabet, Machine, backwards, begins_beside}
use Rattle.rc_dfa.specs.Runs.{RunEnd, met_last, MayReadSide, BeginsBy, RunsDownOver, begun, goes_down, EndsDownOver, at_bound, dead, early, quit, SearchEndsDownOver, ran, unread}
use Rattle.rc_dfa.specs.Laws.{ReachesMatch, IsLeastOf}
use Rattle.rc_dfa.proofs.AlphabetLemmas.{LeadsNear, across_behind, near_behind, begins_back}
use Rattle.rc_dfa.proofs.StartLemmas.{same_met, stop_no_met}
use Rattle.rc_dfa.proofs.FirstLemmas.{no_list}
use Rattle.rc_dfa.proofs.LastLemmas.{accepts}
use Rattle.rc_dfa.proofs.NarrowLemmas.{narrowed, narrow_setting, narrow_prior, narrow_last, reach_is}

none_first : (Holds : ℕ → Type 0) → ((root : ℕ) → ¬ Holds root) → (roots : List ℕ) → IsFirstRoot Holds roots None
none_first Holds none [] = tt
none_first Holds none (root ∷ roots) = (none root, none_first Holds none roots)

no_leads : (W : Pair → List Pair) (i : ℕ) {list : List ℕ} {q : ℕ} → list ≡ [] → Leads W i list q → ⊥
no_leads W i empty (listed q h) = subst (λ l. HasPlace q l) empty h
no_leads W i empty (leads q p h l) = no_leads W i empty l

module _ (a : Alphabet) (only : Option ℕ) (g : Setting) (entries : List ℕ) (ok : IsSetting g) (t : Text) (same : g.terminator ≡ t.terminator) (hi lo end : ℕ)
    (inside : IsInside t lo hi) (within : end ≤ hi) where
  abbrev m : Machine
  m = record { setting = g; entries = entries; direction = backwards; alphabet = a }

  -- over the program whose other patterns have no match place
  abbrev n : Setting
  n = narrowed only g

  fine : IsSetting n
  fine = narrow_setting only g ok

  module _ (first : State) (begins : IsComing n t hi end end first) where
    record IsDown (i : ℕ) (s : State) (least : Option (ℕ × ℕ)) : Type 0 where
      below : i ≤ end
      coming : IsComing n t hi end i s
      so_far : IsLeastSoFar n t hi end entries (i + 1) least
      above : (least ≡ None) ⊎ (lo ≤ i)

    -- with what is met here, the least so far
    lower : (i : ℕ) (s next : State) (least : Option (ℕ × ℕ)) → lo ≤ i → IsDown i s least → LeadsNear m (before_at t i) s next →
        IsLeastSoFar n t hi end entries i (least_at i next.matched least)
    lower i s next least low v l =
        let below = v.below in
        let here : IsInside t i hi = record { low = let l = inside.low in omega (arith, l, low); high = inside.high; bounded = inside.bounded } in
        backward_law.lowers n t hi end i entries next.matched least v.below
        (backward_law.tells_over n t hi end i entries s next l.0 fine same within (omega (arith, below, within)) here v.coming
        (narrow_prior only g entries s next (sides_near g.needs g.terminator (before_at t i) l.0) l.1))
        v.so_far

    runs_down : {i : ℕ} {s : State} {least : Option (ℕ × ℕ)} → RunsDownOver a m t lo end first i s least → IsDown i s least
    runs_down begun = record { below = omega arith; coming = begins; so_far = λ y a b. absurd (omega (arith, a, b)); above = inl refl }
    runs_down (goes_down {least} i s next r le may step) =
        let v = runs_down r in
        let below = v.below in
        let here : IsInside t i hi = record { low = let l = inside.low in omega (arith, l, le); high = inside.high; bounded = inside.bounded } in
        let l = across_behind a m t hi i (omega (arith, below, within)) here may s next step in
        record {
          below = omega (arith, below);
          coming = backward_law.descends_over n t hi end i entries s next fine same within (omega (arith, below)) here v.coming
              (narrow_prior only g entries s next (sides_behind g t i) l);
          so_far = lower (i + 1) s next least (omega (arith, le)) v (told_side g.needs g.terminator (after_at t i), l);
          above = inr le;
        }

    -- from where nothing goes on, nothing is met
    nothing : (i : ℕ) (s : State) (least : Option (ℕ × ℕ)) → IsDown i s least → s.list ≡ [] → (y : ℕ) → y ≤ i → (root : ℕ) → ¬ ReachesEnd n t hi end y root
    nothing i s least v empty y le root =
        ⊎_elim
        (λ e. subst (λ k. ¬ ReachesEnd n t hi end k root) (sym e) (λ z. no_leads (ways n.places t hi) i empty
        ((back_decides (ways n.places t hi) (Stops n.places) same_pair (last n.places t hi None) (near n.places t hi (let f = fine in f.by_bytes)) end i s.list
        (let c = v.coming in c.list) root).1 z)))
        (λ ne. backward_law.dies n t hi end i y root s fine v.coming empty v.below (omega (arith, le, ne)))
        (cases_eq y i)

    stays_least : (i : ℕ) (least : Option (ℕ × ℕ)) → (least ≡ None) ⊎ (lo ≤ i) → ((y : ℕ) → y ≤ i → (root : ℕ) → ¬ ReachesEnd n t hi end y root) →
        IsLeastSoFar n t hi end entries (i + 1) least → IsLeastSoFar n t hi end entries lo least
    stays_least i None above none l = λ y a b.
        ⊎_elim (λ lt. none_first (ReachesEnd n t hi end y) (none y (omega (arith, lt))) entries) (λ ge. l y ge b) (cases_lt y (i + 1))
    stays_least i (Some k) above none l = (
      ⊎_elim (λ e. absurd (none-some k (sym e))) (λ low. let a = l.0 in omega (arith, a, low)) above,
      l.1,
      l.2,
      λ y a b. ⊎_elim (λ lt. none_first (ReachesEnd n t hi end y) (none y (omega (arith, lt))) entries) (λ ge. l.3 y ge b) (cases_lt y (i + 1)),
    )

    pub ends : (earliest : Bool) (e : RunEnd) (r : Option (ℕ × ℕ)) → EndsDownOver a m t lo end first earliest e → e ≡ met_last r → (earliest ≡ false) ⊎ (r ≡ None) →
        IsLeastSoFar n t hi end entries lo r
    ends earliest e r (at_bound {least} s next runs may step) is k =
        subst (λ x. IsLeastSoFar n t hi end entries lo x) (same_met is) (lower lo s next least (omega arith) (runs_down runs) (near_behind a m t lo may s next step))
    ends earliest e r (dead {least} i s runs d) is k =
        let v = runs_down runs in
        subst (λ x. IsLeastSoFar n t hi end entries lo x) (same_met is) (stays_least i least v.above (nothing i s least v (no_list s d).0) v.so_far)
    ends earliest e r (early {least} i s t2 runs) is (inl z) = absurd (true≢false (sym t2 ∙ z))
    ends earliest e r (early {least} i s t2 runs) is (inr z) = absurd (none-some least (sym z ∙ sym (same_met is)))
    ends earliest e r (quit p s runs le not_read) is k = absurd (stop_no_met is)

    abbrev IsMetDown : Option (ℕ × ℕ) → Type 0
    IsMetDown None = Unit {0}
    IsMetDown (Some k) = (lo ≤ k.0) × (k.0 ≤ end) × IsFirstRoot (ReachesEnd n t hi end k.0) entries (Some k.1)

    by_least : (least : Option (ℕ × ℕ)) → IsLeastSoFar n t hi end entries lo least → IsMetDown least
    by_least None l = tt
    by_least (Some k) l = (l.0, l.1, l.2)

    pub meets : (earliest : Bool) (e : RunEnd) (k : ℕ × ℕ) → EndsDownOver a m t lo end first earliest e → e ≡ met_last (Some k) → IsMetDown (Some k)
    meets earliest e k (at_bound {least} s next runs may step) is =
        subst IsMetDown (same_met is) (by_least (least_at lo next.matched least) (ends false (met_last (least_at lo next.matched least)) (least_at lo next.matched least) (at_bound s next runs may step) refl (inl refl)))
    meets earliest e k (dead {least} i s runs d) is =
        subst IsMetDown (same_met is) (by_least least (ends false (met_last least) least (dead i s runs d) refl (inl refl)))
    meets earliest e k (early {least} i s t2 runs) is =
        let v = runs_down runs in
        let l = v.so_far in
        let a = l.0 in
        subst IsMetDown (same_met is)
        (⊎_elim (λ z. absurd (none-some least (sym z))) (λ low. omega (arith, a, low)) v.above, l.1, l.2)
    meets earliest e k (quit p s runs le not_read) is = absurd (stop_no_met is)

-- a search begins at the match places, of the one pattern that is asked for or of all
comes_at : (g : Setting) (entries : List ℕ) (anchored : Anchored) (facts : Seen) (s : State) →
    begins_beside backwards g.places entries anchored facts s → IsLastBeside (let n = narrowed (only_pattern anchored) g in n.places) facts s
comes_at g entries No facts s h = narrow_last None g facts s h.list h.rising h.matched h.goes_on h.beside
comes_at g entries Yes facts s h = narrow_last None g facts s h.list h.rising h.matched h.goes_on h.beside
comes_at g entries (Pattern p) facts s h =
    narrow_last (Some p) g facts s
    (λ q. let l = h.list q in let a = accepts p (place_at g.places q) in ((λ x. a.1 (l.0 x)), (λ x. l.1 (a.0 x))))
    h.rising h.matched h.goes_on h.beside

module _ (a : Alphabet) (g : Setting) (entries : List ℕ) (ok : IsSetting g) (t : Text) (same : g.terminator ≡ t.terminator) (hi lo end : ℕ)
    (inside : IsInside t lo hi) (within : end ≤ hi) (anchored : Anchored) where
  abbrev machine : Machine
  machine = record { setting = g; entries = entries; direction = backwards; alphabet = a }

  abbrev only : Option ℕ
  only = only_pattern anchored

  begins_down : (s : State) → MayReadSide a machine (after_at t end) → BeginsBy a machine anchored (after_at t end) s →
      IsComing (narrowed only g) t hi end end s
  begins_down s may h =
      backward_law.comes_beside (narrowed only g) t hi end s (narrow_setting only g ok) same within
      (comes_at g entries anchored (told_side g.needs g.terminator (after_at t end)) s (begins_back a machine anchored t end s may h))

  least_of : (roots : List ℕ) (i : ℕ) (r : Option (ℕ × ℕ)) → IsLeastSoFar (narrowed only g) t hi end roots i r → IsLeastOf only g t hi end roots i r
  least_of roots i None l =
      subst (λ (R : ℕ → ℕ → Type 0). (y : ℕ) → i ≤ y → y ≤ end → IsFirstRoot (R y) roots None) (reach_is only g t hi end) l
  least_of roots i (Some k) l =
      subst (λ (R : ℕ → ℕ → Type 0). (i ≤ k.0) × (k.0 ≤ end) × IsFirstRoot (R k.0) roots (Some k.1)
      × ((y : ℕ) → i ≤ y → y < k.0 → IsFirstRoot (R y) roots None)) (reach_is only g t hi end) l

  pub least_run : (earliest : Bool) (e : RunEnd) (r : Option (ℕ × ℕ)) → SearchEndsDownOver a machine t lo end anchored earliest e → e ≡ met_last r →
      (earliest ≡ false) ⊎ (r ≡ None) → IsLeastOf only g t hi end entries lo r
  least_run earliest e r (ran s may begins ended) is k =
      least_of entries lo r (ends a only g entries ok t same hi lo end inside within s (begins_down s may begins) earliest e r ended is k)
  least_run earliest e r (unread may) is k = absurd (stop_no_met is)

  pub met_run : (earliest : Bool) (e : RunEnd) (k : ℕ × ℕ) → SearchEndsDownOver a machine t lo end anchored earliest e → e ≡ met_last (Some k) →
      (lo ≤ k.0) × (k.0 ≤ end) × IsFirstRoot (ReachesMatch only g t hi end k.0) entries (Some k.1)
  met_run earliest e k (ran s may begins ended) is =
      subst (λ (R : ℕ → ℕ → Type 0). (lo ≤ k.0) × (k.0 ≤ end) × IsFirstRoot (R k.0) entries (Some k.1)) (reach_is only g t hi end)
      (meets a only g entries ok t same hi lo end inside within s (begins_down s may begins) earliest e k ended is)
  met_run earliest e k (unread may) is = absurd (stop_no_met is)

pub of_any : (g : Setting) (t : Text) (hi end : ℕ) (roots : List ℕ) (lo : ℕ) (r : Option (ℕ × ℕ)) → IsLeastOf None g t hi end roots lo r →
    IsLeastSoFar g t hi end roots lo r
of_any g t hi end roots lo None l = l
of_any g t hi end roots lo (Some k) l = l
