-- The last end that is met forwards, and the least start from there, are those of the greatest span.
use Rattle.std.proofs.Common.{◌≡◌, ℕ, ◌+◌, ◌-◌, ◌<◌, ◌≤◌, false, true≢false, List, [], ◌∷◌, length, Option, Some, None, IsTrue, inl, inr, ⊎_elim, sym, subst, ap, ap₂, ◌∙◌, refl, arith, eq-eqb, eqb-true}
use Rattle.std.specs.Prelude.{slice_index}
use Rattle.std.proofs.lemmas.Bool.{cases_lt, cases_eq}
use Rattle.rc_text.specs.Found.{Found}
use Rattle.rc_text.specs.declared.types.MatchKind.TheVariants.{All as all_matches}
use Rattle.rc_text.specs.declared.types.Anchored.{Anchored}
use Rattle.rc_text.specs.declared.types.Anchored.TheVariants.{No, Yes, Pattern}
use Rattle.rc_text.specs.Plain.{only_pattern, is_anchored as anchors}
use Rattle.rc_pattern.specs.Re.{Re}
use Rattle.rc_walks.specs.Walks.{Pair, IsIn}
use Rattle.rc_program.specs.Program.{accept, is_match_place, ways, program, entry}
use Rattle.rc_program.specs.Answer.{Search, only, is_anchored, IsStart}
use Rattle.rc_program.specs.Greatest.{IsSpelledIn, IsGreatest, greatest}
use Rattle.rc_program.proofs.GreatestLemmas.{spelled_within, greatest_some, greatest_none}
use Rattle.rc_utf8.specs.Bytes.{bytes_of}
use Rattle.rc_utf8.specs.Laws.{by_bytes}
use Rattle.rc_determinize.specs.Run.{Reaches, arrived, goes_on, IsGoal}
use Rattle.rc_determinize.specs.Sets.{Comes}
use Rattle.rc_determinize.specs.Sets as sets
use Rattle.rc_determinize.specs.Spans.{IsSomeMatch, IsLastSoFar, IsSpelled}
use Rattle.rc_determinize.proofs.LawLemmas.{in_starts, starts_in}
use Rattle.rc_dfa.specs.Machine.{Machine, IsAsked}
use Rattle.rc_dfa.specs.Runs.{met_last, SearchEnds, SearchEndsDown}
use Rattle.rc_dfa.specs.Laws.{starts_of, IsLeastOf}
use Rattle.rc_dfa.proofs.RunLemmas.{run_law}
use Rattle.rc_dfa_search.specs.Machines.{entries_of, IsCase}
use Rattle.rc_dfa_search.specs.Laws.{LastLaw}
use Rattle.rc_dfa_search.proofs.CaseLemmas.{length-entries, entry_index, ahead_machine, ahead_direction, ahead_entries, ahead_places, ahead_terminator, back_machine, back_direction, back_terminator, anchored_is, only_is}
use Rattle.rc_dfa_search.proofs.ReverseWays.{MayEnd, LeadsTo, of_some, of_allowed}
use Rattle.rc_dfa_search.proofs.ReverseRoots.{from_entry_of, own_of, spelled_root, spelled_alike}
use Rattle.rc_dfa_search.proofs.ReverseLemmas.{first_met, none_met}

-- WAYS FORWARDS

module _ (W : Pair → List Pair) (origin : List Pair) where
  comes_back : (Goal : Pair → Type 0) {n : Pair} → Comes W origin n → Reaches W Goal n → (m : Pair) × IsIn m origin × Reaches W Goal m
  comes_back Goal (sets.begins n h) r = (n, h, r)
  comes_back Goal (sets.goes n m c e) r = comes_back Goal c (goes_on m n e r)

  comes_on : (Goal : Pair → Type 0) {n : Pair} → Comes W origin n → Reaches W Goal n → (m : Pair) × Comes W origin m × Goal m
  comes_on Goal c (arrived n g) = (n, c, g)
  comes_on Goal c (goes_on n m i more) = comes_on Goal (sets.goes m n c i) more

-- WHERE A SEARCH BEGINS

-- the place by which it enters the program
abbrev root_of : List Re → Anchored → ℕ
root_of hs No = 0
root_of hs Yes = 0
root_of hs (Pattern p) = entry hs p

module _ (hs : List Re) (m : Machine) (s : Search) (same : m.entries ≡ entries_of hs) (ordered : s.lo ≤ s.hi) where
  asked_below : (p : ℕ) → IsAsked m (Pattern p) → p < length hs
  asked_below p a = subst (λ n. p < n) (ap length same ∙ length-entries 0 hs) a

  entry_is : (p : ℕ) → IsAsked m (Pattern p) → slice_index m.entries p ≡ entry hs p
  entry_is p a = ap (λ es. slice_index es p) same ∙ entry_index hs p (asked_below p a)

  at_low : (root : ℕ) (k : Pair) → IsIn k ((root, s.lo) ∷ []) → (k.0 ≡ root) × IsStart s k.1
  at_low root k h = ⊎_elim
      (λ f. let a : s.lo ≡ k.1 = ap (λ (n : Pair). n.1) f in
      (sym (ap (λ (n : Pair). n.0) f), (omega (arith, a), omega (arith, a, ordered), λ t. sym a)))
      (λ never. absurd never) h

  begins_so : (anchored : Anchored) → is_anchored s.anchoring ≡ anchors anchored → IsAsked m anchored → (k : Pair) →
      IsIn k (starts_of m anchored s.lo s.hi) → (k.0 ≡ root_of hs anchored) × IsStart s k.1
  begins_so No e a k (inl f) = at_low 0 k (inl f)
  begins_so No e a k (inr i) =
      let r = in_starts 0 (s.lo + 1) (s.hi - s.lo) k.0 k.1 i in let low = r.1 in let high = r.2 in
      (r.0, (omega (arith, low), omega (arith, low, high, ordered), λ t. absurd (true≢false (sym t ∙ e))))
  begins_so Yes e a k h = at_low 0 k h
  begins_so (Pattern p) e a k h =
      at_low (entry hs p) k (subst (λ root. IsIn k ((root, s.lo) ∷ [])) (entry_is p a) h)

  starts_so : (anchored : Anchored) → is_anchored s.anchoring ≡ anchors anchored → IsAsked m anchored → (x : ℕ) → IsStart s x →
      IsIn (root_of hs anchored, x) (starts_of m anchored s.lo s.hi)
  starts_so No e a x st =
      let low = st.0 in let high = st.1 in
      ⊎_elim (λ is. inl (ap (λ k. (0, k)) is))
      (λ ne. inr (starts_in 0 (s.lo + 1) (s.hi - s.lo) x (omega (arith, low, ne)) (omega (arith, low, high)))) (cases_eq s.lo x)
  starts_so Yes e a x st = inl (ap (λ k. (0, k)) (sym (st.2 e)))
  starts_so (Pattern p) e a x st = inl (ap₂ (λ root k. (root, k)) (entry_is p a) (sym (st.2 e)))

-- FROM THERE

module _ (hs : List Re) (m : Machine) (s : Search) (same : m.entries ≡ entries_of hs) (is : s.places ≡ program hs) where
  -- edges lead from where the search enters the program to a match place
  abbrev LeadsFrom : ℕ → ℕ → ℕ → Type 0
  LeadsFrom root x e = LeadsTo (bytes_of s.places) s.text s.hi None e (root, x)

  from_root_spelled : (x e : ℕ) → only s.anchoring ≡ None → LeadsFrom 0 x e → (p : ℕ) × IsSpelled (by_bytes s) p x e
  from_root_spelled x e all r =
      let o = of_some (bytes_of s.places) s.text s.hi None e r in
      (o.0, (spelled_root hs s is o.0 x e).1 (subst (λ (only : Option ℕ). IsTrue (is_match_place only (accept o.0))) (sym all) refl, o.2))

  leads_so : (anchored : Anchored) → only s.anchoring ≡ only_pattern anchored → IsAsked m anchored → (x e : ℕ) → LeadsFrom (root_of hs anchored) x e →
      (p : ℕ) × IsSpelled (by_bytes s) p x e
  leads_so No all a x e r = from_root_spelled x e all r
  leads_so Yes all a x e r = from_root_spelled x e all r
  leads_so (Pattern p) one a x e r =
      let o = of_some (bytes_of s.places) s.text s.hi None e r in
      let below = subst (λ n. p < n) (ap length same ∙ length-entries 0 hs) a in
      let mine : o.0 ≡ p = own_of hs s is p x o.0 e below o.2 in (
        p,
        (spelled_root hs s is p x e).1 (
          subst (λ (only : Option ℕ). IsTrue (is_match_place only (accept p))) (sym one) (eq-eqb p p refl),
          (from_entry_of hs s is p x e).1 (below, subst (λ q. LeadsTo (bytes_of s.places) s.text s.hi (Some q) e (entry hs p, x)) mine o.2),
        ),
      )

  spelled_so : (anchored : Anchored) → only s.anchoring ≡ only_pattern anchored → (p x e : ℕ) → IsSpelled (by_bytes s) p x e →
      LeadsFrom (root_of hs anchored) x e
  spelled_so No all p x e h = of_allowed (bytes_of s.places) s.text s.hi None p e refl ((spelled_root hs s is p x e).0 h).1
  spelled_so Yes all p x e h = of_allowed (bytes_of s.places) s.text s.hi None p e refl ((spelled_root hs s is p x e).0 h).1
  spelled_so (Pattern q) one p x e h =
      let r = (spelled_root hs s is p x e).0 h in
      let mine : p ≡ q = eqb-true p q (subst (λ (only : Option ℕ). IsTrue (is_match_place only (accept p))) one r.0) in
      subst (λ i. LeadsFrom (entry hs i) x e) mine (of_allowed (bytes_of s.places) s.text s.hi None p e refl ((from_entry_of hs s is p x e).0 r.1).1)

-- THE GREATEST SPAN

same_found : (f g : Found) → f.pattern ≡ g.pattern → f.start ≡ g.start → f.end ≡ g.end → f ≡ g
same_found f g a b c = ap₂ (λ p (q : ℕ × ℕ). let r : Found = record { pattern = p; start = q.0; end = q.1 } in r) a (ap₂ (λ x y. (x, y)) b c)

module _ (hs : List Re) (m n : Machine) (anchored : Anchored) (s : Search) (c : IsCase hs all_matches m n anchored s) where
  abbrev origin : List Pair
  origin = starts_of m anchored s.lo s.hi

  abbrev W : Pair → List Pair
  W = ways m.setting.places s.text s.hi

  -- what is met at e ends a walk
  met_spelled : (e : ℕ) → IsSomeMatch m.setting (λ q. Comes W origin (q, e)) → (p x : ℕ) × IsStart s x × IsSpelled s p x e
  met_spelled e q =
      let r = comes_back W origin (IsGoal (MayEnd m.setting.places None) e) q.1 (arrived (q.0, e) (q.2, refl)) in
      let st = begins_so hs m s (ahead_entries c) c.ordered anchored (anchored_is c) c.asked r.0 r.1 in
      let leads = subst (λ ps. LeadsTo ps s.text s.hi None e r.0) (ahead_places c) r.2 in
      let h = leads_so hs m s (ahead_entries c) c.places anchored (only_is c) c.asked r.0.1 e
      (subst (λ root. LeadsTo (bytes_of s.places) s.text s.hi None e (root, r.0.1)) st.0 leads) in
      (h.0, r.0.1, st.1, (spelled_alike hs s c.places h.0 r.0.1 e st.1.1).0 h.1)

  -- each span's end is met
  spelled_met : (f : Found) → IsSpelledIn s f → IsSomeMatch m.setting (λ q. Comes W origin (q, f.end))
  spelled_met f h =
      let root = root_of hs anchored in
      let leads = spelled_so hs m s (ahead_entries c) c.places anchored (only_is c) f.pattern f.start f.end
      ((spelled_alike hs s c.places f.pattern f.start f.end h.is_start.1).1 (h.walk, h.is_walk, h.pattern, h.position)) in
      let r = comes_on W origin (IsGoal (MayEnd m.setting.places None) f.end)
      (sets.begins (root, f.start) (starts_so hs m s (ahead_entries c) c.ordered anchored (anchored_is c) c.asked f.start h.is_start))
      (subst (λ ps. LeadsTo ps s.text s.hi None f.end (root, f.start)) (sym (ahead_places c)) leads) in
      (r.0.0, subst (λ y. Comes W origin (r.0.0, y)) r.2.1 r.1, r.2.0)

  span_of : (p x e : ℕ) → IsStart s x → IsSpelled s p x e → IsSpelledIn s (record { pattern = p; start = x; end = e })
  span_of p x e st h = record { is_start = st; walk = h.0; is_walk = h.1; pattern = h.2; position = h.3 }

  abbrev IsLast : ℕ → Type 0
  IsLast e = IsLastSoFar m.setting s.text s.hi origin (s.hi + 1) (Some e)

  -- the last end that is met is that of the greatest span
  last_end : (e : ℕ) → IsLast e → (o : Option Found) → greatest s ≡ o → (f : Found) × (greatest s ≡ Some f) × (f.end ≡ e)
  last_end e l None none =
      let h = met_spelled e l.1 in absurd ((greatest_none s).0 none (record { pattern = h.0; start = h.1; end = e }) (span_of h.0 h.1 e h.2 h.3))
  last_end e l (Some f) some =
      let g = (greatest_some s f).0 some in
      let h = met_spelled e l.1 in
      let high = (spelled_within s f g.is_spelled).2 in (
        f,
        some,
        ⊎_elim
            (λ lt. absurd (l.2 f.end lt (omega (arith, high)) (spelled_met f g.is_spelled)))
            (λ r. sym r.0) (g.is_most (record { pattern = h.0; start = h.1; end = e }) (span_of h.0 h.1 e h.2 h.3)),
      )

  ends : (q e : ℕ) → SearchEnds m s.text s.hi s.lo anchored false (met_last (Some (q, e))) → (f : Found) × (greatest s ≡ Some f) × (f.end ≡ e)
  ends q e run =
      last_end e (run_law.last m s.text s.hi s.lo anchored (Some (q, e)) (ahead_machine c) (ahead_direction c) (ahead_terminator c) c.inside run)
      (greatest s) refl

  -- and the least start from there is its start
  least_start : (e x k : ℕ) (f : Found) → IsGreatest s f → f.end ≡ e → IsLeastOf (only_pattern anchored) n.setting s.text s.hi e n.entries s.lo (Some (x, k)) →
      f ≡ record { pattern = k; start = x; end = e }
  least_start e x k f g at d =
      let w = spelled_within s f g.is_spelled in let high = w.2 in let low = w.0 in let begun = w.1 in
      let above = d.0 in let below = d.1 in
      let met = first_met hs all_matches m n anchored s c k x e (omega (arith, below, at, high)) d.2 in
      let own : IsSpelled s f.pattern f.start e =
      let h = g.is_spelled in subst (λ z. IsSpelled s f.pattern f.start z) at (h.walk, h.is_walk, h.pattern, h.position) in
      let after : x ≤ f.start = ⊎_elim
      (λ lt. absurd (none_met hs all_matches m n anchored s c f.start e (omega (arith, begun, high)) (d.3 f.start low lt) f.pattern own))
      (λ ge. ge) (cases_lt f.start x) in
      let st : IsStart s x = (above, omega (arith, below, at, high), λ t. let z = g.is_spelled.is_start.2 t in omega (arith, after, above, z)) in
      let most = g.is_most (record { pattern = k; start = x; end = e }) (span_of k x e st met.0) in
      let same : (x ≡ f.start) × (f.pattern ≤ k) =
      ⊎_elim (λ lt. absurd (omega (arith, lt, at))) (λ r. ⊎_elim (λ lt. absurd (omega (arith, lt, after))) (λ y. y) r.1) most in
      let least = met.1 f.pattern (subst (λ y. IsSpelled s f.pattern y e) (sym same.0) own) in
      let fewer = same.1 in
      same_found f (record { pattern = k; start = x; end = e }) (omega (arith, fewer, least)) (sym same.0) at

  starts : (q e x k : ℕ) → SearchEnds m s.text s.hi s.lo anchored false (met_last (Some (q, e))) →
      SearchEndsDown n s.text s.lo e anchored false (met_last (Some (x, k))) → greatest s ≡ Some (record { pattern = k; start = x; end = e })
  starts q e x k run down =
      let f = ends q e run in
      let g = (greatest_some s f.0).0 f.1 in
      let high = (spelled_within s f.0 g.is_spelled).2 in
      let at = f.2 in
      f.1 ∙ ap Some (least_start e x k f.0 g f.2
      (run_law.least n s.text s.hi s.lo e anchored (Some (x, k)) (back_machine c) (back_direction c) (back_terminator c) c.inside (omega (arith, at, high)) down))

pub last_law : LastLaw
last_law = record {
  starts = λ hs m n anchored s q e x k c run down. starts hs m n anchored s c q e x k run down;
  ends = λ hs m n anchored s q e c run. ends hs m n anchored s c q e run;
}
