-- What a search backwards from the upper bound tells.
use Rattle.std.proofs.Common.{◌≡◌, ◌↔◌, ℕ, zero, suc, ◌<◌, ◌≤◌, Bool, false, List, [], ◌∷◌, length, get_or, Option, Some, None, inl, inr, ⊎_elim, sym, subst, ap₂, arith}
use Rattle.std.proofs.lemmas.Bool.{cases_lt}
use Rattle.rc_text.specs.declared.types.MatchKind.{MatchKind}
use Rattle.rc_text.specs.declared.types.Anchored.{Anchored}
use Rattle.rc_text.specs.Plain.{only_pattern}
use Rattle.rc_pattern.specs.Re.{Re}
use Rattle.rc_program.specs.Answer.{Search, only}
use Rattle.rc_utf8.specs.Bytes.{bytes_of}
use Rattle.rc_determinize.specs.Backward.{IsFirstRoot}
use Rattle.rc_determinize.specs.Spans.{IsSpelled}
use Rattle.rc_dfa.specs.Machine.{Machine}
use Rattle.rc_dfa.specs.Runs.{met_last, SearchEndsDown}
use Rattle.rc_dfa.specs.Laws.{ReachesMatch}
use Rattle.rc_dfa.proofs.RunLemmas.{run_law}
use Rattle.rc_dfa_search.specs.Machines.{entries_of, IsCase}
use Rattle.rc_dfa_search.specs.Reverse.{IsSpelledToEnd, IsLeastStart, HasNoStart}
use Rattle.rc_dfa_search.specs.Laws.{ReverseLaw}
use Rattle.rc_dfa_search.proofs.CaseLemmas.{back_machine, back_direction, back_entries, back_places, back_terminator, only_is}
use Rattle.rc_dfa_search.proofs.ReverseWays.{LeadsTo}
use Rattle.rc_dfa_search.proofs.ReverseRoots.{are_roots, spelled_alike, spelled_onward}

-- ROOTS

first_root : (Holds : ℕ → Type 0) (roots : List ℕ) (k : ℕ) → IsFirstRoot Holds roots (Some k) →
    (k < length roots) × Holds (get_or roots k 0) × ((j : ℕ) → j < k → ¬ Holds (get_or roots j 0))
first_root Holds [] k h = absurd h
first_root Holds (r ∷ rs) zero h = (omega arith, h, λ j l. absurd (omega (arith, l)))
first_root Holds (r ∷ rs) (suc k) h =
    let t = first_root Holds rs k h.1 in let l = t.0 in (omega (arith, l), t.1, λ j lt. before j lt t.2)
  where
    before : (j : ℕ) → j < suc k → ((i : ℕ) → i < k → ¬ Holds (get_or rs i 0)) → ¬ Holds (get_or (r ∷ rs) j 0)
    before zero lt rest = h.0
    before (suc j) lt rest = rest j (omega (arith, lt))

no_root : (Holds : ℕ → Type 0) (roots : List ℕ) → IsFirstRoot Holds roots None → (j : ℕ) → j < length roots → ¬ Holds (get_or roots j 0)
no_root Holds [] h j lt = absurd (omega (arith, lt))
no_root Holds (r ∷ rs) h zero lt = h.0
no_root Holds (r ∷ rs) h (suc j) lt = no_root Holds rs h.1 j (omega (arith, lt))

module _ (hs : List Re) (kind : MatchKind) (m n : Machine) (anchored : Anchored) (s : Search) (c : IsCase hs kind m n anchored s) where
  abbrev pub MetFrom : ℕ → ℕ → ℕ → Type 0
  MetFrom end x root = ReachesMatch (only_pattern anchored) n.setting s.text s.hi end x root

  -- a walk of a pattern leads there exactly where its entry is met
  spelled_met : (k x end : ℕ) → x ≤ s.hi → IsSpelled s k x end ↔ ((k < length n.entries) × MetFrom end x (get_or n.entries k 0))
  spelled_met k x end le =
      let over = are_roots hs s c.places k x end in
      let same : (root : ℕ) → MetFrom end x root ≡ LeadsTo (bytes_of s.places) s.text s.hi (only s.anchoring) end (root, x) =
      λ root. ap₂ (λ ps (o : Option ℕ). LeadsTo ps s.text s.hi o end (root, x)) (back_places c) (sym (only_is c)) in
      let there : ((k < length (entries_of hs)) × MetFrom end x (get_or (entries_of hs) k 0)) ↔ IsSpelled s k x end = (
        λ r. (spelled_alike hs s c.places k x end le).0 (over.1 (r.0, subst (λ T. T) (same (get_or (entries_of hs) k 0)) r.1)),
        λ h. let r = over.0 ((spelled_alike hs s c.places k x end le).1 h) in (r.0, subst (λ T. T) (sym (same (get_or (entries_of hs) k 0))) r.1),
      ) in
      subst (λ es. IsSpelled s k x end ↔ ((k < length es) × MetFrom end x (get_or es k 0))) (sym (back_entries c)) (there.1, there.0)

  -- the first entry that is met is that of the least pattern
  pub first_met : (k x end : ℕ) → x ≤ s.hi → IsFirstRoot (MetFrom end x) n.entries (Some k) →
      IsSpelled s k x end × ((p : ℕ) → IsSpelled s p x end → k ≤ p)
  first_met k x end le f =
      let r = first_root (MetFrom end x) n.entries k f in (
        (spelled_met k x end le).1 (r.0, r.1),
        λ p h. ⊎_elim (λ lt. absurd (r.2 p lt ((spelled_met p x end le).0 h).1)) (λ ge. ge) (cases_lt p k),
      )

  pub none_met : (x end : ℕ) → x ≤ s.hi → IsFirstRoot (MetFrom end x) n.entries None → (p : ℕ) → ¬ IsSpelled s p x end
  none_met x end le f p h = let r = (spelled_met p x end le).0 h in no_root (MetFrom end x) n.entries f p r.0 r.1

  least : (x k : ℕ) → SearchEndsDown n s.text s.lo s.hi anchored false (met_last (Some (x, k))) → IsLeastStart s (record { pattern = k; offset = x })
  least x k run =
      let l = run_law.least n s.text s.hi s.lo s.hi anchored (Some (x, k)) (back_machine c) (back_direction c) (back_terminator c) c.inside (omega arith) run in
      let f = first_met k x s.hi l.1 l.2 in
      record {
        is_spelled = record { within = (l.0, l.1); is_spelled = f.0 };
        is_least = λ y p low h.
            let le = spelled_onward s p y s.hi h in
            ⊎_elim (λ before. absurd (none_met y s.hi le (l.3 y low before) p h))
            (λ ge. ⊎_elim (λ lt. inl lt)
            (λ no_later. let same : x ≡ y = omega (arith, ge, no_later) in inr (same, f.1 p (subst (λ z. IsSpelled s p z s.hi) (sym same) h)))
            (cases_lt x y)) (cases_lt y x);
      }

  met : (earliest : Bool) (x k : ℕ) → SearchEndsDown n s.text s.lo s.hi anchored earliest (met_last (Some (x, k))) →
      IsSpelledToEnd s (record { pattern = k; offset = x })
  met earliest x k run =
      let l = run_law.met_down n s.text s.hi s.lo s.hi anchored earliest x k (back_machine c) (back_direction c) (back_terminator c) c.inside (omega arith) run in
      record { within = (l.0, l.1); is_spelled = (first_met k x s.hi l.1 l.2).0 }

  none : (earliest : Bool) → SearchEndsDown n s.text s.lo s.hi anchored earliest (met_last None) → HasNoStart s
  none earliest run x p low h =
      let l = run_law.none_down n s.text s.hi s.lo s.hi anchored earliest (back_machine c) (back_direction c) (back_terminator c) c.inside (omega arith) run in
      let le = spelled_onward s p x s.hi h in
      none_met x s.hi le (l x low le) p h

pub reverse_law : ReverseLaw
reverse_law = record {
  least = λ hs kind m n anchored s x k c run. least hs kind m n anchored s c x k run;
  met = λ hs kind m n anchored s earliest x k c run. met hs kind m n anchored s c earliest x k run;
  none = λ hs kind m n anchored s earliest c run. none hs kind m n anchored s c earliest run;
}
