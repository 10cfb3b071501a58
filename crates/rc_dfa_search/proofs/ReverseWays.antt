-- From which places edges lead to a match place.
use Rattle.std.proofs.Common.{◌≡◌, ℕ, zero, suc, ◌+◌, ◌-◌, ◌*◌, ◌<◌, ◌≤◌, List, [], ◌∷◌, length, map, take, drop, Option, Some, IsTrue, true≢false, inl, inr, ⊎_elim, sym, subst, ap, ◌∙◌, refl, arith, eq-eqb, eqb-true}
use Rattle.rc_pattern.specs.Re.{Re}
use Rattle.rc_pattern.specs.WellFormed.{group_count}
use Rattle.rc_walks.specs.Walks.{Pair, IsIn, IsWalk, stops, goes}
use Rattle.rc_walks.proofs.CutLemmas.{cut}
use Rattle.rc_program.specs.Text.{Text, holds, ahead}
use Rattle.rc_program.specs.Program.{Place, choice, accept, place_at, ways, ways_out, pair_at, is_match_place, part, pattern_part, choice_of_patterns, entry_from}
use Rattle.rc_program.specs.Answer.{last_of, pattern_at}
use Rattle.rc_program.proofs.WayLemmas.{same_pair, no_match, ways_onward, ways_within}
use Rattle.rc_program.proofs.PlaceLemmas.{pattern_sized, choice_some}
use Rattle.rc_program.proofs.PartLemmas.{Stand, Stand-second}
use Rattle.rc_program.proofs.AnswerLemmas.{last_of_more, match_place_is}
use Rattle.rc_determinize.specs.Steps.{IsByBytes}
use Rattle.rc_determinize.specs.Run.{Reaches, arrived, goes_on, IsGoal}
use Rattle.rc_determinize.proofs.RunLemmas.{reach_long}
use Rattle.rc_determinize.proofs.AnswerLemmas.{last_at}
use Rattle.rc_determinize.proofs.TextLemmas.{near, last}

-- a match place stands at the pair's place; that of this pattern, if one is asked for
abbrev pub MayEnd : List Place → Option ℕ → Pair → Type 0
MayEnd places only n = IsTrue (is_match_place only (place_at places n.0))

-- edges lead from the pair to such a place at `end`
abbrev pub LeadsTo : List Place → Text → ℕ → Option ℕ → ℕ → Pair → Type 0
LeadsTo places t hi only end n = Reaches (ways places t hi) (IsGoal (MayEnd places only) end) n

of_pattern : (p : ℕ) (q : Place) → IsTrue (is_match_place (Some p) q) → q ≡ accept p
of_pattern p q h =
    let e = match_place_is (Some p) q h in
    e ∙ ap accept (eqb-true (pattern_at q) p (subst (λ r. IsTrue (is_match_place (Some p) r)) e h))

module _ (places : List Place) (t : Text) (hi : ℕ) where
  abbrev W : Pair → List Pair
  W = ways places t hi

  -- the place is that of some pattern that is allowed
  pub of_some : (only : Option ℕ) (end : ℕ) {n : Pair} → LeadsTo places t hi only end n →
      (p : ℕ) × IsTrue (is_match_place only (accept p)) × LeadsTo places t hi (Some p) end n
  of_some only end (arrived n g) =
      let e = match_place_is only (place_at places n.0) g.0 in
      let p = pattern_at (place_at places n.0) in (
        p,
        subst (λ q. IsTrue (is_match_place only q)) e g.0,
        arrived n (subst (λ q. IsTrue (is_match_place (Some p) q)) (sym e) (eq-eqb p p refl), g.1),
      )
  of_some only end (goes_on n m i more) = let r = of_some only end more in (r.0, r.1, goes_on n m i r.2)

  pub of_allowed : (only : Option ℕ) (p end : ℕ) → IsTrue (is_match_place only (accept p)) → {n : Pair} → LeadsTo places t hi (Some p) end n →
      LeadsTo places t hi only end n
  of_allowed only p end may (arrived n g) =
      arrived n (subst (λ q. IsTrue (is_match_place only q)) (sym (of_pattern p (place_at places n.0) g.0)) may, g.1)
  of_allowed only p end may (goes_on n m i more) = goes_on n m i (of_allowed only p end may more)

  -- edges lead forward
  pub leads_onward : (Ends : Pair → Type 0) (end : ℕ) {n : Pair} → Reaches W (IsGoal Ends end) n → n.1 ≤ end
  leads_onward Ends end (arrived n g) = let e = g.1 in omega (arith, e)
  leads_onward Ends end (goes_on n m i more) =
      let a = ways_onward places t hi n m i in let b = leads_onward Ends end more in omega (arith, a, b)

  -- a walk is such a way
  walk_leads : (Ends : Pair → Type 0) {p f w : List Pair} → IsWalk W Ends p f w → (n : Pair) × IsIn n f × Reaches W (IsGoal Ends (last_of w).1) n
  walk_leads Ends (stops k here fresh stop) = (k, here, arrived k (stop, refl))
  walk_leads Ends (goes k here fresh rest) =
      let r = walk_leads Ends rest in
      (k, here, subst (λ e. Reaches W (IsGoal Ends e) k) (sym (ap (λ (n : Pair). n.1) (last_of_more W Ends k rest))) (goes_on k r.0 r.1 r.2))

  pub walk_leads_from : (Ends : Pair → Type 0) (n : Pair) (w : List Pair) (end : ℕ) → IsWalk W Ends [] (n ∷ []) w → (last_of w).1 ≡ end →
      Reaches W (IsGoal Ends end) n
  walk_leads_from Ends n w end walk at =
      let r = walk_leads Ends walk in
      let from_n : Reaches W (IsGoal Ends (last_of w).1) n =
      ⊎_elim (λ e. subst (λ k. Reaches W (IsGoal Ends (last_of w).1) k) (sym e) r.2) (λ never. absurd never) r.1 in
      subst (λ e. Reaches W (IsGoal Ends e) n) at from_n

  -- where edges lead to the place, a walk does
  pub leads_walk : IsByBytes places → (p end : ℕ) (n : Pair) → LeadsTo places t hi (Some p) end n →
      (w : List Pair) × IsWalk W (MayEnd places (Some p)) [] (n ∷ []) w × (place_at places (last_of w).0 ≡ accept p) × ((last_of w).1 ≡ end)
  leads_walk by_bytes p end n r =
      let z = reach_long W (MayEnd places (Some p)) same_pair (last places t hi (Some p)) (near places t hi by_bytes) end r in
      let w = cut W (MayEnd places (Some p)) same_pair z.3.1 z.1 in
      let at = last_at w.0 z.0 w.2 in (
        w.0,
        w.1,
        ap (λ (k : Pair). place_at places k.0) at ∙ of_pattern p (place_at places z.0.0) z.1,
        ap (λ (k : Pair). k.1) at ∙ z.2,
      )

ahead_past : (t : Text) (hi p : ℕ) → hi ≤ p → ahead t hi p ≡ []
ahead_past t hi p le = let e : 0 ≡ hi - p = omega (arith, le) in subst (λ n. take n (drop p t.content) ≡ []) e refl

-- past the bound nothing is read, as at another bound there
pub leads_past : (places : List Place) (t : Text) (hi x : ℕ) (Goal : Pair → Type 0) → hi ≤ x → {n : Pair} → n.1 ≡ x →
    Reaches (ways places t hi) Goal n → Reaches (ways places t x) Goal n
leads_past places t hi x Goal le at (arrived n g) = arrived n g
leads_past places t hi x Goal le at (goes_on n m i more) =
    let same : ways places t hi n ≡ ways places t x n =
    ap (λ bs. map (pair_at n.1) (ways_out (λ l. holds t l n.1) bs (place_at places n.0)))
    (ahead_past t hi n.1 (omega (arith, at, le)) ∙ sym (ahead_past t x n.1 (omega (arith, at)))) in
    let here = subst (λ ms. IsIn m ms) same i in
    let low = ways_onward places t x n m here in
    let high = ways_within places t x n m (omega (arith, at)) here in
    goes_on n m here (leads_past places t hi x Goal le (omega (arith, at, low, high)) more)

-- FROM THE ROOT

-- The choices of the program stand in the other places too.
module _ (prog places : List Place) (same : (k : ℕ) (ns : List ℕ) → k < length prog → place_at prog k ≡ choice ns → place_at places k ≡ choice ns)
    (t : Text) (hi x end : ℕ) (only : Option ℕ) where
  abbrev From : ℕ → Type 0
  From q = LeadsTo places t hi only end (q, x)

  abbrev outs : List ℕ → List Pair
  outs ns = map (pair_at x) (ways_out (λ l. holds t l x) (ahead t hi x) (choice ns))

  out_is : (k : ℕ) (ns : List ℕ) → k < length prog → place_at prog k ≡ choice ns → ways places t hi (k, x) ≡ outs ns
  out_is k ns l e = ap (λ q. map (pair_at x) (ways_out (λ l. holds t l x) (ahead t hi x) q)) (same k ns l e)

  -- from a choice a walk goes on
  onward : (k : ℕ) (ns : List ℕ) → k < length prog → place_at prog k ≡ choice ns → {n : Pair} → n ≡ (k, x) → LeadsTo places t hi only end n →
      (m : Pair) × IsIn m (outs ns) × LeadsTo places t hi only end m
  onward k ns l e at (arrived n goal) =
      absurd (true≢false (sym (subst (λ (m : Pair). MayEnd places only m) at goal.0) ∙ ap (is_match_place only) (same k ns l e) ∙ no_match only ns))
  onward k ns l e at (goes_on n m i more) =
      (m, subst (λ ms. IsIn m ms) (ap (ways places t hi) at ∙ out_is k ns l e) i, more)

  -- the choice of the patterns from number q on stands within the program
  abbrev StandsAt : ℕ → ℕ → ℕ → ℕ → ℕ → List Re → Type 0
  StandsAt q slots start next s rest =
      Stand prog start ((choice_of_patterns q s rest).places slots start next) × (start + (choice_of_patterns q s rest).size ≤ length prog)

  within : (q slots start next s : ℕ) (rest : List Re) → StandsAt q slots start next s rest → start < length prog
  within q slots start next s rest st = let some = choice_some q s rest in let le = st.1 in omega (arith, some, le)

  later : (q slots start next s : ℕ) (h : Re) (rest : List Re) → StandsAt q slots start next s (h ∷ rest) →
      StandsAt (q + 1) slots (start + 1 + ((part h).size + 1)) next (s + 2 * group_count h) rest
  later q slots start next s h rest st =
      let a = pattern_part q s h in
      let b = choice_of_patterns (q + 1) (s + 2 * group_count h) rest in
      let le = st.1 in
      (Stand-second prog a b slots start next (pattern_sized q s h slots (start + 1) next) st.0, omega (arith, le))

  pub enters : (q slots start next s : ℕ) (rest : List Re) → StandsAt q slots start next s rest → (k : ℕ) → k < length rest →
      From (entry_from start rest k) → From start
  enters q slots start next s [] st k l r = absurd (omega (arith, l))
  enters q slots start next s (h ∷ rest) st zero l r =
      let right = start + 1 + ((part h).size + 1) in
      let out = out_is start ((start + 1) ∷ right ∷ []) (within q slots start next s (h ∷ rest) st) st.0.0 in
      goes_on (start, x) (start + 1, x) (subst (λ ms. IsIn (start + 1, x) ms) (sym out) (inl refl)) r
  enters q slots start next s (h ∷ rest) st (suc k) l r =
      let right = start + 1 + ((part h).size + 1) in
      let out = out_is start ((start + 1) ∷ right ∷ []) (within q slots start next s (h ∷ rest) st) st.0.0 in
      goes_on (start, x) (right, x) (subst (λ ms. IsIn (right, x) ms) (sym out) (inr (inl refl)))
      (enters (q + 1) slots right next (s + 2 * group_count h) rest (later q slots start next s h rest st) k (omega (arith, l)) r)

  pub leaves : (q slots start next s : ℕ) (rest : List Re) → StandsAt q slots start next s rest → From start →
      (k : ℕ) × (k < length rest) × From (entry_from start rest k)
  leaves q slots start next s [] st r = absurd (onward start [] (within q slots start next s [] st) st.0.0 refl r).1
  leaves q slots start next s (h ∷ rest) st r =
      let right = start + 1 + ((part h).size + 1) in
      let o = onward start ((start + 1) ∷ right ∷ []) (within q slots start next s (h ∷ rest) st) st.0.0 refl r in
      ⊎_elim (λ e. (zero, omega arith, subst (λ m. LeadsTo places t hi only end m) (sym e) o.2))
      (⊎_elim
      (λ e. let i = leaves (q + 1) slots right next (s + 2 * group_count h) rest (later q slots start next s h rest st)
      (subst (λ m. LeadsTo places t hi only end m) (sym e) o.2) in
      let l = i.1 in (suc i.0, omega (arith, l), i.2))
      (λ never. absurd never)) o.1
