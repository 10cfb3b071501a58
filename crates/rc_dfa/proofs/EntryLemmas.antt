-- From the root of a program some walk leads to the end exactly where one does from a pattern's entry.
use Rattle.std.proofs.Common.{◌≡◌, ℕ, ◌+◌, ◌*◌, ◌⊎◌, ◌↔◌, List, [], ◌∷◌, length, map, ⊎_elim, sym, subst, ap, ◌∙◌, refl, IsTrue, true≢false, inl, inr, None}
use Rattle.rc_pattern.specs.Re.{Re}
use Rattle.rc_pattern.specs.WellFormed.{group_count}
use Rattle.rc_walks.specs.Walks.{Pair, IsIn}
use Rattle.rc_program.specs.Text.{Text, holds, ahead}
use Rattle.rc_program.specs.Program.{Place, choice, place_at, ways, ways_out, pair_at, is_match_place, part, pattern_part, choice_of_patterns, program}
use Rattle.rc_program.proofs.PlaceLemmas.{pattern_sized}
use Rattle.rc_program.proofs.PartLemmas.{Stand, Stand-second}
use Rattle.rc_program.proofs.WholeLemmas.{stand_all}
use Rattle.rc_determinize.specs.Run.{Reaches, arrived, goes_on, IsGoal}

-- the entries of the patterns of the choice at `start`, in their order
abbrev pub entries_from : ℕ → List Re → List ℕ
entries_from start [] = []
entries_from start (h ∷ hs) = (start + 1) ∷ entries_from (start + 1 + ((part h).size + 1)) hs

-- it holds of one of the places
abbrev pub HoldsOfSome : (ℕ → Type 0) → List ℕ → Type 0
HoldsOfSome Holds [] = ⊥
HoldsOfSome Holds (q ∷ qs) = Holds q ⊎ HoldsOfSome Holds qs

-- The choices of the program stand in the other places too.
module _ (prog places : List Place) (same : (k : ℕ) (ns : List ℕ) → place_at prog k ≡ choice ns → place_at places k ≡ choice ns) (t : Text) (hi end x : ℕ) where
  abbrev W : Pair → List Pair
  W = ways places t hi

  abbrev Goal : Pair → Type 0
  Goal = IsGoal (λ (n : Pair). IsTrue (is_match_place None (place_at places n.0))) end

  abbrev From : ℕ → Type 0
  From q = Reaches W Goal (q, x)

  out_is : (k : ℕ) (ns : List ℕ) → place_at prog k ≡ choice ns → W (k, x) ≡ map (pair_at x) (ways_out (λ l. holds t l x) (ahead t hi x) (choice ns))
  out_is k ns e = ap (λ q. map (pair_at x) (ways_out (λ l. holds t l x) (ahead t hi x) q)) (same k ns e)

  -- from a choice a walk goes on
  onward : (k : ℕ) (ns : List ℕ) → place_at prog k ≡ choice ns → {n : Pair} → n ≡ (k, x) → Reaches W Goal n →
      (m : Pair) × IsIn m (map (pair_at x) (ways_out (λ l. holds t l x) (ahead t hi x) (choice ns))) × Reaches W Goal m
  onward k ns e at (arrived n goal) =
      absurd (true≢false (sym (subst (λ (m : Pair). IsTrue (is_match_place None (place_at places m.0))) at goal.0) ∙ ap (is_match_place None) (same k ns e)))
  onward k ns e at (goes_on n m i more) =
      (m, subst (λ ms. IsIn m ms) (ap W at ∙ out_is k ns e) i, more)

  pub from_entries : (q slots start next s : ℕ) (rest : List Re) → Stand prog start ((choice_of_patterns q s rest).places slots start next) →
      From start ↔ HoldsOfSome From (entries_from start rest)
  from_entries q slots start next s [] st = ((λ r. absurd (onward start [] st.0 refl r).1), (λ never. absurd never))
  from_entries q slots start next s (h ∷ rest) st =
      let a = pattern_part q s h in
      let b = choice_of_patterns (q + 1) (s + 2 * group_count h) rest in
      let right = start + 1 + a.size in
      let ns = (start + 1) ∷ right ∷ [] in
      let ih = from_entries (q + 1) slots right next (s + 2 * group_count h) rest
      (Stand-second prog a b slots start next (pattern_sized q s h slots (start + 1) next) st) in
      let step : (m : Pair) → IsIn m ((start + 1, x) ∷ (right, x) ∷ []) → Reaches W Goal m → From start =
      λ m i r. goes_on (start, x) m (subst (λ ms. IsIn m ms) (sym (out_is start ns st.0)) i) r in (
        (λ r. let o = onward start ns st.0 refl r in
            ⊎_elim (λ e. inl (subst (λ m. Reaches W Goal m) (sym e) o.2))
            (⊎_elim (λ e. inr (ih.0 (subst (λ m. Reaches W Goal m) (sym e) o.2))) (λ never. absurd never)) o.1),
        ⊎_elim (λ r. step (start + 1, x) (inl refl) r) (λ r. step (right, x) (inr (inl refl)) (ih.1 r)),
      )

-- of the whole program
pub from_root : (hs : List Re) (places : List Place) → ((k : ℕ) (ns : List ℕ) → place_at (program hs) k ≡ choice ns → place_at places k ≡ choice ns) →
    (t : Text) (hi end x : ℕ) → Reaches (ways places t hi) (IsGoal (λ n. IsTrue (is_match_place None (place_at places n.0))) end) (0, x)
    ↔ HoldsOfSome (λ q. Reaches (ways places t hi) (IsGoal (λ n. IsTrue (is_match_place None (place_at places n.0))) end) (q, x)) (entries_from 0 hs)
from_root hs places same t hi end x = from_entries (program hs) places same t hi end x 0 0 0 0 (2 * length hs) hs (stand_all [] (program hs))
