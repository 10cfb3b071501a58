-- A walk to one end.
use Rattle.std.proofs.Common.{◌≡◌, ℕ, ◌<◌, ◌≤◌, List, [], ◌∷◌, ⊎_elim, sym, subst, ◌∙◌, refl, arith}
use Rattle.std.proofs.lemmas.Bool.{cases_lt}
use Rattle.rc_walks.specs.Walks.{Pair, IsIn, IsWalk, stops, goes, IsFirstWalk, HasNoWalk}
use Rattle.rc_walks.proofs.CutLemmas.{not_before_both}
use Rattle.rc_program.specs.Answer.{last_of}
use Rattle.rc_program.proofs.AnswerLemmas.{walk_ends}
use Rattle.rc_program.proofs.GreatestLemmas.{other_ends}
use Rattle.rc_program.specs.Longest.{IsLongestWalk}

-- a walk may end here, at the position e
abbrev pub EndsThere : (Pair → Type 0) → ℕ → Pair → Type 0
EndsThere Ends e n = Ends n × (n.1 ≡ e)

module _ (ways : Pair → List Pair) (Ends : Pair → Type 0) where
  pub narrowed : {p f w : List Pair} (e : ℕ) → IsWalk ways Ends p f w → (last_of w).1 ≡ e → IsWalk ways (EndsThere Ends e) p f w
  narrowed e b h = other_ends ways Ends (EndsThere Ends e) b (walk_ends ways Ends b, h)

  pub widened : {p f w : List Pair} (e : ℕ) → IsWalk ways (EndsThere Ends e) p f w → IsWalk ways Ends p f w
  widened e b = other_ends ways (EndsThere Ends e) Ends b (walk_ends ways (EndsThere Ends e) b).0

  pub reached : {p f w : List Pair} (e : ℕ) → IsWalk ways (EndsThere Ends e) p f w → (last_of w).1 ≡ e
  reached e b = (walk_ends ways (EndsThere Ends e) b).1

  -- the first walk to the greatest end is the longest walk
  pub longest_of : (p f w : List Pair) (e : ℕ) → IsFirstWalk ways (EndsThere Ends e) p f w →
      ((m : ℕ) → e < m → HasNoWalk ways (EndsThere Ends m) p f) → IsLongestWalk ways Ends p f w
  longest_of p f w e first none = record {
    is_walk = widened e first.is_walk;
    is_most = λ v b. ⊎_elim
        (λ l. absurd (none (last_of v).1 (let q = reached e first.is_walk in omega (arith, l, q)) v (narrowed (last_of v).1 b refl)))
        (λ g. g) (cases_lt (last_of w).1 (last_of v).1);
    is_least = λ v b same. first.is_least v (narrowed e b (same ∙ reached e first.is_walk));
  }

  -- and the longest walk is that
  pub first_of_longest : (p f w : List Pair) → IsLongestWalk ways Ends p f w → IsFirstWalk ways (EndsThere Ends (last_of w).1) p f w
  first_of_longest p f w l = record {
    is_walk = narrowed (last_of w).1 l.is_walk refl;
    is_least = λ v b. l.is_least v (widened (last_of w).1 b) (reached (last_of w).1 b);
  }

  pub none_longer : (p f w : List Pair) → IsLongestWalk ways Ends p f w → (m : ℕ) → (last_of w).1 < m → HasNoWalk ways (EndsThere Ends m) p f
  none_longer p f w l m h v b = let k = l.is_most v (widened m b) in let e = reached m b in omega (arith, k, e, h)

  -- without a walk to any end there is none
  pub none_of_all : (p f : List Pair) → ((e : ℕ) → HasNoWalk ways (EndsThere Ends e) p f) → HasNoWalk ways Ends p f
  none_of_all p f none v b = none (last_of v).1 v (narrowed (last_of v).1 b refl)

  pub none_to : (p f : List Pair) (e : ℕ) → HasNoWalk ways Ends p f → HasNoWalk ways (EndsThere Ends e) p f
  none_to p f e none v b = none v (widened e b)

  -- there is one longest walk
  pub longest_is_one : (p f v w : List Pair) → IsLongestWalk ways Ends p f v → IsLongestWalk ways Ends p f w → v ≡ w
  longest_is_one p f v w a b =
      let k = a.is_most w b.is_walk in
      let l = b.is_most v a.is_walk in
      ⊎_elim (λ e. e)
      (λ q. ⊎_elim (λ e. sym e) (λ r. absurd (not_before_both ways f v w r q)) (a.is_least w b.is_walk (omega (arith, k, l))))
      (b.is_least v a.is_walk (omega (arith, k, l)))

  module _ (onward : (n m : Pair) → IsIn m (ways n) → n.1 ≤ m.1) where
    -- a walk ends where it begins, or after
    pub ends_on : (low e : ℕ) {p f w : List Pair} → ((k : Pair) → IsIn k f → low ≤ k.1) → IsWalk ways (EndsThere Ends e) p f w → low ≤ e
    ends_on low e h (stops k here fresh end) = let a = h k here in let b = end.1 in omega (arith, a, b)
    ends_on low e h (goes k here fresh rest) =
        ends_on low e (λ m i. let a = h k here in let b = onward k m i in omega (arith, a, b)) rest

    pub none_back : (at e : ℕ) (p : List Pair) (n : Pair) → e ≤ at → at < n.1 → HasNoWalk ways (EndsThere Ends e) p (n ∷ [])
    none_back at e p n le lt v b =
        let h : n.1 ≤ e = ends_on n.1 e (λ k i. ⊎_elim (λ q. subst (λ (x : Pair). n.1 ≤ x.1) q (omega arith)) (λ never. absurd never) i) b in
        omega (arith, h, le, lt)
