-- The measure of such a search: how many steps are left at most.
use Rattle.std.proofs.Common.{◌≡◌, ℕ, zero, suc, ◌+◌, ◌*◌, ◌<◌, ◌≤◌, List, [], ◌∷◌, length, map, inl, inr, ⊎_elim, sym, ap, ap₂, arith, true, false, ne_eqb, eqb-true, true≢false}
use Rattle.std.proofs.lemmas.List.{length-map}
use Rattle.std.proofs.lemmas.Bool.{cases_lt, cases_Bool}
use Rattle.std.proofs.Math.Dec.{eqb}
use Rattle.std.specs.List.{IsDistinct, AllByRecursion, list_any}
use Rattle.std.proofs.lemmas.Map.Steps.{length-le_from_distinct_below}
use Rattle.std.proofs.Math.Nat.{mul-le-mul_right}
use Rattle.rc_walks.specs.Walks.{Pair, IsIn}

-- the most steps that a pair takes with k more pairs to come, where each has at most `most` ways
abbrev pub cost : ℕ → ℕ → ℕ
cost most zero = 1
cost most (suc k) = 2 + most * cost most k

-- the steps left where these many ways are untried, the uppermost first, and k more pairs may come
abbrev pub steps_left : ℕ → List ℕ → ℕ → ℕ
steps_left most [] k = 0
steps_left most (r ∷ rs) k = r * cost most k + 1 + steps_left most rs (suc k)

pub falls_back : (most r : ℕ) (rs : List ℕ) (k : ℕ) → steps_left most rs (suc k) < steps_left most (r ∷ rs) k
falls_back most r rs k = omega arith

cost_pos : (most k : ℕ) → 0 < cost most k
cost_pos most zero = omega arith
cost_pos most (suc k) = omega arith

pub falls_skipping : (most r : ℕ) (rs : List ℕ) (k : ℕ) → steps_left most (r ∷ rs) k < steps_left most (suc r ∷ rs) k
falls_skipping most r rs k =
    let pos : 0 < cost most k = cost_pos most k in
    let e : suc r * cost most k ≡ cost most k + r * cost most k = omega arith in
    omega (arith, e)

pub falls_on : (most r s : ℕ) (rs : List ℕ) (k : ℕ) → s ≤ most →
    steps_left most (s ∷ r ∷ rs) k < steps_left most (suc r ∷ rs) (suc k)
falls_on most r s rs k h =
    let e : suc r * cost most (suc k) ≡ cost most (suc k) + r * cost most (suc k) = omega arith in
    let m : s * cost most k ≤ most * cost most k = mul-le-mul_right (cost most k) h in
    omega (arith, e, m)

-- no pair stands in the list twice
abbrev pub AreApart : List Pair → Type 0
AreApart [] = Unit {0}
AreApart (n ∷ ns) = (¬ IsIn n ns) × AreApart ns

abbrev pub AreBelow : ℕ → ℕ → List Pair → Type 0
AreBelow p w [] = Unit {0}
AreBelow p w (n ∷ ns) = ((n.0 < p) × (n.1 < w)) × AreBelow p w ns

abbrev code : ℕ → Pair → ℕ
code w n = n.0 * w + n.1

code_apart : (w a b c d : ℕ) → b < w → d < w → a < c → a * w + b < c * w + d
code_apart w a b c d p q l =
    let m : suc a * w ≤ c * w = mul-le-mul_right w l in
    let e : suc a * w ≡ w + a * w = omega arith in
    omega (arith, m, e)

same_code : (w : ℕ) (n m : Pair) → n.1 < w → m.1 < w → code w n ≡ code w m → n ≡ m
same_code w n m p q e =
    ⊎_elim (λ l. absurd (let x = code_apart w n.0 n.1 m.0 m.1 p q l in omega (arith, x, e)))
    (λ ge. ⊎_elim (λ l. absurd (let x = code_apart w m.0 m.1 n.0 n.1 q p l in omega (arith, x, e)))
    (λ le. let same : n.0 ≡ m.0 = omega arith in
    let scaled : n.0 * w ≡ m.0 * w = ap (λ x. x * w) same in
    let rest : n.1 ≡ m.1 = omega (arith, scaled, e) in
    ap₂ (λ x y. (x, y)) same rest) (cases_lt m.0 n.0)) (cases_lt n.0 m.0)

apart_from : (p w : ℕ) (n : Pair) (ns : List Pair) → n.1 < w → AreBelow p w ns → ¬ IsIn n ns →
    AllByRecursion (λ y. eqb (code w n) y ≡ false) (map (code w) ns)
apart_from p w n [] h b fresh = tt
apart_from p w n (m ∷ ms) h b fresh =
    (ne_eqb _ _ (λ e. fresh (inl (sym (same_code w n m h b.0.1 e)))), apart_from p w n ms h b.1 (λ q. fresh (inr q)))

codes_distinct : (p w : ℕ) (ns : List Pair) → AreBelow p w ns → AreApart ns → IsDistinct eqb (map (code w) ns)
unfolding IsDistinct
codes_distinct p w [] b a = tt
codes_distinct p w (n ∷ ns) b a = (apart_from p w n ns b.0.1 b.1 a.0, codes_distinct p w ns b.1 a.1)

code_below : (p w : ℕ) (n : Pair) → n.0 < p → n.1 < w → code w n < p * w
code_below p w n h k =
    let m : suc n.0 * w ≤ p * w = mul-le-mul_right w h in
    let e : suc n.0 * w ≡ w + n.0 * w = omega arith in
    omega (arith, m, e)

codes_below : (p w : ℕ) (ns : List Pair) → AreBelow p w ns → (q : ℕ) → list_any (eqb q) (map (code w) ns) ≡ true → q < p * w
codes_below p w [] b q h = absurd (true≢false (sym h))
codes_below p w (n ∷ ns) b q h =
    ⊎_elim
    (λ t. let e = eqb-true q (code w n) t in let l = code_below p w n b.0.0 b.0.1 in omega (arith, l, e))
    (λ f. codes_below p w ns b.1 q (rw f at h))
    (cases_Bool (eqb q (code w n)))

pub length_below : (p w : ℕ) (ns : List Pair) → AreBelow p w ns → AreApart ns → length ns ≤ p * w
length_below p w ns b a =
    let h = length-le_from_distinct_below (map (code w) ns) (p * w) (codes_distinct p w ns b a) (codes_below p w ns b) in
    rw length-map at h
