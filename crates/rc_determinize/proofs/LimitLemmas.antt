-- A state has each place once, so it is no longer than the program.
use Rattle.std.proofs.Common.{◌≡◌, ℕ, ◌≤◌, ◌⊎◌, List, [], ◌∷◌, ◌++◌, map, length, Option, Bool, true, false, true≢false, inl, inr, ⊎_elim, sym, eqb-true, ne_eqb}
use Rattle.std.proofs.Math.Dec.{eqb}
use Rattle.std.specs.List.{IsDistinct, AllByRecursion, list_any}
use Rattle.std.proofs.lemmas.Bool.{cases_Bool}
use Rattle.std.proofs.lemmas.Map.Steps.{length-le_from_distinct_below}
use Rattle.rc_program.specs.Program.{Way, stays, reads}
use Rattle.rc_determinize.specs.Steps.{Adds, all_added, adds_one, leaves_out, IsStep, HasPlace, AreOnce, AreBelow, Steps, out_of_ways, hands_on, skips, arrives, stops_under, comes_back}

abbrev pub read_by : List Way → List ℕ
read_by [] = []
read_by (stays q ∷ ws) = read_by ws
read_by (reads count q ∷ ws) = q ∷ read_by ws

has_parts : (q : ℕ) (xs ys : List ℕ) → HasPlace q (xs ++ ys) → HasPlace q xs ⊎ HasPlace q ys
has_parts q [] ys h = inr h
has_parts q (x ∷ xs) ys h = ⊎_elim (λ e. inl (inl e)) (λ z. ⊎_elim (λ a. inl (inr a)) (λ b. inr b) (has_parts q xs ys z)) h

once_more : (list : List ℕ) (q : ℕ) → AreOnce list → ¬ HasPlace q list → AreOnce (list ++ q ∷ [])
once_more [] q a fresh = ((λ h. h), tt)
once_more (x ∷ xs) q a fresh = (
  (λ h. ⊎_elim a.0 (λ z. ⊎_elim (λ e. fresh (inl (sym e))) (λ never. never) z) (has_parts x xs (q ∷ []) h)),
  once_more xs q a.1 (λ h. fresh (inr h)),
)

pub once_kept : {list qs new : List ℕ} → Adds list qs new → AreOnce list → AreOnce new
once_kept all_added a = a
once_kept (adds_one {list} q fresh s) a = once_kept s (once_more list q a fresh)
once_kept (leaves_out q old s) a = once_kept s a

pub under_kept : (n : ℕ) {list qs new : List ℕ} → Adds list qs new → AreBelow n list → AreBelow n qs → AreBelow n new
under_kept n all_added a b = a
under_kept n (adds_one {list} q fresh s) a b =
    under_kept n s
    (λ k h. ⊎_elim (a k) (λ z. ⊎_elim (λ e. b k (inl e)) (λ never. absurd never) z) (has_parts k list (q ∷ []) h)) (λ k h. b k (inr h))
under_kept n (leaves_out q old s) a b = under_kept n s a (λ k h. b k (inr h))

module _ (out : ℕ → List Way) (ends : ℕ → Bool) (n : ℕ) (closed : (q : ℕ) → AreBelow n (read_by (out q))) where
  onward_under : {visited onward visited2 : List ℕ} {from : List Way} {matched : Option ℕ} → Steps out ends visited from onward matched visited2 →
      AreBelow n (read_by from) → AreBelow n onward
  onward_under out_of_ways b = λ k h. absurd h
  onward_under (hands_on q s) b = λ k h. ⊎_elim (λ e. b k (inl e)) (onward_under s (λ m z. b m (inr z)) k) h
  onward_under (skips q seen s) b = onward_under s b
  onward_under (arrives q fresh e) b = λ k h. absurd h
  onward_under (stops_under q fresh on sub) b = onward_under sub (closed q)
  onward_under (comes_back {onward = onward} {onward2 = onward2} q fresh on sub s) b =
      λ k h. ⊎_elim (onward_under sub (closed q) k) (onward_under s b k) (has_parts k onward onward2 h)

  nothing_read : (list : List ℕ) → AreBelow n (read_by (map stays list))
  nothing_read [] k h = absurd h
  nothing_read (q ∷ qs) k h = nothing_read qs k h

  -- the next list has each place once, and only places of the program
  pub next_fits : {list next : List ℕ} {matched : Option ℕ} → IsStep out ends list next matched → AreOnce next × AreBelow n next
  next_fits {list} s =
      (once_kept s.once tt, under_kept n s.once (λ k h. absurd h) (onward_under s.steps (nothing_read list)))

apart : (q : ℕ) (qs : List ℕ) → ¬ HasPlace q qs → AllByRecursion (λ y. eqb q y ≡ false) qs
apart q [] fresh = tt
apart q (p ∷ ps) fresh = (ne_eqb q p (λ e. fresh (inl (sym e))), apart q ps (λ h. fresh (inr h)))

distinct : (qs : List ℕ) → AreOnce qs → IsDistinct eqb qs
unfolding IsDistinct
distinct [] a = tt
distinct (q ∷ qs) a = (apart q qs a.0, distinct qs a.1)

any_place : (q : ℕ) (qs : List ℕ) → list_any (eqb q) qs ≡ true → HasPlace q qs
any_place q [] h = absurd (true≢false (sym h))
any_place q (p ∷ ps) h =
    ⊎_elim (λ t. inl (sym (eqb-true q p t))) (λ f. inr (any_place q ps (rw f at h))) (cases_Bool (eqb q p))

-- so it is no longer than the program
pub short : (n : ℕ) (qs : List ℕ) → AreOnce qs → AreBelow n qs → length qs ≤ n
short n qs a b = length-le_from_distinct_below qs n (distinct qs a) (λ q h. b q (any_place q qs h))
