-- The pass over all positions.
use Rattle.std.proofs.Common.{◌≡◌, ℕ, suc, ◌+◌, ◌-◌, ◌*◌, ◌^◌, ◌<◌, ◌≤◌, ◌⊎◌, List, [], ◌∷◌, ◌++◌, length, map, sym, subst, refl, arith, Bool, true, true≢false, IsTrue, Option, Some, None, is_none}
use Rattle.std.proofs.Math.Nat.{mul-le-mul_left}
use Rattle.rc_walks.specs.Threads.{IsFirstOf, over}
use Rattle.rc_pikevm.specs.Sights.{Sight, next_of, next_to, HasNoWalkFrom}
use Rattle.rc_pikevm.specs.Threads.{Thread, ThreadList}
use Rattle.rc_pikevm.specs.Trace.{Trace, note, starts}
use Rattle.rc_pikevm.specs.Passing.{pending, Carries, CarriesTo, AllIn, waiting_starts, Pending, PendingTo, GivesTraceTo, best_of}
use Rattle.rc_pikevm.specs.declared.pass.Ending.{Ending}
use Rattle.rc_pikevm.proofs.MoveLemmas.{Ends, EndsTo}
use Rattle.rc_pikevm.proofs.StartLemmas.{starts_give, starts_skipped}

pub none_in : (n lo hi : ℕ) (ts : List Thread) → AllIn n lo hi ts → hi < lo → ts ≡ []
none_in n lo hi [] all h = refl
none_in n lo hi (t ∷ ts) all h = absurd (omega (arith, h, all.0))

pub no_threads : (ts : List Thread) → length ts ≡ 0 → ts ≡ []
no_threads [] e = refl
no_threads (t ∷ ts) e = absurd (omega arith)

none_before : (x y : ℕ) → x ≤ y → y < x → ⊥
none_before x y l h = omega arith

-- a pass at `at` goes on at x: there, or, where it is idle, at a later position, and no start between has a walk
abbrev pub GoesOn : Sight → ℕ → Bool → ℕ → ℕ → Type 0
GoesOn s hi idle at x = (at ≤ x) × (x ≤ hi) × ((x ≡ at) ⊎ (IsTrue idle × ((y : ℕ) → at ≤ y → y < x → HasNoWalkFrom s y)))

module _ (s : Sight) (width from last : ℕ) where
  -- all starts give what the pass is to give
  pub begins_to : (limit : Option ℕ) (curr : List Thread) (found : List (Option ℕ)) → curr ≡ [] → from ≤ last → (o : Option Trace) →
      PendingTo limit s width last from curr None found o → GivesTraceTo limit s width from last o
  begins_to limit curr found no_items low o x =
      starts_give limit s width from from (last + 1 - from) last o (omega arith) (omega arith) (λ y l h. absurd (none_before from y l h))
      (all_starts o (subst (λ ts. CarriesTo limit s from [] [] (map pending ts ++ waiting_starts true width from last) None o) no_items x))
    where
      all_starts : (o : Option Trace) → CarriesTo limit s from [] [] (starts width from (last + 1 - from)) None o →
          IsFirstOf (next_to limit s) (EndsTo limit s) Trace (note s.places) [] (λ q. q ≡ None) (starts width from (last + 1 - from)) o
      all_starts o (over x) = x

  -- nothing is left to go on
  pub done_to : (limit : Option ℕ) (at : ℕ) (curr : List Thread) (best : Option Ending) (found : List (Option ℕ)) →
      ((o : Option Trace) → PendingTo limit s width last at curr best found o → GivesTraceTo limit s width from last o) →
      length curr ≡ 0 → waiting_starts (is_none best) width at last ≡ [] → GivesTraceTo limit s width from last (best_of best found)
  done_to limit at curr best found carries none no_starts =
      carries (best_of best found)
      (subst (λ ts. CarriesTo limit s at [] [] (map pending ts ++ waiting_starts (is_none best) width at last) (best_of best found) (best_of best found))
      (sym (no_threads curr none))
      (subst (λ ws. CarriesTo limit s at [] [] ws (best_of best found) (best_of best found)) (sym no_starts) (over (over refl))))

  -- what an idle pass carries at a later start, it carries at an earlier one, where no start between them has a walk
  pub skips_carries : (at x : ℕ) (curr : ThreadList) (best : Option Ending) (found : List (Option ℕ)) (o : Option Trace) → length curr.items ≡ 0 →
      is_none best ≡ true → at ≤ x → ((y : ℕ) → at ≤ y → y < x → HasNoWalkFrom s y) → Pending s width last x curr.items best found o →
      Pending s width last at curr.items best found o
  skips_carries at x curr (Some r) found o none unmatched low no_walk p = absurd (true≢false (sym unmatched))
  skips_carries at x curr None found o none unmatched low no_walk p =
      let e : at + (x - at) ≡ x = omega (arith, low) in
      subst (λ ts. Carries s at [] [] (map pending ts ++ waiting_starts true width at last) None o) (sym (no_threads curr.items none))
      (over (starts_skipped s width last None (x - at) at o (λ y a b. no_walk y a (omega (arith, b, low)))
      (subst (λ z. IsFirstOf (next_of s) (Ends s) Trace (note s.places) [] (λ q. q ≡ None) (waiting_starts true width z last) o) (sym e)
      (waits_alone x o (subst (λ ts. Carries s x [] [] (map pending ts ++ waiting_starts true width x last) None o) (no_threads curr.items none) p)))))
    where
      waits_alone : (z : ℕ) (o : Option Trace) → Carries s z [] [] (waiting_starts true width z last) None o →
          IsFirstOf (next_of s) (Ends s) Trace (note s.places) [] (λ q. q ≡ None) (waiting_starts true width z last) o
      waits_alone z o (over y) = y

-- at most n at each of the positions
pub counted_in_all : (n at from hi insertions : ℕ) → insertions ≤ n * (at - from) → at ≤ hi + 1 → from ≤ hi → insertions ≤ n * (hi - from + 1)
counted_in_all n at from hi insertions few within low =
    let m : n * (at - from) ≤ n * (hi - from + 1) = mul-le-mul_left n (omega arith) in
    omega (arith, m, few)

-- what was counted fits a u128, with the places of one position more
pub counts_fit : (n k insertions : ℕ) → n < 2 ^ 63 → k < 2 ^ 64 → insertions ≤ n * k → insertions + n < 2 ^ 128
counts_fit n k insertions few short counted =
    let m : n * k ≤ n * 18446744073709551616 = mul-le-mul_left n (omega (arith, short)) in
    omega (arith, m, few, counted)

-- so it does with one for each position more
pub counts_small : (n k insertions : ℕ) → n < 2 ^ 63 → k < 2 ^ 64 → insertions ≤ n * k → insertions + 2 ^ 66 < 2 ^ 128
counts_small n k insertions few short counted =
    let m : n * k ≤ n * 18446744073709551616 = mul-le-mul_left n (omega (arith, short)) in
    omega (arith, m, few, counted)

-- the same, where the last of the positions adds n at most
pub counted_at_last : (n at from hi insertions insertions2 : ℕ) → insertions ≤ n * (at - from) → insertions2 ≤ insertions + n → at < hi + 1 → from ≤ at →
    insertions2 ≤ n * (hi - from + 1)
counted_at_last n at from hi insertions insertions2 before more within low =
    let m : n * suc (at - from) ≤ n * (hi - from + 1) = mul-le-mul_left n (omega (arith, within, low)) in
    let e : n * suc (at - from) ≡ n * (at - from) + n = omega arith in
    omega (arith, m, e, before, more)
