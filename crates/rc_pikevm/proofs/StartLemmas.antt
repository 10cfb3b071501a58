-- The starts that are still to come.
use Rattle.std.proofs.Common.{◌≡◌, ℕ, zero, suc, ◌+◌, ◌-◌, ◌<◌, ◌≤◌, [], ◌∷◌, inl, inr, ⊎_elim, subst, sym, ap, ◌∙◌, refl, arith, Bool, true, false, Option, None}
use Rattle.std.proofs.lemmas.Bool.{cases_lt}
use Rattle.rc_walks.specs.Threads.{IsFirstOf, AllPast, passes}
use Rattle.rc_walks.proofs.ThreadLemmas.{of_none, of_one}
use Rattle.rc_pikevm.specs.Sights.{Sight, next_of, next_to, HasNoWalkFrom, HasNoWalkTo}
use Rattle.rc_pikevm.specs.Trace.{Trace, note, starts, sets_out}
use Rattle.rc_pikevm.specs.Passing.{waiting_starts, GivesTraceTo}
use Rattle.rc_pikevm.proofs.MoveLemmas.{Ends, EndsTo}

-- the next start is first among those that wait
pub waiting_next : (is_open : Bool) (width at last : ℕ) → is_open ≡ true → at ≤ last →
    waiting_starts is_open width at last ≡ sets_out width at ∷ waiting_starts is_open width (at + 1) last
waiting_next is_open width at last e h =
    let n : last + 1 - at ≡ suc (last + 1 - (at + 1)) = omega arith in
    rw e (ap (starts width at) n)

-- no start is left
pub waiting_over : (is_open : Bool) (width at last : ℕ) → last < at → waiting_starts is_open width at last ≡ []
waiting_over true width at last h = let e : last + 1 - at ≡ 0 = omega arith in rw e refl
waiting_over false width at last h = refl

starts_past : (width at x count : ℕ) → at < x → AllPast at (starts width x count)
starts_past width at x zero h = tt
starts_past width at x (suc count) h = (h, starts_past width at (x + 1) count (omega arith))

pub waiting_past : (is_open : Bool) (width at last : ℕ) → AllPast at (waiting_starts is_open width (at + 1) last)
waiting_past true width at last = starts_past width at (at + 1) (last + 1 - (at + 1)) (omega arith)
waiting_past false width at last = tt

module _ (limit : Option ℕ) (s : Sight) (width from : ℕ) where
  -- of all starts the least that has a walk decides
  pub starts_give : (x count last : ℕ) (o : Option Trace) → from ≤ x → last + 1 ≡ x + count → ((y : ℕ) → from ≤ y → y < x → HasNoWalkTo limit s y) →
      IsFirstOf (next_to limit s) (EndsTo limit s) Trace (note s.places) [] (λ q. q ≡ None) (starts width x count) o → GivesTraceTo limit s width from last o
  starts_give x zero last o low sum none p =
      inl (of_none (next_to limit s) (EndsTo limit s) Trace (note s.places) p, λ y l h. none y l (omega arith))
  starts_give x (suc count) last o low sum none p =
      ⊎_elim
      (λ f. inr (x, f.0, low, omega arith, f.1, none, f.2))
      (λ f. starts_give (x + 1) count last o (omega arith) (omega arith)
      (λ y l h. ⊎_elim (λ b. none y l b)
      (λ ge. let e : x ≡ y = omega arith in subst (λ z. HasNoWalkTo limit s z) e f.0) (cases_lt y x)) f.1)
      (of_one (next_to limit s) (EndsTo limit s) Trace (note s.places) p)

module _ (s : Sight) (width last : ℕ) (best : Option Trace) where
  -- starts without a walk decide nothing
  pub starts_skipped : (count at : ℕ) (o : Option Trace) → ((y : ℕ) → at ≤ y → y < at + count → HasNoWalkFrom s y) →
      IsFirstOf (next_of s) (Ends s) Trace (note s.places) [] (λ q. q ≡ best) (waiting_starts true width (at + count) last) o →
      IsFirstOf (next_of s) (Ends s) Trace (note s.places) [] (λ q. q ≡ best) (waiting_starts true width at last) o
  starts_skipped zero at o none p =
      let e : at + 0 ≡ at = omega arith in
      subst (λ x. IsFirstOf (next_of s) (Ends s) Trace (note s.places) [] (λ q. q ≡ best) (waiting_starts true width x last) o) e p
  starts_skipped (suc count) at o none p =
      let e : at + suc count ≡ at + 1 + count = omega arith in
      let rest = starts_skipped count (at + 1) o (λ y a b. none y (omega (arith, a)) (omega (arith, b)))
      (subst (λ x. IsFirstOf (next_of s) (Ends s) Trace (note s.places) [] (λ q. q ≡ best) (waiting_starts true width x last) o) e p) in
      ⊎_elim
      (λ past. let left : waiting_starts true width (at + 1) last ≡ waiting_starts true width at last =
      waiting_over true width (at + 1) last (omega (arith, past)) ∙ sym (waiting_over true width at last past) in
      subst (λ ts. IsFirstOf (next_of s) (Ends s) Trace (note s.places) [] (λ q. q ≡ best) ts o) left rest)
      (λ le. subst (λ ts. IsFirstOf (next_of s) (Ends s) Trace (note s.places) [] (λ q. q ≡ best) ts o)
      (sym (waiting_next true width at last refl le))
      (passes (sets_out width at) (none at (omega arith) (omega arith)) rest))
      (cases_lt last at)
