-- The searches forwards and backwards give the answer.
use Rattle.std.proofs.Common.{◌≡◌, ℕ, suc, ◌+◌, ◌-◌, ◌<◌, ◌≤◌, ◌⊎◌, List, [], ◌∷◌, Some, Bool, true, false, not, true≢false, IsTrue, ◌||◌, inl, inr, ⊎_elim, sym, subst, ap, ◌∙◌, refl, arith}
use Rattle.std.proofs.lemmas.Bool.{cases_lt}
use Rattle.rc_text.specs.Text.{is_boundary}
use Rattle.rc_walks.specs.Walks.{Pair, IsIn, HasNoWalk, EndsAt}
use Rattle.rc_program.specs.Answer.{Search, ends, next_of, only, is_anchored, last_of, is_allowed, IsStart, IsPassed, IsAnswer, HasNoAnswer}
use Rattle.rc_program.proofs.WayLemmas.{same_pair}
use Rattle.rc_determinize.specs.Gives.{Gives, starts}
use Rattle.rc_determinize.specs.Steps.{IsByBytes}
use Rattle.rc_determinize.proofs.Leads.{IsLeastStart}
use Rattle.rc_determinize.specs.States.{all_starts}
use Rattle.rc_determinize.proofs.RunLemmas.{span, least_decided, starts_none}
use Rattle.rc_determinize.proofs.TextLemmas.{near, last}

pub last_at : (w : List Pair) (e : Pair) → EndsAt w e → last_of w ≡ e
last_at [] e h = absurd h
last_at (n ∷ []) e h = h
last_at (n ∷ m ∷ w) e h = last_at (m ∷ w) e h

-- how many starts there are
abbrev pub count_of : Bool → ℕ → ℕ → ℕ
count_of true from hi = 1
count_of false from hi = suc (hi - from)

pub counted : (anchored : Bool) (root from hi : ℕ) → all_starts anchored root from hi ≡ starts root from (count_of anchored from hi)
counted true root from hi = refl
counted false root from hi = refl

module _ (s : Search) (by_bytes : IsByBytes s.places) where
  abbrev pub Ends : Pair → Type 0
  Ends n = IsTrue (ends s n)

  pub near_in : (n m : Pair) → IsIn m (next_of s n) → (m.1 ≡ n.1) ⊎ (m.1 ≡ n.1 + 1)
  near_in = near s.places s.text s.hi by_bytes

  pub last_in : (n m : Pair) → Ends n → ¬ IsIn m (next_of s n)
  last_in = last s.places s.text s.hi (only s.anchoring)

  -- What has been passed over before `from`.
  pub record IsRaised (from : ℕ) : Type 0 where
    pub start : IsStart s from
    pub passed : (y : ℕ) → IsStart s y → y < from → IsPassed s y

  pub allowed_at : (w : List Pair) (e : Pair) → EndsAt w e → is_allowed s w ≡ (not s.passes_over || is_boundary s.text.content e.1)
  allowed_at w e at = ap (λ (n : Pair). not s.passes_over || is_boundary s.text.content n.1) (last_at w e at)

  pub in_count : (anchored : Bool) (from x : ℕ) → from ≤ s.hi → from ≤ x → x < from + count_of anchored from s.hi → (anchored ≡ true → from ≡ s.lo) →
      (x ≤ s.hi) × (anchored ≡ true → x ≡ s.lo)
  in_count true from x le ge lt e = let f = e refl in (omega (arith, le, ge, lt), λ h. omega (arith, ge, lt, f))
  in_count false from x le ge lt e = (omega (arith, le, ge, lt), λ h. absurd (true≢false (sym h)))

  -- each start is one of them
  pub counts : (anchored : Bool) (from y : ℕ) → from ≤ y → y ≤ s.hi → (anchored ≡ true → y ≡ s.lo) → s.lo ≤ from → y < from + count_of anchored from s.hi
  counts true from y ge le e low = let f = e refl in omega (arith, ge, f, low)
  counts false from y ge le e low = omega (arith, ge, le)

  -- The end found from there, and the least start found backwards.
  pub answers : (from x : ℕ) (e : Pair) → IsRaised from →
      Gives (next_of s) Ends [] (all_starts (is_anchored s.anchoring) 0 from s.hi) (Some e) → IsLeastStart (next_of s) Ends 0 from e.1 x →
      (not s.passes_over || is_boundary s.text.content e.1) ≡ true →
      (w : List Pair) × IsAnswer s (record { start = x; walk = w }) × EndsAt w e
  answers from x e raised g least bound =
      let a = is_anchored s.anchoring in
      let r = span (next_of s) Ends same_pair last_in near_in 0 from (count_of a from s.hi) x e
      (subst (λ xs. Gives (next_of s) Ends [] xs (Some e)) (counted a 0 from s.hi) g) least in
      let w = r.1.0 in
      let at_least = least.at_least in let low = raised.start.0 in
      let inside = in_count a from x raised.start.1 at_least r.0 (λ h. raised.start.2 h) in (
        w,
        record {
          is_start = (omega (arith, at_least, low), inside.0, λ h. inside.1 h);
          is_first = r.1.1;
          allowed = allowed_at w e r.1.2 ∙ bound;
          none_before = λ y is lt. ⊎_elim (λ before. raised.passed y is before) (λ behind. inl (r.2 y behind lt)) (cases_lt y from);
        },
        r.1.2,
      )

  -- An end off a boundary: the start from which the search began is passed over, whichever start the end belongs to.
  pub raises : (from : ℕ) (e : Pair) → IsRaised from →
      Gives (next_of s) Ends [] (all_starts (is_anchored s.anchoring) 0 from s.hi) (Some e) →
      (not s.passes_over || is_boundary s.text.content e.1) ≡ false → IsPassed s from
  raises from e raised g off =
      ⊎_elim (λ none. inl none)
      (λ f. inr (f.0, f.1, allowed_at f.0 e f.2 ∙ off))
      (by_count (is_anchored s.anchoring) g)
    where
      by_count : (a : Bool) → Gives (next_of s) Ends [] (all_starts a 0 from s.hi) (Some e) →
          HasNoWalk (next_of s) Ends [] ((0, from) ∷ []) ⊎ Gives (next_of s) Ends [] ((0, from) ∷ []) (Some e)
      by_count true g = least_decided (next_of s) Ends same_pair last_in near_in 0 from 0 e g
      by_count false g = least_decided (next_of s) Ends same_pair last_in near_in 0 from (s.hi - from) e g

  -- no start is left
  pub no_answer : (from : ℕ) → IsRaised from →
      HasNoWalk (next_of s) Ends [] (all_starts (is_anchored s.anchoring) 0 from s.hi) → HasNoAnswer s
  no_answer from raised none y is =
      let a = is_anchored s.anchoring in
      ⊎_elim (λ before. raised.passed y is before)
      (λ behind. inl (starts_none (next_of s) Ends same_pair last_in near_in 0 from (count_of a from s.hi)
      (subst (λ xs. HasNoWalk (next_of s) Ends [] xs) (counted a 0 from s.hi) none) y behind
      (counts a from y behind is.1 (λ h. is.2 h) raised.start.0)))
      (cases_lt y from)

  -- the next search begins behind it
  pub raised_on : (from : ℕ) → IsRaised from → IsPassed s from → from < s.hi → is_anchored s.anchoring ≡ false → IsRaised (from + 1)
  raised_on from raised passed lt free =
      let low = raised.start.0 in
      record {
        start = (omega (arith, low), omega (arith, lt), λ h. absurd (true≢false (sym h ∙ free)));
        passed = λ y is less. ⊎_elim (λ before. raised.passed y is before)
            (λ ge. let e : from ≡ y = omega (arith, ge, less) in subst (λ k. IsPassed s k) e passed) (cases_lt y from);
      }

  -- or there is none behind it
  pub passed_all : (from : ℕ) → IsRaised from → IsPassed s from → (s.hi ≤ from) ⊎ (is_anchored s.anchoring ≡ true) → HasNoAnswer s
  passed_all from raised passed done y is =
      ⊎_elim (λ before. raised.passed y is before)
      (λ ge. let le = is.1 in ⊎_elim
      (λ high. let e : from ≡ y = omega (arith, ge, high, le) in subst (λ k. IsPassed s k) e passed)
      (λ h. subst (λ k. IsPassed s k) (raised.start.2 h ∙ sym (is.2 h)) passed) done)
      (cases_lt y from)
