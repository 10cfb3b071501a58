-- The next half is the half of the next match.
use Rattle.std.proofs.Common.{◌≡◌, ℕ, ◌+◌, ◌≤◌, Bool, true, false, ◌&&◌, Option, Some, None, Result, IfOk, IfSome, if◌then◌else◌, nat_eq, refl, sym, arith, ⊎_elim, subst}
use Rattle.std.specs.Option.{option_map}
use Rattle.std.proofs.lemmas.Bool.{cases_Bool, eq-eqb, eqb-true}
use Rattle.rc_text.specs.Found.{Found, HalfFound, half_of}
use Rattle.rc_text.specs.declared.types.MatchError.{MatchError}
use Rattle.rc_program.specs.Matches.{begin_of, end_of, next_match, unless_again}
use Rattle.rc_iter.specs.Finders.{Task, task_of, with_start, offset_of}
use Rattle.rc_iter.specs.Searchers.{Searching, next_by, FindsAhead, IsPast, halves_of}

-- an end that is met again shows that the match is empty
same_test : (k last start end : ℕ) → last ≤ k → k ≤ start → start ≤ end →
    (nat_eq end end && nat_eq end last) ≡ (nat_eq start end && nat_eq end last)
same_test k last start end past ahead order =
    ⊎_elim
    (λ yes. let e = eqb-true end last yes in
    rw (yes, eq-eqb end end refl, eq-eqb start end (omega (arith, past, ahead, order, e))) refl)
    (λ no. subst (λ b. (nat_eq end end && b) ≡ (nat_eq start end && b)) (sym no) (none (nat_eq end end) (nat_eq start end)))
    (cases_Bool (nat_eq end last))
  where
    none : (a b : Bool) → (a && false) ≡ (b && false)
    none true true = refl
    none true false = refl
    none false true = refl
    none false false = refl

half_if : (b : Bool) (x y : Option Found) → (if b then option_map half_of x else option_map half_of y) ≡ option_map half_of (if b then x else y)
half_if true x y = refl
half_if false x y = refl

module _ (find : ℕ → Option Found) (ahead : (k : ℕ) (m : Found) → find k ≡ Some m → (k ≤ m.start) × (m.start ≤ m.end)) where
  half_unless : (k : ℕ) (last : Option ℕ) (o : Option Found) → find k ≡ o → IfSome last (λ l. l ≤ k) →
      unless_again offset_of offset_of (λ n. option_map half_of (find n)) k last (option_map half_of o) ≡
      option_map half_of (unless_again begin_of end_of find k last o)
  half_unless k last None is past = refl
  half_unless k None (Some m) is past = refl
  half_unless k (Some l) (Some m) is past =
      let h = ahead k m is in
      rw (same_test k l m.start m.end past h.0 h.1) (half_if (nat_eq m.start m.end && nat_eq m.end l) (find (k + 1)) (Some m))

  pub half_next : (k : ℕ) (last : Option ℕ) → IfSome last (λ l. l ≤ k) →
      next_match offset_of offset_of (λ n. option_map half_of (find n)) k last ≡ option_map half_of (next_match begin_of end_of find k last)
  half_next k last past = half_unless k last (find k) refl past

-- so it is for a searcher
pub half_next_by : (find : Task → Option Found) (s : Searching) → FindsAhead find → IsPast s →
    next_by offset_of offset_of (halves_of find) s ≡ option_map half_of (next_by begin_of end_of find s)
half_next_by find s ahead past =
    half_next (λ k. find (task_of (with_start s.input k))) (λ k m is. ahead (task_of (with_start s.input k)) m is) s.input.span.start s.last past

pub half_answer : (find : Task → Option Found) (s : Searching) (r : Result (Option HalfFound) MatchError) → FindsAhead find → IsPast s →
    IfOk r (λ o. o ≡ next_by offset_of offset_of (halves_of find) s) → IfOk r (λ o. o ≡ option_map half_of (next_by begin_of end_of find s))
half_answer find s r ahead past is = subst (λ x. IfOk r (λ o. o ≡ x)) (half_next_by find s ahead past) is
