-- A run reads what stands before the position that it came to.
use Rattle.std.proofs.Common.{◌≡◌, ℕ, ◌+◌, ◌<◌, ◌≤◌, Bool, Option, Some, None, ⊎_elim, sym, subst, ap, refl, arith}
use Rattle.std.proofs.lemmas.Option.{none-some, some_pair_parts}
use Rattle.std.proofs.lemmas.Bool.{cases_lt}
use Rattle.rc_text.specs.declared.types.Anchored.{Anchored}
use Rattle.rc_program.specs.Looks.{Side}
use Rattle.rc_program.specs.Text.{Text, before_at, after_at}
use Rattle.rc_determinize.specs.States.{State, best_at}
use Rattle.rc_dfa.specs.Machine.{Alphabet, bytes, symbols, Machine, Leads, Begins}
use Rattle.rc_dfa.specs.Runs
use Rattle.rc_dfa.specs.Runs.{MayRead, MayReadSide, LeadsAcross, LeadsBy, BeginsBy, RunEnd, met_last}
use Rattle.rc_dfa.specs.Reads
use Rattle.rc_dfa.specs.Reads.{EndsBelowOver, SearchEndsBelow}
use Rattle.rc_dfa.proofs.ReadLemmas.{search_ends}
use Rattle.rc_dfa_reach.specs.RunReach.{LookSame, ReadsSame, RunReachLaw}

-- what is read is the same
may_same : (a : Alphabet) (m : Machine) (x y : Side) → ReadsSame a x y → MayReadSide a m y → MayReadSide a m x
may_same bytes m x y e h = subst (MayRead m) (sym e) h
may_same symbols m x y e h = tt

never_same : (a : Alphabet) (m : Machine) (x y : Side) → ReadsSame a x y → ¬ MayReadSide a m y → ¬ MayReadSide a m x
never_same bytes m x y e h may = h (subst (MayRead m) e may)
never_same symbols m x y e h may = h tt

across_same : (a : Alphabet) (m : Machine) (x y far other : Side) (s next : State) → ReadsSame a x y → ReadsSame a far other →
    LeadsAcross a m y other s next → LeadsAcross a m x far s next
across_same bytes m x y far other s next e f h = subst (λ b. Leads m s b next) (sym e) h
across_same symbols m x y far other s next e f h =
    subst (λ z. LeadsAcross symbols m z far s next) (sym e) (subst (λ z. LeadsAcross symbols m y z s next) (sym f) h)

by_same : (a : Alphabet) (m : Machine) (x y : Side) (s next : State) → ReadsSame a x y → LeadsBy a m y s next → LeadsBy a m x s next
by_same bytes m x y s next e h = subst (λ b. Leads m s b next) (sym e) h
by_same symbols m x y s next e h = subst (λ z. LeadsBy symbols m z s next) (sym e) h

begins_same : (a : Alphabet) (m : Machine) (anchored : Anchored) (x y : Side) (s : State) → ReadsSame a x y → BeginsBy a m anchored y s →
    BeginsBy a m anchored x s
begins_same bytes m anchored x y s e h = subst (λ b. Begins m anchored b s) (sym e) h
begins_same symbols m anchored x y s e h = subst (λ z. BeginsBy symbols m anchored z s) (sym e) h

module _ {a : Alphabet} (m : Machine) (t : Text) (hi from : ℕ) where
  run_low : (first : State) {i : ℕ} {s : State} {met : Option (ℕ × ℕ)} → Runs.RunsOver a m t hi from first i s met → from ≤ i
  run_low first Runs.begun = omega arith
  run_low first (Runs.goes_on i s next run h read leads) = let l = run_low first run in omega (arith, l)

  run_high : (first : State) {i : ℕ} {s : State} {met : Option (ℕ × ℕ)} → from ≤ hi → Runs.RunsOver a m t hi from first i s met → i ≤ hi
  run_high first below Runs.begun = below
  run_high first below (Runs.goes_on i s next run h read leads) = omega (arith, h)

  run_longer : (more : ℕ) → hi ≤ more → (first : State) {i : ℕ} {s : State} {met : Option (ℕ × ℕ)} → Runs.RunsOver a m t hi from first i s met →
      Runs.RunsOver a m t more from first i s met
  run_longer more h first Runs.begun = Runs.begun
  run_longer more h first (Runs.goes_on i s next run l read leads) = Runs.goes_on i s next (run_longer more h first run) (omega (arith, h, l)) read leads

  module _ (r : ℕ) (u : Text) (other_hi : ℕ) (same : LookSame a r t hi u other_hi) where
    within : (i : ℕ) → i + 1 ≤ r → i < hi → i < other_hi
    within i a b =
        ⊎_elim (λ short. let e = same.near short in omega (arith, e, b)) (λ long. let f = same.far long in omega (arith, f, a)) (cases_lt hi r)

    on_bound : (i : ℕ) → i ≤ r → i ≤ hi → i ≤ other_hi
    on_bound i a b =
        ⊎_elim (λ short. let e = same.near short in omega (arith, e, b)) (λ long. let f = same.far long in omega (arith, f, a)) (cases_lt hi r)

    run_same : (first : State) {i : ℕ} {s : State} {met : Option (ℕ × ℕ)} → i ≤ r → Runs.RunsOver a m t hi from first i s met →
        Runs.RunsOver a m u other_hi from first i s met
    run_same first h Runs.begun = Runs.begun
    run_same first h (Runs.goes_on i s next run l read leads) =
        let e = same.ahead i (omega (arith, h)) in
        let b = same.behind (i + 1) (omega (arith, h)) in
        Runs.goes_on i s next (run_same first (omega (arith, h)) run) (within i (omega (arith, h)) l)
        (may_same a m (after_at u i) (after_at t i) e read)
        (across_same a m (after_at u i) (after_at t i) (before_at u (i + 1)) (before_at t (i + 1)) s next e b leads)

    at_end : (first : State) (earliest : Bool) (met : Option (ℕ × ℕ)) (s next : State) (h : ℕ) → h ≡ hi → Runs.RunsOver a m u h from first h s met →
        MayReadSide a m (after_at u h) → LeadsBy a m (after_at u h) s next → Runs.EndsOver a m u h from first earliest (met_last (best_at hi next.matched met))
    at_end first earliest met s next h is run read leads =
        subst (λ k. Runs.EndsOver a m u h from first earliest (met_last (best_at k next.matched met))) is (Runs.at_bound s next run read leads)

    ends_same : (first : State) (earliest : Bool) {e : RunEnd} {k : ℕ} → k ≡ r → EndsBelowOver a m t hi from first earliest e k →
        Runs.EndsOver a m u other_hi from first earliest e
    ends_same first earliest is (Reads.at_bound {met = met} s next run read leads) =
        let bound : other_hi ≡ hi = same.near (omega (arith, is)) in
        let ahead = same.ahead hi (omega (arith, is)) in
        let here = run_same first (omega (arith, is)) run in
        subst (λ h. Runs.EndsOver a m u h from first earliest (met_last (best_at hi next.matched met))) (sym bound)
        (at_end first earliest met s next hi refl (subst (λ h. Runs.RunsOver a m u h from first hi s met) bound here)
        (may_same a m (after_at u hi) (after_at t hi) ahead read) (by_same a m (after_at u hi) (after_at t hi) s next ahead leads))
    ends_same first earliest is (Reads.dead i s run dead) = Runs.dead i s (run_same first (omega (arith, is)) run) dead
    ends_same first earliest is (Reads.early i s on run) = Runs.early i s on (run_same first (omega (arith, is)) run)
    ends_same first earliest is (Reads.quit i s run l unread) =
        Runs.quit i s (run_same first (omega (arith, is)) run) (on_bound i (omega (arith, is)) l)
        (never_same a m (after_at u i) (after_at t i) (same.ahead i (omega (arith, is))) unread)
    ends_same first earliest is (Reads.rests i s run l idle) =
        Runs.rests i s (run_same first (omega (arith, is)) run) (on_bound i (omega (arith, is)) l) idle

  ends_within : (first : State) (earliest : Bool) {e : RunEnd} {k : ℕ} → from ≤ hi → EndsBelowOver a m t hi from first earliest e k →
      (from ≤ k) × (k ≤ hi + 1)
  ends_within first earliest below (Reads.at_bound s next run read leads) = (omega (arith, below), omega arith)
  ends_within first earliest below (Reads.dead i s run dead) = let h = run_high first below run in (run_low first run, omega (arith, h))
  ends_within first earliest below (Reads.early i s on run) = let h = run_high first below run in (run_low first run, omega (arith, h))
  ends_within first earliest below (Reads.quit i s run l unread) = let low = run_low first run in (omega (arith, low), omega (arith, l))
  ends_within first earliest below (Reads.rests i s run l idle) = (run_low first run, omega (arith, l))

pub search_same : (m : Machine) (t : Text) (hi from : ℕ) (anchored : Anchored) (earliest : Bool) (e : RunEnd) (r : ℕ) (u : Text) (other_hi : ℕ) →
    SearchEndsBelow m t hi from anchored earliest e r → from ≤ r → LookSame m.alphabet r t hi u other_hi → Runs.SearchEnds m u other_hi from anchored earliest e
search_same m t hi from anchored earliest e r u other_hi (Reads.ran first read begins ended) low same =
    let behind = same.behind from low in
    Runs.ran first (may_same m.alphabet m (before_at u from) (before_at t from) behind read)
    (begins_same m.alphabet m anchored (before_at u from) (before_at t from) first behind begins)
    (ends_same m t hi from r u other_hi same first earliest refl ended)
search_same m t hi from anchored earliest e r u other_hi (Reads.unread p is unread) low same =
    Runs.unread p is (never_same m.alphabet m (before_at u from) (before_at t from) (same.behind from low) unread)

pub search_within : (m : Machine) (t : Text) (hi from : ℕ) (anchored : Anchored) (earliest : Bool) (e : RunEnd) (r : ℕ) → from ≤ hi →
    SearchEndsBelow m t hi from anchored earliest e r → (from ≤ r) × (r ≤ hi + 1)
search_within m t hi from anchored earliest e r below (Reads.ran first read begins ended) = ends_within m t hi from first earliest below ended
search_within m t hi from anchored earliest e r below (Reads.unread p is unread) = (omega arith, omega (arith, below))

last_is : (a b : Option (ℕ × ℕ)) → met_last a ≡ met_last b → a ≡ b
last_is a b e = cc e

-- what was found last ends before the position that the run came to
best_before : (i at : ℕ) (matched : Option ℕ) (met : Option (ℕ × ℕ)) (q e : ℕ) → best_at at matched met ≡ Some (q, e) →
    ((p k : ℕ) → met ≡ Some (p, k) → k < i) → i ≤ at + 1 → at < i → e < i
best_before i at None met q e is before le lt = before q e is
best_before i at (Some k) met q e is before le lt = let same = (some_pair_parts k q at e is).1 in omega (arith, same, lt)

run_before : {a : Alphabet} (m : Machine) (t : Text) (hi from : ℕ) (first : State) (i : ℕ) (s : State) (met : Option (ℕ × ℕ)) →
    Runs.RunsOver a m t hi from first i s met → (q e : ℕ) → met ≡ Some (q, e) → e < i
run_before m t hi from first i s met Runs.begun q e is = absurd (none-some (q, e) is)
run_before m t hi from first i s met (Runs.goes_on {met = old} k before next run lt read leads) q e is =
    best_before (k + 1) k next.matched old q e is (λ p n same. let l = run_before m t hi from first k before old run p n same in omega (arith, l)) (omega arith) (omega arith)

ends_before : {a : Alphabet} (m : Machine) (t : Text) (hi from : ℕ) (first : State) (earliest : Bool) (end : RunEnd) (r q e : ℕ) → end ≡ met_last (Some (q, e)) →
    EndsBelowOver a m t hi from first earliest end r → e < r
ends_before m t hi from first earliest end r q e is (Reads.at_bound {met = old} s next run read leads) =
    best_before (hi + 1) hi next.matched old q e (last_is _ _ is) (λ p n same. let l = run_before m t hi from first hi s old run p n same in omega (arith, l)) (omega arith) (omega arith)
ends_before m t hi from first earliest end r q e is (Reads.dead {met = met} i s run dead) = run_before m t hi from first i s met run q e (last_is _ _ is)
ends_before m t hi from first earliest end r q e is (Reads.early {met = met} i s on run) = run_before m t hi from first i s (Some met) run q e (last_is _ _ is)
ends_before m t hi from first earliest end r q e is (Reads.quit i s run l unread) = cc is
ends_before m t hi from first earliest end r q e is (Reads.rests i s run l idle) = cc is

search_before : (m : Machine) (t : Text) (hi from : ℕ) (anchored : Anchored) (earliest : Bool) (end : RunEnd) (r q e : ℕ) → end ≡ met_last (Some (q, e)) →
    SearchEndsBelow m t hi from anchored earliest end r → e < r
search_before m t hi from anchored earliest end r q e is (Reads.ran first read begins ended) = ends_before m t hi from first earliest end r q e is ended
search_before m t hi from anchored earliest end r q e is (Reads.unread p at unread) = cc is

module _ {a : Alphabet} (m : Machine) (t : Text) (hi lo end r : ℕ) (u : Text) (other_hi : ℕ) (same : LookSame a r t hi u other_hi) (short : end < r) where
  down_high : (first : State) {i : ℕ} {s : State} {least : Option (ℕ × ℕ)} → Runs.RunsDownOver a m t lo end first i s least → i ≤ end
  down_high first Runs.begun = omega arith
  down_high first (Runs.goes_down i s next run l read leads) = let h = down_high first run in omega (arith, h)

  -- what stands on both sides of a position on the way
  behind_same : (p : ℕ) → p ≤ end → ReadsSame a (before_at u p) (before_at t p)
  behind_same p h = same.behind p (omega (arith, h, short))

  ahead_same : (p : ℕ) → p ≤ end → ReadsSame a (after_at u p) (after_at t p)
  ahead_same p h = same.ahead p (omega (arith, h, short))

  down_same : (first : State) {i : ℕ} {s : State} {least : Option (ℕ × ℕ)} → Runs.RunsDownOver a m t lo end first i s least →
      Runs.RunsDownOver a m u lo end first i s least
  down_same first Runs.begun = Runs.begun
  down_same first (Runs.goes_down i s next run l read leads) =
      let h = down_high first run in
      let e = behind_same (i + 1) h in
      let f = ahead_same i (omega (arith, h)) in
      Runs.goes_down i s next (down_same first run) l (may_same a m (before_at u (i + 1)) (before_at t (i + 1)) e read)
      (across_same a m (before_at u (i + 1)) (before_at t (i + 1)) (after_at u i) (after_at t i) s next e f leads)

  down_ends : (first : State) (earliest : Bool) {e : RunEnd} → Runs.EndsDownOver a m t lo end first earliest e → Runs.EndsDownOver a m u lo end first earliest e
  down_ends first earliest (Runs.at_bound s next run read leads) =
      let e = behind_same lo (down_high first run) in
      Runs.at_bound s next (down_same first run) (may_same a m (before_at u lo) (before_at t lo) e read) (by_same a m (before_at u lo) (before_at t lo) s next e leads)
  down_ends first earliest (Runs.dead i s run dead) = Runs.dead i s (down_same first run) dead
  down_ends first earliest (Runs.early i s on run) = Runs.early i s on (down_same first run)
  down_ends first earliest (Runs.quit p s run l unread) =
      Runs.quit p s (down_same first run) l (never_same a m (before_at u (p + 1)) (before_at t (p + 1)) (behind_same (p + 1) (down_high first run)) unread)

  search_down : (anchored : Anchored) (earliest : Bool) {e : RunEnd} → Runs.SearchEndsDownOver a m t lo end anchored earliest e →
      Runs.SearchEndsDownOver a m u lo end anchored earliest e
  search_down anchored earliest (Runs.ran first read begins ended) =
      let e = ahead_same end (omega arith) in
      Runs.ran first (may_same a m (after_at u end) (after_at t end) e read) (begins_same a m anchored (after_at u end) (after_at t end) first e begins)
      (down_ends first earliest ended)
  search_down anchored earliest (Runs.unread unread) =
      Runs.unread (never_same a m (after_at u end) (after_at t end) (ahead_same end (omega arith)) unread)

pub run_reach_law : RunReachLaw
run_reach_law = record {
  ends = search_ends;
  same = λ m t hi from anchored earliest e r u other_hi below ended same.
      search_same m t hi from anchored earliest e r u other_hi ended (search_within m t hi from anchored earliest e r below ended).0 same;
  onward = search_within;
  longer = λ m t hi from first i s met more h run. run_longer m t hi from more h first run;
  met_before = λ m t hi from anchored earliest q e r ended. search_before m t hi from anchored earliest _ r q e refl ended;
  down = λ m t hi lo end anchored earliest e r u other_hi short ended same. search_down m t hi lo end r u other_hi same short anchored earliest ended;
}
