-- From one position to the next.
use Rattle.std.proofs.Common.{◌≡◌, ℕ, suc, ◌+◌, ◌-◌, ◌<◌, ◌≤◌, List, [], ◌∷◌, ◌++◌, length, map, min, inl, inr, ⊎_elim, zero, ◌⊎◌, sym, subst, ap, ◌∙◌, refl, arith, Bool, true, false, Option, Some, None, is_none, is_some, not, true≢false}
use Rattle.std.proofs.lemmas.Bool.{cases_lt}
use Rattle.std.proofs.lemmas.Option.{none-some, same_Some}
use Rattle.rc_pikevm.specs.Sights.{Sight}
use Rattle.rc_pikevm.specs.Sparse.{Members}
use Rattle.rc_pikevm.specs.Threads.{Thread, ThreadList}
use Rattle.rc_pikevm.specs.Trace.{Trace, done}
use Rattle.rc_pikevm.specs.Passing.{pending, CarriesTo, AllIn, AllFrom, HasRoom, count_from, IsLined, waiting_starts, PendingTo, best_of}
use Rattle.rc_text.specs.Text.{Searched}
use Rattle.rc_program.specs.Scalars.{scalar_at}
use Rattle.rc_program.specs.Text.{ahead}
use Rattle.rc_pikevm.specs.Near.{seen_from, size}
use Rattle.rc_pikevm.specs.Readers.{count_of}
use Rattle.rc_pikevm.specs.Waiting.{reads_scalar}
use Rattle.rc_pikevm.specs.Steps.{HasGone, MayStep}
use Rattle.rc_pikevm.specs.declared.growth.Growth.{Growth}
use Rattle.rc_pikevm.specs.declared.spot.Spot.{Spot}
use Rattle.rc_pikevm.specs.declared.pass.Ending.{Ending}
use Rattle.rc_pikevm.proofs.MoveLemmas.{turned}
use Rattle.rc_pikevm.proofs.StartLemmas.{waiting_past}
use Rattle.rc_pikevm.proofs.GrownLemmas.{count_later, count_none}
use Rattle.rc_pikevm.proofs.WaitingLemmas.{hidden, still_any, still_here, still_long, still_past}

pub none_from : {X : Type 0} (o : Option X) (b : Bool) → is_some o ≡ not b → b ≡ is_none o
none_from None true e = refl
none_from None false e = absurd (true≢false (sym e))
none_from (Some x) true e = absurd (true≢false e)
none_from (Some x) false e = refl

pub from_earlier : (x y : ℕ) (ts : List Thread) → x ≤ y → AllFrom y ts → AllFrom x ts
from_earlier x y [] h all = tt
from_earlier x y (t ∷ ts) h all = (omega (arith, h, all.0), from_earlier x y ts h all.1)

pub in_wider : (n lo hi hi2 : ℕ) (ts : List Thread) → hi ≤ hi2 → AllIn n lo hi ts → AllIn n lo hi2 ts
in_wider n lo hi hi2 [] h all = tt
in_wider n lo hi hi2 (t ∷ ts) h all = ((all.0.0, all.0.1, omega (arith, h, all.0.2)), in_wider n lo hi hi2 ts h all.1)

pub inside_by : {s : Sight} {n hi at : ℕ} {threads : ThreadList} {entered : Members} → HasRoom s n hi at threads entered →
    (lo up : ℕ) × AllIn entered.capacity lo up threads.items
inside_by {n = n} {hi = hi} {at = at} {threads = threads} r =
    (at + 1, min hi (at + 4), subst (λ k. AllIn k (at + 1) (min hi (at + 4)) threads.items) (sym r.capacity) r.inside)

-- no scalar is ahead
cases_scalar : (o : Option (ℕ × ℕ)) → (o ≡ None) ⊎ ((c : ℕ × ℕ) × (o ≡ Some c))
cases_scalar None = inl refl
cases_scalar (Some c) = inr (c, refl)

-- If a scalar is ahead, then no thread waits longer.
none_waits : {s : Sight} {n hi width at insertions : ℕ} {curr : ThreadList} (c : ℕ × ℕ) → IsLined s n hi width at insertions curr →
    scalar_at (ahead s.text s.hi at) ≡ Some c → count_from (at + 1) curr.items ≡ 0
none_waits {at = at} {curr = curr} c lined is =
    ⊎_elim (λ none. none) (λ some. absurd (none-some c (sym (lined.within at (omega arith) some) ∙ is))) (cases_zero (count_from (at + 1) curr.items))
  where
    cases_zero : (k : ℕ) → (k ≡ 0) ⊎ (0 < k)
    cases_zero zero = inl refl
    cases_zero (suc k) = inr (omega arith)

-- the threads may go on, once the next list is cleared
pub ready_for : {width insertions : ℕ} (spot : Spot) {text : Searched} {curr : ThreadList} (old : ThreadList) (entered0 : Members) (g : Growth) →
    IsLined (seen_from spot text) (size spot.course) spot.course.hi width spot.at insertions curr → g.threads ≡ record old { items = [] } →
    g.entered ≡ record entered0 { items = [] } → curr.room ≡ old.room → entered0.capacity ≡ size spot.course → MayStep spot text curr.items g
ready_for spot {text} {curr} old entered0 g lined threads entered room capacity = record {
  inside = lined.inside;
  no_threads = ap (λ (l : ThreadList). l.items) threads;
  no_places = ap (λ (m : Members). m.items) entered;
  capacity = ap (λ (m : Members). m.capacity) entered ∙ capacity;
  room = let r = ap (λ (l : ThreadList). l.room) threads in
      let s : Sight = seen_from spot text in
      ⊎_elim (λ none. let h = still_here s spot.at (spot.at + 1) [] (omega arith) none in omega (arith, h, r, room, lined.room, lined.waiting))
      (λ some. let h = still_any s spot.at (spot.at + 1) [] (omega arith) in
      let w = none_waits some.0 lined some.1 in omega (arith, h, w, r, room, lined.room)) (cases_scalar (scalar_at (ahead s.text s.hi spot.at)));
}

-- the threads of the next position
pub lined_next : {s : Sight} {n hi width at insertions insertions2 : ℕ} {curr threads0 next curr2 : ThreadList} {entered : Members} (old : ThreadList) → hi ≡ s.hi →
    curr2 ≡ next → threads0 ≡ record old { items = [] } → (curr.room ≡ old.room) × (curr.most ≡ old.most) × (curr.width ≡ old.width) →
    IsLined s n hi width at insertions curr → HasGone s n hi at curr.items [] threads0 next entered →
    (0 < length next.items → insertions < insertions2) → IsLined s n hi width (at + 1) insertions2 curr2
lined_next {s} {n} {hi} {width} {at} {insertions} {insertions2} {curr} {next = next} {entered = entered} old bound is cleared alike lined gone some = rw is (record {
  inside = in_wider n (at + 1) (min hi (at + 4)) (min hi (at + 1 + 3)) next.items (omega arith) gone.sound.inside;
  width_is = gone.same_width ∙ ap (λ (l : ThreadList). l.width) cleared ∙ sym alike.2 ∙ lined.width_is;
  room = let r = ap (λ (l : ThreadList). l.room) cleared in omega (arith, gone.same_room, r, alike.0, lined.room);
  waiting = waiting (cases_scalar (scalar_at (ahead s.text s.hi at)));
  within = λ x low more. within x low more (cases_scalar (scalar_at (ahead s.text s.hi at)));
  begun = latest next.items some gone.begun;
})
  where
    waiting : (scalar_at (ahead s.text s.hi at) ≡ None) ⊎ ((c : ℕ × ℕ) × (scalar_at (ahead s.text s.hi at) ≡ Some c)) → count_from (at + 1 + 1) next.items ≤ count_of reads_scalar s.places
    waiting (inl none) =
        let g = gone.counts (at + 1 + 1) in
        let l = count_later (at + 1) (at + 1 + 1) curr.items (omega arith) in
        let z = still_past s at (at + 1 + 1) [] (omega arith) (λ c e. absurd (none-some c (sym none ∙ e))) in
        omega (arith, g, l, z, lined.waiting)
    waiting (inr some) =
        let g = gone.counts (at + 1 + 1) in
        let l = count_later (at + 1) (at + 1 + 1) curr.items (omega arith) in
        let w = none_waits some.0 lined some.1 in
        let t = still_long s at (at + 1 + 1) [] (omega arith) in
        omega (arith, g, l, w, t)

    -- a scalar that is ahead at `at` hides the positions that it goes past
    hides : (c : ℕ × ℕ) → scalar_at (ahead s.text s.hi at) ≡ Some c → (x : ℕ) → at + 1 ≤ x → x ≤ hi → 0 < count_from (x + 1) next.items → scalar_at (ahead s.text s.hi x) ≡ None
    hides c is x low high more =
        ⊎_elim (λ inside. hidden s.text s.hi at x c is (omega (arith, low)) inside (omega (arith, high, bound)))
        (λ past. absurd (
        let g = gone.counts (x + 1) in
        let l = count_later (at + 1) (x + 1) curr.items (omega (arith, low)) in
        let w = none_waits c lined is in
        let z = still_past s at (x + 1) [] (omega (arith, low)) (λ d e. let same = ap (λ (p : ℕ × ℕ). p.1) (same_Some c d (sym is ∙ e)) in omega (arith, same, past)) in
        omega (arith, g, l, w, z, more))) (cases_lt x (at + c.1))

    within : (x : ℕ) → at + 1 ≤ x → 0 < count_from (x + 1) next.items → (scalar_at (ahead s.text s.hi at) ≡ None) ⊎ ((c : ℕ × ℕ) × (scalar_at (ahead s.text s.hi at) ≡ Some c)) →
        scalar_at (ahead s.text s.hi x) ≡ None
    within x low more (inl none) =
        let g = gone.counts (x + 1) in
        let z = still_past s at (x + 1) [] (omega (arith, low)) (λ c e. absurd (none-some c (sym none ∙ e))) in
        lined.within x (omega (arith, low)) (omega (arith, g, z, more))
    within x low more (inr some) =
        ⊎_elim (λ past. absurd (let z = count_none n (at + 1) (min hi (at + 4)) (x + 1) next.items gone.sound.inside (omega (arith, past)) in omega (arith, z, more)))
        (λ high. hides some.0 some.1 x low (omega (arith, high)) more) (cases_lt hi (x + 1))

    latest : (ts : List Thread) → (0 < length ts → insertions < insertions2) → ((x : ℕ) → x ≤ at → AllFrom x curr.items → AllFrom x ts) →
        AllFrom (at + 1 - insertions2) ts
    latest [] some begun = tt
    latest (t ∷ ts) some begun =
        let m = some (omega arith) in
        begun (at + 1 - insertions2) (omega (arith, m))
        (from_earlier (at + 1 - insertions2) (at - insertions) curr.items (omega (arith, m)) lined.begun)

-- no walk has ended at this position
pub turned_on : (limit : Option ℕ) (s : Sight) (width last at : ℕ) (curr next : List Thread) (items : List ℕ) (best : Option Ending) (found : List (Option ℕ)) (o : Option Trace)
    (is_open : Bool) → is_open ≡ is_none best →
    ((best o : Option Trace) → CarriesTo limit s at next items (waiting_starts is_open width (at + 1) last) best o →
    CarriesTo limit s at [] [] (map pending curr ++ waiting_starts is_open width at last) best o) →
    PendingTo limit s width last (at + 1) next best found o → PendingTo limit s width last at curr best found o
turned_on limit s width last at curr next items best found o is_open open_is step x =
    subst (λ b. CarriesTo limit s at [] [] (map pending curr ++ waiting_starts b width at last) (best_of best found) o) open_is
    (step (best_of best found) o
    (subst (λ b. CarriesTo limit s at next items (waiting_starts b width (at + 1) last) (best_of best found) o) (sym open_is)
    (turned limit s at next items (best_of best found) o (waiting_starts (is_none best) width (at + 1) last) (waiting_past (is_none best) width at last) x)))

-- a walk has
pub turned_ends : (limit : Option ℕ) (s : Sight) (width last at : ℕ) (curr next : List Thread) (items : List ℕ) (best : Option Ending) (found0 found : List (Option ℕ))
    (o : Option Trace) (is_open : Bool) (end : Ending) → is_open ≡ is_none best →
    ((best o : Option Trace) → CarriesTo limit s at next items [] (Some (done end.pattern end.start end.end found)) o →
    CarriesTo limit s at [] [] (map pending curr ++ waiting_starts is_open width at last) best o) →
    PendingTo limit s width last (at + 1) next (Some end) found o → PendingTo limit s width last at curr best found0 o
turned_ends limit s width last at curr next items best found0 found o is_open end open_is step x =
    subst (λ b. CarriesTo limit s at [] [] (map pending curr ++ waiting_starts b width at last) (best_of best found0) o) open_is
    (step (best_of best found0) o
    (turned limit s at next items (Some (done end.pattern end.start end.end found)) o [] tt x))
