-- The threads of one position, of which no match cuts off another.
use Rattle.std.proofs.Common.{◌≡◌, ℕ, zero, suc, ◌+◌, ◌-◌, ◌<◌, ◌≤◌, List, [], ◌∷◌, ◌++◌, length, map, drop, min, inl, inr, sym, subst, ap, arith, Option, Some, slice_get}
use Rattle.std.proofs.lemmas.List.{length_push}
use Rattle.rc_text.specs.Found.{Found}
use Rattle.rc_pikevm.specs.Sights.{Sight}
use Rattle.rc_pikevm.specs.Sparse.{Members}
use Rattle.rc_pikevm.specs.Threads.{Thread, ThreadList}
use Rattle.rc_pikevm.specs.Passing.{AllIn, AllFrom, count_from, IsGrown}
use Rattle.rc_pikevm.specs.Spread.{Runner, running, Seeks, BeginFrom, AllBefore, IsRising, IsOrdered, StaysCounted, IsSpreading, setting_out, starting}
use Rattle.rc_pikevm.specs.declared.pass.Ending.{Ending}
use Rattle.rc_pikevm.specs.Waiting.{still}
use Rattle.rc_pikevm.proofs.StepLemmas.{from_at, gone_begins, gone_closes, gone_waits, next_left, waits_here}
use Rattle.rc_pikevm.proofs.SpreadLemmas.{AllLater}
use Rattle.rc_pikevm.proofs.SpreadMoveLemmas.{later_waits, ordered_push, ordered_wider}

pub begin_wider : (x y : ℕ) (rs : List Runner) → x ≤ y → BeginFrom y rs → BeginFrom x rs
begin_wider x y [] h all = tt
begin_wider x y (r ∷ rs) h all = (omega (arith, h, all.0), begin_wider x y rs h all.1)

begin_threads : (x : ℕ) (ts : List Thread) (below : List Runner) → AllFrom x ts → BeginFrom x below → BeginFrom x (map running ts ++ below)
begin_threads x [] below all h = h
begin_threads x (t ∷ ts) below all h = (all.0, begin_threads x ts below all.1 h)

-- the starts that are still to come
pub setting_from : (x y count : ℕ) → x ≤ y → BeginFrom x (setting_out y count)
setting_from x y zero h = tt
setting_from x y (suc count) h = (h, setting_from x (y + 1) count (omega (arith, h)))

pub setting_later : (s : Sight) (at x count : ℕ) → at < x → AllLater s at (setting_out x count)
setting_later s at x zero h = tt
setting_later s at x (suc count) h = (h, setting_later s at (x + 1) count (omega (arith, h)))

pub starting_next : (at last : ℕ) → at ≤ last → starting at last ≡ (at, (0, at)) ∷ starting (at + 1) last
starting_next at last h = let n : last + 1 - at ≡ suc (last + 1 - (at + 1)) = omega (arith, h) in ap (setting_out at) n

pub starting_over : (at last : ℕ) → last < at → starting at last ≡ []
starting_over at last h = let e : last + 1 - at ≡ 0 = omega (arith, h) in ap (setting_out at) e

pub all_from_zero : (ts : List Thread) → AllFrom 0 ts
all_from_zero [] = tt
all_from_zero (t ∷ ts) = (omega arith, all_from_zero ts)

module _ {s : Sight} {n hi at : ℕ} {all : List Thread} {threads0 : ThreadList} {best0 : Option Ending} where
  pub spreading_begins : {entered : Members} → threads0.items ≡ [] → entered.items ≡ [] → entered.capacity ≡ n → still s at (at + 1) [] < threads0.room → IsOrdered at all →
      IsSpreading s n hi at all all threads0 best0 threads0 entered best0
  spreading_begins {entered = entered} no_threads no_places capacity room ordered = record {
    seeks = λ below o low x.
        subst (λ v. Seeks s at [] v (map running all ++ below) best0 o) no_places
        (subst (λ r. Seeks s at r entered.items (map running all ++ below) best0 o) no_threads x);
    gone = gone_begins no_threads no_places capacity room;
    some = inl (omega arith);
    reached = 0;
    within = omega arith;
    ordered = rw no_threads (record { rising = tt; before = tt });
    left_from = all_from_zero all;
    left_rising = ordered.rising;
    left_before = ordered.before;
    counted = λ k h x. x;
  }

  module _ {threads : ThreadList} {entered : Members} {best : Option Ending} (index : ℕ) {t : Thread} (item : slice_get all index ≡ Some t)
      (inside : AllIn n at (min hi (at + 3)) all) (so_far : IsSpreading s n hi at all (drop index all) threads0 best0 threads entered best) where
    here : drop index all ≡ t ∷ drop (index + 1) all
    here = next_left index item inside so_far.gone

    from_here : (so_far.reached ≤ t.start) × AllFrom so_far.reached (drop (index + 1) all)
    from_here = subst (λ ts. AllFrom so_far.reached ts) here so_far.left_from

    rising_here : AllFrom t.start (drop (index + 1) all) × IsRising (drop (index + 1) all)
    rising_here = subst IsRising here so_far.left_rising

    before_here : (t.start ≤ at) × AllBefore at (drop (index + 1) all)
    before_here = subst (λ ts. AllBefore at ts) here so_far.left_before

    pub ordered_here : IsOrdered t.start threads.items
    ordered_here = ordered_wider so_far.reached t.start threads.items from_here.0 so_far.ordered

    -- a thread that goes on later waits
    pub spreading_waits : {threads2 : ThreadList} → at < t.at → count_from (at + 1) all + still s at (at + 1) [] < threads0.room →
        threads2 ≡ record threads { items = threads.items ++ t ∷ [] } →
        IsSpreading s n hi at all (drop (index + 1) all) threads0 best0 threads2 entered best
    spreading_waits later room e = rw e (record {
      seeks = λ below o low x.
          so_far.seeks below o low
          (subst (λ ts. Seeks s at threads.items entered.items (map running ts ++ below) best o) (sym here)
          (later_waits s at threads.items entered.items best o t (map running (drop (index + 1) all) ++ below) later x));
      gone = gone_waits index item inside so_far.gone later room;
      some = inr (rw length_push (omega arith));
      reached = t.start;
      within = before_here.0;
      ordered = ordered_push threads.items t ordered_here;
      left_from = rising_here.0;
      left_rising = rising_here.1;
      left_before = before_here.1;
      counted = so_far.counted;
    })

    -- a thread goes on here
    pub spreading_closes : {threads2 : ThreadList} {entered2 : Members} {best2 : Option Ending} → t.at ≤ at →
        ((below : List Runner) (o : Option Found) → BeginFrom t.start below → Seeks s at threads2.items entered2.items below best2 o →
        Seeks s at threads.items entered.items ((t.start, (t.place, at)) ∷ below) best o) →
        IsGrown s n hi t.start at threads entered threads2 entered2 → IsOrdered t.start threads2.items → StaysCounted t.start at best best2 →
        0 < length entered2.items →
        IsSpreading s n hi at all (drop (index + 1) all) threads0 best0 threads2 entered2 best2
    spreading_closes now closing grown ordered stays some = record {
      seeks = λ below o low x.
          so_far.seeks below o low
          (subst (λ ts. Seeks s at threads.items entered.items (map running ts ++ below) best o) (sym here)
          (goes_on below o (closing (map running (drop (index + 1) all) ++ below) o
          (begin_threads t.start (drop (index + 1) all) below rising_here.0 (begin_wider t.start at below before_here.0 low)) x)));
      gone = gone_closes index item inside so_far.gone grown;
      some = inr (omega (arith, some));
      reached = t.start;
      within = before_here.0;
      ordered = ordered;
      left_from = rising_here.0;
      left_rising = rising_here.1;
      left_before = before_here.1;
      counted = λ k h x. let f = from_at (at + 1 - k) all index t h item in stays k (omega (arith, f)) (so_far.counted k h x);
    }
      where
        goes_on : (below : List Runner) (o : Option Found) →
            Seeks s at threads.items entered.items ((t.start, (t.place, at)) ∷ (map running (drop (index + 1) all) ++ below)) best o →
            Seeks s at threads.items entered.items (running t ∷ (map running (drop (index + 1) all) ++ below)) best o
        goes_on below o x =
            let e = waits_here index item inside so_far.gone now in
            subst (λ q. Seeks s at threads.items entered.items ((t.start, (t.place, q)) ∷ (map running (drop (index + 1) all) ++ below)) best o) (sym e) x
