-- The threads of one position, of which a match cuts off those of later starts alone.
use Rattle.std.proofs.Common.{◌≡◌, ℕ, ◌+◌, ◌-◌, ◌<◌, ◌≤◌, List, [], ◌∷◌, ◌++◌, length, map, drop, min, inr, subst, arith, Option, Some, slice_get}
use Rattle.rc_walks.specs.Walks.{Pair}
use Rattle.rc_pikevm.specs.Sights.{Sight}
use Rattle.rc_pikevm.specs.Sparse.{Members}
use Rattle.rc_pikevm.specs.Threads.{Thread, ThreadList}
use Rattle.rc_pikevm.specs.Trace.{Trace, trace}
use Rattle.rc_pikevm.specs.Passing.{pending, AllIn, count_from, IsGrown}
use Rattle.rc_pikevm.specs.Spread.{StaysCounted}
use Rattle.rc_pikevm.specs.Races.{Races, IsSought, IsCutOff, IsRunOn}
use Rattle.rc_pikevm.specs.Entrances.{IsWayIn}
use Rattle.rc_pikevm.specs.declared.pass.Ending.{Ending}
use Rattle.rc_pikevm.specs.Waiting.{still}
use Rattle.rc_pikevm.proofs.StepLemmas.{from_at, gone_closes, gone_drops, gone_waits, next_left, waits_here}
use Rattle.rc_pikevm.proofs.RaceMoveLemmas.{raced_drops, raced_waits, raced_way_in}

module _ {s : Sight} {n hi at : ℕ} {all : List Thread} {threads0 : ThreadList} {best0 : Option Ending} {found0 : List (Option ℕ)} where
  module _ {threads : ThreadList} {entered : Members} {best : Option Ending} {found : List (Option ℕ)} (index : ℕ) {t : Thread}
      (item : slice_get all index ≡ Some t) (inside : AllIn n at (min hi (at + 3)) all)
      (so_far : IsRunOn s n hi at all (drop index all) threads0 best0 found0 threads entered best found) where
    races_here : (from below : List (Trace × Pair)) → Races s from at [] [] (map pending all ++ below) best0 found0 →
        Races s from at threads.items entered.items (pending t ∷ (map pending (drop (index + 1) all) ++ below)) best found
    races_here from below x =
        subst (λ ts. Races s from at threads.items entered.items (map pending ts ++ below) best found) (next_left index item inside so_far.gone)
        (so_far.races from below x)

    -- a thread of a later start is left out
    pub run_drops : IsCutOff best t.start → IsRunOn s n hi at all (drop (index + 1) all) threads0 best0 found0 threads entered best found
    run_drops cut = record {
      races = λ from below x.
          raced_drops s from at threads.items entered.items best found (pending t) (map pending (drop (index + 1) all) ++ below) cut (races_here from below x);
      gone = gone_drops index item inside so_far.gone;
      counted = so_far.counted;
      still = so_far.still;
    }

    -- a thread that goes on later waits
    pub run_waits : {threads2 : ThreadList} → IsSought best t.start → at < t.at → count_from (at + 1) all + still s at (at + 1) [] < threads0.room →
        threads2 ≡ record threads { items = threads.items ++ t ∷ [] } →
        IsRunOn s n hi at all (drop (index + 1) all) threads0 best0 found0 threads2 entered best found
    run_waits sought later room e = rw e (record {
      races = λ from below x.
          raced_waits s from at threads.items entered.items best found t (map pending (drop (index + 1) all) ++ below) later sought (races_here from below x);
      gone = gone_waits index item inside so_far.gone later room;
      counted = so_far.counted;
      still = so_far.still;
    })

    -- a thread goes on here
    pub run_closes : {threads2 : ThreadList} {entered2 : Members} {best2 : Option Ending} {found2 : List (Option ℕ)} {place : ℕ}
        {slots : List (Option ℕ)} → IsSought best t.start → t.at ≤ at → t.slots ≡ slots → IsWayIn s at entered.items t.place place →
        ((from below : List (Trace × Pair)) → Races s from at threads.items entered.items ((trace t.start slots, (place, at)) ∷ below) best found →
        Races s from at threads2.items entered2.items below best2 found2) →
        IsGrown s n hi t.start at threads entered threads2 entered2 → StaysCounted t.start at best best2 → 0 < length entered2.items →
        IsRunOn s n hi at all (drop (index + 1) all) threads0 best0 found0 threads2 entered2 best2 found2
    run_closes {place = place} {slots = slots} sought now same way closing grown stays some = record {
      races = λ from below x.
          closing from (map pending (drop (index + 1) all) ++ below)
          (raced_way_in s from at threads.items entered.items best found (trace t.start slots)
          (map pending (drop (index + 1) all) ++ below) way sought (goes_on from below (races_here from below x)));
      gone = gone_closes index item inside so_far.gone grown;
      counted = λ k h x. let f = from_at (at + 1 - k) all index t h item in stays k (omega (arith, f)) (so_far.counted k h x);
      still = inr some;
    }
      where
        goes_on : (from below : List (Trace × Pair)) →
            Races s from at threads.items entered.items (pending t ∷ (map pending (drop (index + 1) all) ++ below)) best found →
            Races s from at threads.items entered.items ((trace t.start slots, (t.place, at)) ∷ (map pending (drop (index + 1) all) ++ below)) best found
        goes_on from below x =
            let e = waits_here index item inside so_far.gone now in
            subst (λ l. Races s from at threads.items entered.items ((trace t.start l, (t.place, at)) ∷ (map pending (drop (index + 1) all) ++ below)) best found) same
            (subst (λ q. Races s from at threads.items entered.items ((trace t.start t.slots, (t.place, q)) ∷ (map pending (drop (index + 1) all) ++ below)) best found) e x)
