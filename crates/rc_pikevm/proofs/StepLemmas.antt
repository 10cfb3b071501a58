-- The threads of one position.
use Rattle.std.proofs.Common.{◌≡◌, ℕ, zero, suc, ◌+◌, ◌<◌, ◌≤◌, List, [], ◌∷◌, ◌++◌, length, map, drop, min, inl, inr, sym, subst, ap, ◌∙◌, refl, arith, Option, Some, if◌then◌else◌, nat_le, slice_get, add-one}
use Rattle.std.proofs.lemmas.Bool.{le-leb}
use Rattle.std.proofs.lemmas.List.{length_push}
use Rattle.std.proofs.lemmas.Option.{none-some}
use Rattle.rc_walks.specs.Walks.{Pair}
use Rattle.rc_pikevm.specs.Sights.{Sight, IsUpTo}
use Rattle.rc_pikevm.specs.Sparse.{Members}
use Rattle.rc_pikevm.specs.Threads.{Thread, ThreadList}
use Rattle.rc_pikevm.specs.Trace.{Trace, trace}
use Rattle.rc_pikevm.specs.Passing.{pending, CarriesTo, AllIn, AllFrom, count_from, IsGrown}
use Rattle.rc_pikevm.specs.Steps.{HasGone, IsStepping}
use Rattle.rc_pikevm.specs.Waiting.{still}
use Rattle.rc_pikevm.proofs.MoveLemmas.{waited}
use Rattle.rc_pikevm.proofs.GrownLemmas.{count_push, count_all, in_push, from_push}

pub drop_get : {X : Type 0} (xs : List X) (k : ℕ) (x : X) → slice_get xs k ≡ Some x → drop k xs ≡ x ∷ drop (suc k) xs
drop_get [] k x e = absurd (none-some x e)
drop_get (y ∷ ys) zero x e = cc
drop_get (y ∷ ys) (suc k) x e = drop_get ys k x e

pub in_at : (n lo hi : ℕ) (ts : List Thread) (k : ℕ) (t : Thread) → AllIn n lo hi ts → slice_get ts k ≡ Some t → (t.place < n) × (lo ≤ t.at) × (t.at ≤ hi)
in_at n lo hi [] k t all e = absurd (none-some t e)
in_at n lo hi (u ∷ ts) zero t all e = let same : u ≡ t = cc in subst (λ (x : Thread). (x.place < n) × (lo ≤ x.at) × (x.at ≤ hi)) same all.0
in_at n lo hi (u ∷ ts) (suc k) t all e = in_at n lo hi ts k t all.1 e

pub from_at : (x : ℕ) (ts : List Thread) (k : ℕ) (t : Thread) → AllFrom x ts → slice_get ts k ≡ Some t → x ≤ t.start
from_at x [] k t all e = absurd (none-some t e)
from_at x (u ∷ ts) zero t all e = let same : u ≡ t = cc in subst (λ (y : Thread). x ≤ y.start) same all.0
from_at x (u ∷ ts) (suc k) t all e = from_at x ts k t all.1 e

-- none are left
pub over : (ts : List Thread) (k : ℕ) → length ts ≤ k → drop k ts ≡ []
over [] zero h = refl
over [] (suc k) h = refl
over (t ∷ ts) zero h = absurd (omega (arith, h))
over (t ∷ ts) (suc k) h = over ts k (omega (arith, h))

module _ {s : Sight} {n hi at : ℕ} {all : List Thread} {threads0 : ThreadList} where
  pub gone_begins : {entered : Members} → threads0.items ≡ [] → entered.items ≡ [] → entered.capacity ≡ n → still s at (at + 1) [] < threads0.room →
      HasGone s n hi at all all threads0 threads0 entered
  gone_begins no_threads no_places capacity room = record {
    sound = record {
      capacity = capacity;
      few = rw no_places (omega arith);
      room = rw (no_threads, no_places) (omega (arith, room));
      inside = rw no_threads tt;
    };
    same_room = refl;
    same_most = refl;
    same_width = refl;
    counts = λ q. rw (no_threads, no_places) (omega arith);
    begun = λ x l h. rw no_threads tt;
  }

  -- those that are left are dropped
  pub gone_all : {left : List Thread} {threads : ThreadList} {entered : Members} → HasGone s n hi at all left threads0 threads entered →
      HasGone s n hi at all [] threads0 threads entered
  gone_all gone = record {
    sound = gone.sound;
    same_room = gone.same_room;
    same_most = gone.same_most;
    same_width = gone.same_width;
    counts = λ q. let c = gone.counts q in omega (arith, c);
    begun = gone.begun;
  }

  -- a thread that sets out at the position goes on
  pub gone_then : {threads threads2 : ThreadList} {entered entered2 : Members} → HasGone s n hi at all [] threads0 threads entered →
      IsGrown s n hi at at threads entered threads2 entered2 → HasGone s n hi at all [] threads0 threads2 entered2
  gone_then gone grown = record {
    sound = grown.sound;
    same_room = grown.same_room ∙ gone.same_room;
    same_most = grown.same_most ∙ gone.same_most;
    same_width = grown.same_width ∙ gone.same_width;
    counts = λ q. let c = gone.counts q in let g = grown.counts q in omega (arith, c, g);
    begun = λ x l h. grown.begun x l (gone.begun x l h);
  }

  module _ {threads : ThreadList} {entered : Members} (index : ℕ) {t : Thread} (item : slice_get all index ≡ Some t)
      (inside : AllIn n at (min hi (at + 3)) all) (gone : HasGone s n hi at all (drop index all) threads0 threads entered) where
    pub next_left : drop index all ≡ t ∷ drop (index + 1) all
    next_left = drop_get all index t item ∙ ap (λ k. t ∷ drop k all) (sym (add-one index))

    pub waits_here : t.at ≤ at → t.at ≡ at
    waits_here now = let i = in_at n at (min hi (at + 3)) all index t inside item in omega (arith, i.1, now)

    counted : (q : ℕ) → count_from q threads.items + ((if nat_le q t.at then 1 else 0) + count_from q (drop (index + 1) all)) + still s at q entered.items ≤ count_from q all + still s at q []
    counted q = subst (λ ts. count_from q threads.items + count_from q ts + still s at q entered.items ≤ count_from q all + still s at q []) next_left (gone.counts q)

    -- there is room for a thread that waits
    pub gone_fits : at < t.at → count_from (at + 1) all + still s at (at + 1) [] < threads0.room → length threads.items < threads.room
    gone_fits later room =
        let c = rw (le-leb (at + 1) t.at (omega arith)) at (counted (at + 1)) in
        let l = count_all n (at + 1) (min hi (at + 4)) (at + 1) threads.items gone.sound.inside (omega arith) in
        omega (arith, c, l, gone.same_room, room)

    -- the thread is dropped
    pub gone_drops : HasGone s n hi at all (drop (index + 1) all) threads0 threads entered
    gone_drops = record {
      sound = gone.sound;
      same_room = gone.same_room;
      same_most = gone.same_most;
      same_width = gone.same_width;
      counts = λ q. let c = counted q in omega (arith, c);
      begun = gone.begun;
    }

    -- it goes on later, and waits
    pub gone_waits : at < t.at → count_from (at + 1) all + still s at (at + 1) [] < threads0.room →
        HasGone s n hi at all (drop (index + 1) all) threads0 (record threads { items = threads.items ++ t ∷ [] }) entered
    gone_waits later room = record {
      sound = record {
        capacity = gone.sound.capacity;
        few = gone.sound.few;
        room = rw length_push (
            let c = rw (le-leb (at + 1) t.at (omega arith)) at (counted (at + 1)) in
            let l = count_all n (at + 1) (min hi (at + 4)) (at + 1) threads.items gone.sound.inside (omega arith) in
            omega (arith, c, l, gone.same_room, room));
        inside = let i = in_at n at (min hi (at + 3)) all index t inside item in
            in_push n (at + 1) (min hi (at + 4)) threads.items t gone.sound.inside (i.0, omega (arith, later), omega (arith, i.2));
      };
      same_room = gone.same_room;
      same_most = gone.same_most;
      same_width = gone.same_width;
      counts = λ q. let c = counted q in let p = count_push q threads.items t in omega (arith, c, p);
      begun = λ x l h. from_push x threads.items t (gone.begun x l h) (from_at x all index t h item);
    }

    -- it goes on here
    pub gone_closes : {threads2 : ThreadList} {entered2 : Members} → IsGrown s n hi t.start at threads entered threads2 entered2 →
        HasGone s n hi at all (drop (index + 1) all) threads0 threads2 entered2
    gone_closes grown = record {
      sound = grown.sound;
      same_room = grown.same_room ∙ gone.same_room;
      same_most = grown.same_most ∙ gone.same_most;
      same_width = grown.same_width ∙ gone.same_width;
      counts = λ q. let c = counted q in let g = grown.counts q in omega (arith, c, g);
      begun = λ x l h. grown.begun x (from_at x all index t h item) (gone.begun x l h);
    }

module _ (s : Sight) (n hi at : ℕ) (all : List Thread) (threads0 : ThreadList) where
  pub stepping_begins : (entered : Members) → threads0.items ≡ [] → entered.items ≡ [] → entered.capacity ≡ n → still s at (at + 1) [] < threads0.room →
      IsStepping s n hi at all all threads0 threads0 entered
  stepping_begins entered no_threads no_places capacity room = record {
    carries = λ limit le below best o x.
        subst (λ v. CarriesTo limit s at [] v (map pending all ++ below) best o) no_places
        (subst (λ r. CarriesTo limit s at r entered.items (map pending all ++ below) best o) no_threads x);
    gone = gone_begins no_threads no_places capacity room;
    some = inl (omega arith);
  }

  module _ (threads : ThreadList) (entered : Members) (index : ℕ) (t : Thread) (item : slice_get all index ≡ Some t)
      (inside : AllIn n at (min hi (at + 3)) all) (stepping : IsStepping s n hi at all (drop index all) threads0 threads entered) where
    -- a thread that goes on later waits
    pub stepping_waits : (threads2 : ThreadList) → at < t.at → count_from (at + 1) all + still s at (at + 1) [] < threads0.room →
        threads2 ≡ record threads { items = threads.items ++ t ∷ [] } → IsStepping s n hi at all (drop (index + 1) all) threads0 threads2 entered
    stepping_waits threads2 later room e = rw e (record {
      carries = λ limit le below best o x.
          stepping.carries limit le below best o
          (subst (λ ts. CarriesTo limit s at threads.items entered.items (map pending ts ++ below) best o) (sym (next_left index item inside stepping.gone))
          (waited limit s at threads.items entered.items best o t (map pending (drop (index + 1) all) ++ below) later x));
      gone = gone_waits index item inside stepping.gone later room;
      some = inr (rw length_push (omega arith));
    })

    -- what a thread gives that goes on here
    pub stepping_goes : (slots : List (Option ℕ)) → t.at ≤ at → t.slots ≡ slots → (limit : Option ℕ) → IsUpTo at limit → (below : List (Trace × Pair))
        (best o : Option Trace) →
        CarriesTo limit s at threads.items entered.items ((trace t.start slots, (t.place, at)) ∷ (map pending (drop (index + 1) all) ++ below)) best o →
        CarriesTo limit s at [] [] (map pending all ++ below) best o
    stepping_goes slots now same limit le below best o x =
        stepping.carries limit le below best o
        (subst (λ ts. CarriesTo limit s at threads.items entered.items (map pending ts ++ below) best o) (sym (next_left index item inside stepping.gone))
        (subst (λ q. CarriesTo limit s at threads.items entered.items ((trace t.start t.slots, (t.place, q)) ∷ (map pending (drop (index + 1) all) ++ below)) best o)
        (sym (waits_here index item inside stepping.gone now))
        (subst (λ l. CarriesTo limit s at threads.items entered.items ((trace t.start l, (t.place, at)) ∷ (map pending (drop (index + 1) all) ++ below)) best o) (sym same) x)))
