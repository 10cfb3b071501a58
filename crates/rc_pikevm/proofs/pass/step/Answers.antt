use Rattle.std.proofs.Common.{ℕ, ◌+◌, List, ◌∷◌, ◌++◌, [], map, drop, min, sym, arith, length-drop, inl, inr, ⊎_elim, Option, Some, None}
use Rattle.rc_walks.specs.Walks.{Pair}
use Rattle.rc_pikevm.specs.Near.{seen_from, size}
use Rattle.rc_pikevm.specs.Passing.{CarriesTo, pending}
use Rattle.rc_pikevm.specs.Sights.{IsUpTo}
use Rattle.rc_pikevm.specs.Threads.{thread_of}
use Rattle.rc_pikevm.specs.Trace.{Trace, trace}
use Rattle.rc_pikevm.proofs.EntranceLemmas.{carries_in}
use Rattle.rc_pikevm.proofs.ExploredLemmas.{closed_carries}
use Rattle.rc_pikevm.proofs.StepLemmas.{in_at, from_at, gone_all, gone_closes, gone_fits, stepping_begins, stepping_waits, stepping_goes}
use Rattle.rc_pikevm.proofs.pass.step.Given.{Over}
use Rattle.rc_pikevm.proofs.pass.step.Goals as goal
use Rattle.rc_pikevm.proofs.pass.step.Goals.{After-way_in-place}

pub threads-init : goal.threads-init
threads-init g c =
    let r = c.requires.1.0 in
    record {
      stepping = stepping_begins (seen_from c.args.spot.now g.text) (size c.args.spot.now.course) c.args.spot.now.course.hi c.args.spot.now.at
          c.args.curr.now.items c.args.growth.now.threads c.args.growth.now.entered r.no_threads r.no_places r.capacity (omega (arith, r.room));
    }

pub push-requires-clause-room : goal.push-requires-clause-room
push-requires-clause-room g c =
    gone_fits c.threads.index c.get.ensures.item c.requires.1.0.inside c.threads.invariant.stepping.gone (omega (arith, c.if-head-spot.true)) c.requires.1.0.room

pub threads-preserved-then-head-spot : goal.threads-preserved-then-head-spot
threads-preserved-then-head-spot g c = record {
  stepping = stepping_waits (seen_from c.args.spot.now g.text) (size c.args.spot.now.course) c.args.spot.now.course.hi c.args.spot.now.at
      c.args.curr.now.items c.args.growth.now.threads c.threads.growth.threads c.threads.growth.entered c.threads.index (thread_of c.get.result.0 c.get.result.1.now)
      c.get.ensures.item c.requires.1.0.inside c.threads.invariant.stepping c.push.new.self (omega (arith, c.if-head-spot.true)) c.requires.1.0.room
      c.push.ensures;
}

pub way_in-place-requires : goal.way_in-place-requires
way_in-place-requires g c = (
  c.requires.0,
  (
    (in_at (size c.args.spot.now.course) c.args.spot.now.at (min c.args.spot.now.course.hi (c.args.spot.now.at + 3)) c.args.curr.now.items c.threads.index
        (thread_of c.get.result.0 c.get.result.1.now) c.requires.1.0.inside c.get.ensures.item).0,
    c.threads.invariant.stepping.gone.sound.capacity,
  ),
)

-- what the thread gives at the place at which it enters
enters_there : (g : Over) (c : After-way_in-place g) (limit : Option ℕ) → IsUpTo c.args.spot.now.at limit → (below : List (Trace × Pair))
    (best o : Option Trace) →
    CarriesTo limit (seen_from c.args.spot.now g.text) c.args.spot.now.at c.threads.growth.threads.items c.threads.growth.entered.items
    ((trace c.get.result.0.start c.copy_row.new.slots.items, (c.way_in-place.result, c.args.spot.now.at))
    ∷ (map pending (drop (c.threads.index + 1) c.args.curr.now.items) ++ below)) best o →
    CarriesTo limit (seen_from c.args.spot.now g.text) c.args.spot.now.at [] [] (map pending c.args.curr.now.items ++ below) best o
enters_there g c limit le below best o x =
    stepping_goes (seen_from c.args.spot.now g.text) (size c.args.spot.now.course) c.args.spot.now.course.hi c.args.spot.now.at
    c.args.curr.now.items c.args.growth.now.threads c.threads.growth.threads c.threads.growth.entered c.threads.index
    (thread_of c.get.result.0 c.get.result.1.now) c.get.ensures.item c.requires.1.0.inside c.threads.invariant.stepping c.copy_row.new.slots.items
    (omega (arith, c.if-head-spot.false)) (sym c.copy_row.ensures.items) limit le below best o
    (carries_in (seen_from c.args.spot.now g.text) c.args.spot.now.at limit le c.threads.growth.threads.items c.threads.growth.entered.items best o
    (trace c.get.result.0.start c.copy_row.new.slots.items) (map pending (drop (c.threads.index + 1) c.args.curr.now.items) ++ below)
    c.way_in-place.ensures.way x)

pub returns-clause-stepped : goal.returns-clause-stepped
returns-clause-stepped g c = gone_all c.threads.invariant.stepping.gone

pub returns-clause-ended : goal.returns-clause-ended
returns-clause-ended g c =
    let l = length-drop c.threads.index c.args.curr.now.items in
    ⊎_elim (λ few. inl (omega (arith, l, few, c.threads-test.false, c.len-index-end.ensures.value))) (λ some. inr some) c.threads.invariant.stepping.some

pub returns-in-Some-clause-carries : goal.returns-in-Some-clause-carries
returns-in-Some-clause-carries g c limit le below best o x =
    enters_there g (goal.at.returns-in-Some-clause-carries g c).After-way_in-place limit le below best o
    (closed_carries (seen_from c.args.spot.now g.text) c.args.spot.now.at c.get.result.0.start limit le best o
    (map pending (drop (c.threads.index + 1) c.args.curr.now.items) ++ below) (Some c.in-Some.number) c.in-Some.ensures.closes x)

pub returns-in-Some-clause-stepped : goal.returns-in-Some-clause-stepped
returns-in-Some-clause-stepped g c =
    gone_all (gone_closes c.threads.index c.get.ensures.item c.requires.1.0.inside c.threads.invariant.stepping.gone c.in-Some.ensures.grown)

pub returns-in-Some-clause-ended : goal.returns-in-Some-clause-ended
returns-in-Some-clause-ended g c = (
  c.in-Some.ensures.exploring.some,
  λ x h. from_at x c.args.curr.now.items c.threads.index (thread_of c.get.result.0 c.get.result.1.now) h c.get.ensures.item,
)

pub threads-preserved : goal.threads-preserved
threads-preserved g c = record {
  stepping = record {
    carries = λ limit le below best o x.
        enters_there g (goal.at.threads-preserved g c).After-way_in-place limit le below best o
        (closed_carries (seen_from c.args.spot.now g.text) c.args.spot.now.at c.get.result.0.start limit le best o
        (map pending (drop (c.threads.index + 1) c.args.curr.now.items) ++ below) None c.in_default.ensures.closes x);
    gone = gone_closes c.threads.index c.get.ensures.item c.requires.1.0.inside c.threads.invariant.stepping.gone c.in_default.ensures.grown;
    some = inr (omega (arith, c.in_default.ensures.exploring.some));
  };
}
