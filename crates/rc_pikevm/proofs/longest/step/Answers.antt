use Rattle.std.proofs.Common.{◌≡◌, ◌+◌, [], ◌++◌, map, drop, min, inl, refl, sym, arith, subst}
use Rattle.rc_pikevm.specs.Near.{seen_from, size}
use Rattle.rc_pikevm.specs.Threads.{thread_of}
use Rattle.rc_pikevm.specs.Passing.{pending}
use Rattle.rc_pikevm.specs.Races.{Races}
use Rattle.rc_pikevm.proofs.StepLemmas.{gone_all, gone_begins, gone_fits, in_at, over}
use Rattle.rc_pikevm.proofs.RaceStepLemmas.{run_drops, run_waits, run_closes}
use Rattle.rc_pikevm.proofs.longest.step.Goals as goal

pub threads-init : goal.threads-init
threads-init g c =
    let r = c.requires.1.0 in
    record {
      running = record {
        races = λ from below x. rw (r.no_threads, r.no_places) x;
        gone = gone_begins r.no_threads r.no_places r.capacity (omega (arith, r.room));
        counted = λ k h x. x;
        still = inl refl;
      };
    }

pub threads-preserved-then-not-is_sought : goal.threads-preserved-then-not-is_sought
threads-preserved-then-not-is_sought g c = record {
  running = run_drops c.threads.index c.get.ensures.item c.requires.1.0.inside c.threads.invariant.running c.if-not-is_sought.ensures;
}

pub push-requires-clause-room : goal.push-requires-clause-room
push-requires-clause-room g c =
    gone_fits c.threads.index c.get.ensures.item c.requires.1.0.inside c.threads.invariant.running.gone (omega (arith, c.if-head-spot.true)) c.requires.1.0.room

pub threads-preserved-then-head-spot : goal.threads-preserved-then-head-spot
threads-preserved-then-head-spot g c = record {
  running = run_waits c.threads.index c.get.ensures.item c.requires.1.0.inside c.threads.invariant.running c.if-not-is_sought.ensures
      (omega (arith, c.if-head-spot.true)) c.requires.1.0.room c.push.ensures;
}

pub way_in-place-requires : goal.way_in-place-requires
way_in-place-requires g c = (
  c.requires.0,
  (
    (in_at (size c.args.spot.now.course) c.args.spot.now.at (min c.args.spot.now.course.hi (c.args.spot.now.at + 3)) c.args.curr.now.items c.threads.index
        (thread_of c.get.result.0 c.get.result.1.now) c.requires.1.0.inside c.get.ensures.item).0,
    c.threads.invariant.running.gone.sound.capacity,
  ),
)

pub threads-preserved : goal.threads-preserved
threads-preserved g c = record {
  running = run_closes c.threads.index c.get.ensures.item c.requires.1.0.inside c.threads.invariant.running c.if-not-is_sought.ensures
      (omega (arith, c.if-head-spot.false)) (sym c.copy_row.ensures.items) c.way_in-place.ensures.way c.spread.ensures.races
      c.spread.ensures.grown c.spread.ensures.counted c.spread.ensures.some;
}

pub returns-clause-races : goal.returns-clause-races
returns-clause-races g c all below x =
    let none : drop c.threads.index c.args.curr.now.items ≡ [] =
    over c.args.curr.now.items c.threads.index (omega (arith, c.threads-test.false, c.len-index-end.ensures.value)) in
    subst (λ ts. Races (seen_from c.args.spot.now g.text) all c.args.spot.now.at c.threads.growth.threads.items c.threads.growth.entered.items
    (map pending ts ++ below) c.threads.best c.threads.found) none
    (c.threads.invariant.running.races all below x)

pub returns-clause-stepped : goal.returns-clause-stepped
returns-clause-stepped g c = gone_all c.threads.invariant.running.gone
