use Rattle.std.proofs.Common.{◌+◌, map, ◌++◌, ◌↔◌, [], arith, min, subst}
use Rattle.rc_pikevm.specs.Sights.{Sight}
use Rattle.rc_pikevm.specs.Near.{seen_from, size}
use Rattle.rc_pikevm.specs.Threads.{thread_of}
use Rattle.rc_pikevm.specs.Marking.{Owed, going}
use Rattle.rc_pikevm.proofs.StepLemmas.{gone_all, gone_fits, in_at, over}
use Rattle.rc_pikevm.proofs.MarkStepLemmas.{marking_begins, marking_waits, marking_closes}
use Rattle.rc_pikevm.proofs.which.step.Goals as goal

pub threads-init : goal.threads-init
threads-init g c = record {
  marking = marking_begins c.requires.1.0.no_threads c.requires.1.0.no_places c.requires.1.0.capacity (omega (arith, c.requires.1.0.room));
}

pub push-requires-clause-room : goal.push-requires-clause-room
push-requires-clause-room g c =
    gone_fits c.threads.index c.get.ensures.item c.requires.1.0.inside c.threads.invariant.marking.gone (omega (arith, c.if-head-spot.true)) c.requires.1.0.room

pub threads-preserved-then-head-spot : goal.threads-preserved-then-head-spot
threads-preserved-then-head-spot g c = record {
  marking = marking_waits c.threads.index c.get.ensures.item c.requires.1.0.inside c.threads.invariant.marking
      (omega (arith, c.if-head-spot.true)) c.requires.1.0.room c.push.ensures;
}

pub spread-requires : goal.spread-requires
spread-requires g c = (
  c.requires.0,
  (
    (in_at (size c.args.spot.now.course) c.args.spot.now.at (min c.args.spot.now.course.hi (c.args.spot.now.at + 3)) c.args.curr.now.items c.threads.index
        (thread_of c.get.result.0 c.get.result.1.now) c.requires.1.0.inside c.get.ensures.item).0,
    (c.threads.invariant.marking.gone.sound, omega (arith, c.threads.invariant.marking.gone.same_width, c.requires.1.1)),
  ),
)

pub threads-preserved : goal.threads-preserved
threads-preserved g c = record {
  marking = marking_closes c.threads.index c.get.ensures.item c.requires.1.0.inside c.threads.invariant.marking
      (omega (arith, c.if-head-spot.false)) c.spread.ensures.same c.spread.ensures.long c.spread.ensures.more c.spread.ensures.grown;
}

pub returns-clause-same : goal.returns-clause-same
returns-clause-same g c below p low =
    let none = over c.args.curr.now.items c.threads.index (omega (arith, c.threads-test.false, c.len-index-end.ensures.value)) in
    let s : Sight = seen_from c.args.spot.now g.text in
    subst (λ ts. Owed s c.args.spot.now.at [] [] (map going c.args.curr.now.items ++ below) c.args.set.now p
    ↔ Owed s c.args.spot.now.at c.threads.growth.threads.items c.threads.growth.entered.items (map going ts ++ below) c.threads.set p) none
    (c.threads.invariant.marking.same below p low)

pub returns-clause-stepped : goal.returns-clause-stepped
returns-clause-stepped g c = gone_all c.threads.invariant.marking.gone
