use Rattle.std.proofs.Common.{◌+◌, map, ◌++◌, sym, arith, length-drop, inl, inr, ⊎_elim, min, subst}
use Rattle.rc_pikevm.specs.Near.{seen_from, size}
use Rattle.rc_pikevm.specs.Threads.{thread_of}
use Rattle.rc_pikevm.specs.Spread.{Seeks, running}
use Rattle.rc_pikevm.proofs.StepLemmas.{gone_all, gone_fits, in_at, over}
use Rattle.rc_pikevm.proofs.SpreadMoveLemmas.{ordered_wider}
use Rattle.rc_pikevm.proofs.SpreadStepLemmas.{spreading_begins, ordered_here, spreading_waits, spreading_closes}
use Rattle.rc_pikevm.proofs.greatest.step.Goals as goal

pub threads-init : goal.threads-init
threads-init g c = record {
  spreading = spreading_begins c.requires.1.0.no_threads c.requires.1.0.no_places c.requires.1.0.capacity
      (omega (arith, c.requires.1.0.room)) c.requires.1.1.0;
}

pub push-requires-clause-room : goal.push-requires-clause-room
push-requires-clause-room g c =
    gone_fits c.threads.index c.get.ensures.item c.requires.1.0.inside c.threads.invariant.spreading.gone (omega (arith, c.if-head-spot.true)) c.requires.1.0.room

pub threads-preserved-then-head-spot : goal.threads-preserved-then-head-spot
threads-preserved-then-head-spot g c = record {
  spreading = spreading_waits c.threads.index c.get.ensures.item c.requires.1.0.inside c.threads.invariant.spreading
      (omega (arith, c.if-head-spot.true)) c.requires.1.0.room c.push.ensures;
}

pub spread-requires : goal.spread-requires
spread-requires g c = (
  c.requires.0,
  (
    (in_at (size c.args.spot.now.course) c.args.spot.now.at (min c.args.spot.now.course.hi (c.args.spot.now.at + 3)) c.args.curr.now.items c.threads.index
        (thread_of c.get.result.0 c.get.result.1.now) c.requires.1.0.inside c.get.ensures.item).0,
    (
      c.threads.invariant.spreading.gone.sound,
      (
        ordered_here c.threads.index c.get.ensures.item c.requires.1.0.inside c.threads.invariant.spreading,
        omega (arith, c.threads.invariant.spreading.gone.same_width, c.requires.1.1.1),
      ),
    ),
  ),
)

pub threads-preserved : goal.threads-preserved
threads-preserved g c = record {
  spreading = spreading_closes c.threads.index c.get.ensures.item c.requires.1.0.inside c.threads.invariant.spreading
      (omega (arith, c.if-head-spot.false)) c.spread.ensures.seeks c.spread.ensures.grown c.spread.ensures.ordered c.spread.ensures.counted
      c.spread.ensures.some;
}

pub returns-clause-seeks : goal.returns-clause-seeks
returns-clause-seeks g c below o low x =
    let none = over c.args.curr.now.items c.threads.index (omega (arith, c.threads-test.false, c.len-index-end.ensures.value)) in
    c.threads.invariant.spreading.seeks below o low
    (subst (λ ts. Seeks (seen_from c.args.spot.now g.text) c.args.spot.now.at c.threads.growth.threads.items c.threads.growth.entered.items
    (map running ts ++ below) c.threads.best o) (sym none) x)

pub returns-clause-ordered : goal.returns-clause-ordered
returns-clause-ordered g c =
    ordered_wider c.threads.invariant.spreading.reached c.args.spot.now.at c.threads.growth.threads.items c.threads.invariant.spreading.within
    c.threads.invariant.spreading.ordered

pub returns-clause-some : goal.returns-clause-some
returns-clause-some g c =
    let l = length-drop c.threads.index c.args.curr.now.items in
    ⊎_elim (λ few. inl (omega (arith, l, few, c.threads-test.false, c.len-index-end.ensures.value))) (λ some. inr some) c.threads.invariant.spreading.some

pub returns-clause-stepped : goal.returns-clause-stepped
returns-clause-stepped g c = gone_all c.threads.invariant.spreading.gone
