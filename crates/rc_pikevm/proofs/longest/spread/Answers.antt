use Rattle.std.proofs.Common.{◌≡◌, ◌++◌, sym, ap, subst, arith, rules, refl, None}
use Rattle.rc_pikevm.specs.Explored.{count_ended}
use Rattle.rc_pikevm.specs.Near.{seen_from}
use Rattle.rc_pikevm.specs.Passing.{waits}
use Rattle.rc_pikevm.specs.Races.{Races, IsRecorded}
use Rattle.rc_pikevm.specs.declared.pass.Ending.{Ending}
use Rattle.rc_pikevm.proofs.ExploredLemmas.{Records, explored_races, recorded_sought, recorded_counted}
use Rattle.rc_pikevm.proofs.GrownLemmas.{grown_then}
use Rattle.rc_pikevm.proofs.longest.spread.Given.{Over}
use Rattle.rc_pikevm.proofs.longest.spread.Goals as goal
use Rattle.rc_pikevm.proofs.longest.spread.Goals.{After-record}

pub ends-init : goal.ends-init
ends-init g c = record {
  races = λ best found r all below x.
      explored_races (seen_from c.args.spot.now g.text) c.args.spot.now.at c.args.start all below c.args.best.now c.args.found.now c.requires.1.1.1.0
      c.close-ended.ensures.closes.explores best found r x;
  empty = c.close-ended.ensures.closes.empty;
  sought = c.requires.1.1.1.0;
  counted = λ k h x. x;
  grown = c.close-ended.ensures.grown;
  exploring = c.close-ended.ensures.exploring;
}

recorded : (g : Over) (c : After-record g) → IsRecorded c.ends.best c.ends.found
    (record { pattern = c.in-Some.pattern; start = c.args.start; end = c.args.spot.now.at }) c.ends.growth.slots.items c.record.new.best c.record.new.found
recorded g c = rw c.deref.ensures.value at c.record.ensures

pub ends-smaller : goal.ends-smaller
ends-smaller g c =
    let one = ap count_ended c.in-Some.is in
    let grown = c.drain-ended.ensures.grown in
    omega (arith, one, c.drain-ended.ensures.falls, grown.more, grown.sound.few)

pub ends-preserved : goal.ends-preserved
ends-preserved g c =
    let s = seen_from c.args.spot.now g.text in
    let inv = c.ends.invariant in
    let r = recorded g (goal.at.ends-preserved g c).After-record in
    let new : Ending = record { pattern = c.in-Some.pattern; start = c.args.start; end = c.args.spot.now.at } in
    let sought = recorded_sought c.ends.best c.ends.found new c.ends.growth.slots.items c.record.new.best c.record.new.found r inv.sought in
    record {
      races = λ best found later all below x.
          explored_races s c.args.spot.now.at c.args.start all below c.record.new.best c.record.new.found sought c.drain-ended.ensures.closes.explores best found later
          (inv.races c.record.new.best c.record.new.found
          (subst (λ t. Records c.args.start c.args.spot.now.at t c.ends.growth.slots.items c.ends.best c.ends.found c.record.new.best c.record.new.found)
          (sym c.in-Some.is) r) all below x);
      empty = c.drain-ended.ensures.closes.empty;
      sought = sought;
      counted = λ k h x. recorded_counted c.ends.best c.ends.found new c.ends.growth.slots.items c.record.new.best c.record.new.found r k h (inv.counted k h x);
      grown = grown_then inv.grown c.drain-ended.ensures.grown;
      exploring = c.drain-ended.ensures.exploring;
    }

pub returns-clause-races : goal.returns-clause-races
returns-clause-races g c all below x =
    let none : c.ends.ended ≡ None = search rules in
    let inv = c.ends.invariant in
    subst (λ f. Races (seen_from c.args.spot.now g.text) all c.args.spot.now.at c.ends.growth.threads.items c.ends.growth.entered.items
    (waits c.args.start c.args.spot.now.at f c.ends.growth.slots.items ++ below) c.ends.best c.ends.found) (inv.empty none)
    (inv.races c.ends.best c.ends.found
    (subst (λ t. Records c.args.start c.args.spot.now.at t c.ends.growth.slots.items c.ends.best c.ends.found c.ends.best c.ends.found) (sym none) (refl, refl))
    all below x)
