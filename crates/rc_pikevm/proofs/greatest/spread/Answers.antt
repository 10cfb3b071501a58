use Rattle.std.proofs.Common.{◌≡◌, ◌++◌, Some, None, ⊎_elim, sym, ap, subst, ◌∙◌, arith, rules, refl}
use Rattle.rc_pikevm.specs.Explored.{count_ended}
use Rattle.rc_pikevm.specs.Near.{seen_from}
use Rattle.rc_pikevm.specs.Passing.{IsCounted}
use Rattle.rc_pikevm.specs.Spread.{Seeks, runners_of}
use Rattle.rc_pikevm.specs.declared.pass.Ending.{Ending}
use Rattle.rc_pikevm.proofs.ExploredLemmas.{Greatens, explored_ordered, explored_seeks}
use Rattle.rc_pikevm.proofs.GrownLemmas.{grown_then}
use Rattle.rc_pikevm.proofs.greatest.spread.Goals as goal

pub ends-init : goal.ends-init
ends-init g c = record {
  seeks = λ best r below o low x.
      explored_seeks (seen_from c.args.spot.now g.text) c.args.spot.now.at c.args.start below low o c.close-ended.ensures.closes.explores c.requires.1.1.1.1
      c.args.best.now best r x;
  empty = c.close-ended.ensures.closes.empty;
  ordered = explored_ordered (seen_from c.args.spot.now g.text) c.args.spot.now.at c.args.start c.close-ended.ensures.closes.explores c.requires.1.1.1.1
      c.requires.1.1.1.0;
  counted = λ k h x. x;
  grown = c.close-ended.ensures.grown;
  exploring = c.close-ended.ensures.exploring;
}

pub ends-smaller : goal.ends-smaller
ends-smaller g c =
    let one = ap count_ended c.in-Some.is in
    let grown = c.drain-ended.ensures.grown in
    omega (arith, one, c.drain-ended.ensures.falls, grown.more, grown.sound.few)

pub ends-preserved : goal.ends-preserved
ends-preserved g c =
    let s = seen_from c.args.spot.now g.text in
    let inv = c.ends.invariant in
    let narrow = inv.grown.same_width ∙ c.requires.1.1.1.1 in
    let r = c.greater.ensures in
    record {
      seeks = λ best later below o low x.
          inv.seeks (Some c.greater.result) (subst (λ t. Greatens c.args.start c.args.spot.now.at t c.ends.best (Some c.greater.result)) (sym c.in-Some.is)
          (c.greater.result, refl, r)) below o low
          (explored_seeks s c.args.spot.now.at c.args.start below low o c.drain-ended.ensures.closes.explores narrow (Some c.greater.result) best later x);
      empty = c.drain-ended.ensures.closes.empty;
      ordered = explored_ordered s c.args.spot.now.at c.args.start c.drain-ended.ensures.closes.explores narrow inv.ordered;
      counted = λ k h x.
          ⊎_elim (λ e. subst (λ (r : Ending). IsCounted k (Some r)) (sym e) h) (λ e. subst (IsCounted k) e (inv.counted k h x)) r.one;
      grown = grown_then inv.grown c.drain-ended.ensures.grown;
      exploring = c.drain-ended.ensures.exploring;
    }

pub returns-clause-seeks : goal.returns-clause-seeks
returns-clause-seeks g c below o low x =
    let none : c.ends.ended ≡ None = search rules in
    let inv = c.ends.invariant in
    inv.seeks c.ends.best (subst (λ t. Greatens c.args.start c.args.spot.now.at t c.ends.best c.ends.best) (sym none) refl) below o low
    (subst (λ f. Seeks (seen_from c.args.spot.now g.text) c.args.spot.now.at c.ends.growth.threads.items c.ends.growth.entered.items
    (runners_of c.args.start c.args.spot.now.at f ++ below) c.ends.best o) (sym (inv.empty none)) x)
