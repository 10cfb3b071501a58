use Rattle.std.proofs.Common.{◌≡◌, ◌++◌, ◌↔◌, ◌∷◌, None, true, length, sym, ap, subst, ◌∙◌, arith, rules, refl}
use Rattle.std.proofs.lemmas.List.{length-set}
use Rattle.rc_pattern_set.proofs.SetLemmas.{set_keeps}
use Rattle.rc_pikevm.specs.Explored.{count_ended}
use Rattle.rc_pikevm.specs.Near.{seen_from}
use Rattle.rc_pikevm.specs.Marking.{Owed, explored}
use Rattle.rc_pikevm.proofs.ExploredLemmas.{Marks, explored_accepted, explored_owed}
use Rattle.rc_pikevm.proofs.GrownLemmas.{grown_then}
use Rattle.rc_pikevm.proofs.MarkMoveLemmas.{same_then, low_in}
use Rattle.rc_pikevm.proofs.which.spread.Goals as goal

pub ends-init : goal.ends-init
ends-init g c =
    let s = seen_from c.args.spot.now g.text in
    let e = c.close-ended.ensures.closes.explores in
    record {
      same = λ set m below p low. explored_owed s c.args.spot.now.at c.args.start below p e c.requires.1.1.1 c.args.set.now set low m;
      accepted = λ number is. explored_accepted s c.args.spot.now.at c.args.start e number is c.args.spot.now.course.program.now.runnable.numbered;
      empty = c.close-ended.ensures.closes.empty;
      long = refl;
      more = λ p h. h;
      grown = c.close-ended.ensures.grown;
      exploring = c.close-ended.ensures.exploring;
    }

pub mark-requires : goal.mark-requires
mark-requires g c = c.ends.invariant.accepted c.in-Some.number c.in-Some.is

pub ends-smaller : goal.ends-smaller
ends-smaller g c =
    let one = ap count_ended c.in-Some.is in
    let grown = c.drain-ended.ensures.grown in
    omega (arith, one, c.drain-ended.ensures.falls, grown.more, grown.sound.few)

pub ends-preserved : goal.ends-preserved
ends-preserved g c =
    let s = seen_from c.args.spot.now g.text in
    let inv = c.ends.invariant in
    let e = c.drain-ended.ensures.closes.explores in
    let long : length c.mark.new.set ≡ length c.args.set.now = rw c.mark.ensures (length-set c.ends.set c.in-Some.number true) ∙ inv.long in
    record {
      same = λ set m below p low.
          same_then (inv.same c.mark.new.set (subst (λ t. Marks t c.ends.set c.mark.new.set) (sym c.in-Some.is) c.mark.ensures) below p low)
          (explored_owed s c.args.spot.now.at c.args.start below p e (inv.grown.same_width ∙ c.requires.1.1.1) c.mark.new.set set
          (low_in p c.args.set.now c.mark.new.set long low) m);
      accepted = λ number is. explored_accepted s c.args.spot.now.at c.args.start e number is c.args.spot.now.course.program.now.runnable.numbered;
      empty = c.drain-ended.ensures.closes.empty;
      long = long;
      more = λ p h. rw c.mark.ensures (set_keeps c.ends.set c.in-Some.number p (inv.more p h));
      grown = grown_then inv.grown c.drain-ended.ensures.grown;
      exploring = c.drain-ended.ensures.exploring;
    }

pub returns-clause-same : goal.returns-clause-same
returns-clause-same g c below p low =
    let none : c.ends.ended ≡ None = search rules in
    let inv = c.ends.invariant in
    let s = seen_from c.args.spot.now g.text in
    subst (λ f. Owed s c.args.spot.now.at c.args.growth.now.threads.items c.args.growth.now.entered.items ((c.args.root, c.args.spot.now.at) ∷ below) c.args.set.now p
    ↔ Owed s c.args.spot.now.at c.ends.growth.threads.items c.ends.growth.entered.items (explored c.args.spot.now.at f ++ below) c.ends.set p) (inv.empty none)
    (inv.same c.ends.set (subst (λ t. Marks t c.ends.set c.ends.set) (sym none) refl) below p low)
