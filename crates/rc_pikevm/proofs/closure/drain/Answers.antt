use Rattle.std.proofs.Common.{◌≡◌, [], ◌∷◌, reverse, sym, ap, subst, ◌∙◌, arith, rules, None}
use Rattle.std.proofs.lemmas.Option.{none-some}
use Rattle.rc_pikevm.specs.Explored.{Explores, begins, restores, enters, closure_of}
use Rattle.rc_pikevm.specs.Near.{seen_from, size}
use Rattle.rc_pikevm.specs.Passing.{AllInside}
use Rattle.rc_pikevm.specs.declared.growth.Frame.{Frame}
use Rattle.rc_pikevm.specs.declared.growth.Frame.TheVariants.{Explore, Restore}
use Rattle.rc_pikevm.proofs.GrownLemmas.{grown_same, grown_then}
use Rattle.rc_pikevm.proofs.EnteredLemmas.{popped, reverse-push}
use Rattle.rc_pikevm.proofs.closure.drain.Given.{Over}
use Rattle.rc_pikevm.proofs.closure.drain.Goals as goal
use Rattle.rc_pikevm.proofs.closure.drain.Goals.{In-Explore}

pub frames-init : goal.frames-init
frames-init g c = record {
  explored = begins;
  grown = grown_same c.requires.1.sound;
  exploring = c.requires.1;
  falls = omega arith;
}

-- the frame is popped that the closure goes on from
on_top : (g : Over) (c : In-Explore g) → Explores (seen_from c.args.spot.now g.text) c.args.spot.now.at c.args.start (closure_of c.args.growth.now) None
    (record (closure_of c.frames.growth) { frames = Explore c.in-Explore.place ∷ reverse c.pop.new.self.items })
on_top g c =
    subst (λ f. Explores (seen_from c.args.spot.now g.text) c.args.spot.now.at c.args.start (closure_of c.args.growth.now) None
    (record (closure_of c.frames.growth) { frames = f }))
    (popped c.frames.growth.stack.items c.pop.new.self.items c.in-Some.frame c.in-Explore.place c.in-Some.ensures.items c.in-Explore.is)
    c.frames.invariant.explored

pub returns-in-Some-enter-clause-closes : goal.returns-in-Some-enter-clause-closes
returns-in-Some-enter-clause-closes g c = record {
  explores = enters (on_top g (goal.at.returns-in-Some-enter-clause-closes g c).In-Explore) c.way_in-place.ensures.way c.in-Some-enter.ensures.visited;
  empty = λ e. absurd (none-some c.in-Some-enter.number (sym e));
}

pub returns-in-Some-enter-clause-grown : goal.returns-in-Some-enter-clause-grown
returns-in-Some-enter-clause-grown g c =
    grown_then c.frames.invariant.grown c.in-Some-enter.ensures.grown

pub returns-in-Some-enter-clause-falls : goal.returns-in-Some-enter-clause-falls
returns-in-Some-enter-clause-falls g c = omega (arith, c.frames.invariant.falls, c.in-Some-enter.ensures.falls, c.in-Some.ensures.cases)

pub frames-preserved-in_default-enter : goal.frames-preserved-in_default-enter
frames-preserved-in_default-enter g c = record {
  explored = enters (on_top g (goal.at.frames-preserved-in_default-enter g c).In-Explore) c.way_in-place.ensures.way c.in_default-enter.ensures.visited;
  grown = grown_then c.frames.invariant.grown c.in_default-enter.ensures.grown;
  exploring = c.in_default-enter.ensures.exploring;
  falls = omega (arith, c.frames.invariant.falls, c.in_default-enter.ensures.falls, c.in-Some.ensures.cases);
}

pub frames-preserved : goal.frames-preserved
frames-preserved g c =
    let inv = c.frames.invariant in
    let frames : reverse c.frames.growth.stack.items ≡ Restore c.in-Restore.slot c.in-Restore.old ∷ reverse c.pop.new.self.items =
    ap reverse c.in-Some.ensures.items ∙ reverse-push c.pop.new.self.items c.in-Some.frame ∙ ap (λ (f : Frame). f ∷ reverse c.pop.new.self.items) c.in-Restore.is in
    record {
      explored = restores (closure_of c.frames.growth)
          (subst (λ f. Explores (seen_from c.args.spot.now g.text) c.args.spot.now.at c.args.start (closure_of c.args.growth.now) None
          (record (closure_of c.frames.growth) { frames = f })) frames inv.explored);
      grown = inv.grown;
      exploring = record {
        sound = inv.exploring.sound;
        some = inv.exploring.some;
        frames = (subst (AllInside (size c.args.spot.now.course) c.frames.growth.threads.width) frames inv.exploring.frames).1;
        deep = omega (arith, inv.exploring.deep, c.in-Some.ensures.cases);
      };
      falls = omega (arith, inv.falls, c.in-Some.ensures.cases);
    }

pub returns-clause-closes : goal.returns-clause-closes
returns-clause-closes g c =
    let none : c.frames.growth.stack.items ≡ [] = search rules in
    let left : c.pop.new.self.items ≡ [] = search rules in
    record {
      explores = subst (λ fs. Explores (seen_from c.args.spot.now g.text) c.args.spot.now.at c.args.start (closure_of c.args.growth.now) None
          (record (closure_of c.frames.growth) { frames = reverse fs })) (none ∙ sym left) c.frames.invariant.explored;
      empty = λ _. ap reverse left;
    }
