use Rattle.std.proofs.Common.{◌≡◌, List, [], ◌∷◌, length, reverse, refl, sym, ap, subst, arith, rules, None}
use Rattle.std.proofs.lemmas.Option.{none-some}
use Rattle.rc_pikevm.specs.Entrances.{stays_in}
use Rattle.rc_pikevm.specs.Explored.{Explores, begins, enters, closure_at, closure_of}
use Rattle.rc_pikevm.specs.Near.{seen_from}
use Rattle.rc_pikevm.specs.declared.growth.Frame.TheVariants.{Explore}
use Rattle.rc_pikevm.proofs.ExploredLemmas.{explores_then}
use Rattle.rc_pikevm.proofs.GrownLemmas.{grown_then}
use Rattle.rc_pikevm.proofs.closure.close.Given.{Over}
use Rattle.rc_pikevm.proofs.closure.close.Goals as goal
use Rattle.rc_pikevm.proofs.closure.close.Goals.{After-clear}

none_left : {X : Type 0} (xs : List X) → length xs ≡ 0 → xs ≡ []
none_left [] e = refl
none_left (x ∷ xs) e = absurd (omega arith)

-- the stack is cleared before the place is entered
begun : (g : Over) (c : After-clear g) → Explores (seen_from c.args.spot.now g.text) c.args.spot.now.at c.args.start
    (closure_at c.args.root c.args.growth.now) None
    (record (closure_of c.args.growth.now) { frames = Explore c.args.root ∷ reverse c.clear.new.self.items })
begun g c =
    subst (λ fs. Explores (seen_from c.args.spot.now g.text) c.args.spot.now.at c.args.start (closure_at c.args.root c.args.growth.now) None
    (record (closure_of c.args.growth.now) { frames = Explore c.args.root ∷ reverse fs })) (sym c.clear.ensures.items) begins

pub returns-in-Some-clause-closes : goal.returns-in-Some-clause-closes
returns-in-Some-clause-closes g c = record {
  explores = enters (begun g (goal.at.returns-in-Some-clause-closes g c).After-clear) stays_in c.in-Some.ensures.visited;
  empty = λ e. absurd (none-some c.in-Some.number (sym e));
}

pub returns-then-is_empty-clause-closes : goal.returns-then-is_empty-clause-closes
returns-then-is_empty-clause-closes g c =
    let few : length c.enter.new.growth.stack.items ≡ 0 = search rules in
    record {
      explores = enters (begun g (goal.at.returns-then-is_empty-clause-closes g c).After-clear) stays_in c.in_default.ensures.visited;
      empty = λ _. ap reverse (none_left c.enter.new.growth.stack.items few);
    }

pub returns-clause-closes : goal.returns-clause-closes
returns-clause-closes g c = record {
  explores = explores_then (seen_from c.args.spot.now g.text) c.args.spot.now.at c.args.start
      (enters (begun g (goal.at.returns-clause-closes g c).After-clear) stays_in c.in_default.ensures.visited) c.drain.ensures.closes.explores;
  empty = c.drain.ensures.closes.empty;
}

pub returns-clause-grown : goal.returns-clause-grown
returns-clause-grown g c =
    grown_then c.in_default.ensures.grown c.drain.ensures.grown
