use Rattle.std.proofs.Common.{ℕ, ◌+◌, ◌≤◌, ◌++◌, length, reverse, inl, inr, refl, sym, ap, subst, ◌∙◌, arith}
use Rattle.std.proofs.lemmas.List.{length_push, length-map}
use Rattle.rc_program.specs.Places.{place_of}
use Rattle.rc_pikevm.specs.Sparse.{Members}
use Rattle.rc_pikevm.specs.Explored.{Grows}
use Rattle.rc_pikevm.specs.Near.{seen_from, size}
use Rattle.rc_pikevm.specs.Passing.{IsGrown, IsMoveInside, resting_of}
use Rattle.rc_pikevm.proofs.GrownLemmas.{gone_inside, grown_by, frames_inside}
use Rattle.rc_pikevm.proofs.closure.enter.Given.{Over}
use Rattle.rc_pikevm.proofs.closure.enter.Goals as goal
use Rattle.rc_pikevm.proofs.closure.enter.Goals.{After-act}

pub returns-then-not-insert-clause-visited : goal.returns-then-not-insert-clause-visited
returns-then-not-insert-clause-visited g c =
    inl (
      record {
        before = c.if-not-insert.ensures.member;
        threads = refl;
        entered = c.if-not-insert.ensures.after;
        frames = refl;
        slots = refl;
      },
      refl,
    )

pub returns-clause-visited : goal.returns-clause-visited
returns-clause-visited g c =
    let a = c.act.ensures.acted in
    inr (
      a.move,
      record {
        fresh = c.if-not-insert.ensures.member;
        goes = a.goes;
        threads = a.made.threads;
        entered = a.made.entered ∙ c.if-not-insert.ensures.after;
        frames = a.made.frames;
        slots = a.made.slots;
      },
      a.ended,
    )

move_in : (g : Over) (c : After-act g) → IsMoveInside (size c.args.spot.now.course) c.act.ensures.acted.move
move_in g c =
    subst (λ n. IsMoveInside n c.act.ensures.acted.move) (length-map c.args.spot.now.course.program.now.places.items place_of)
    (gone_inside (seen_from c.args.spot.now g.text) c.args.place c.args.spot.now.at c.act.ensures.acted.move
    c.args.spot.now.course.program.now.runnable.closed c.act.ensures.acted.goes)

grown : (g : Over) (c : After-act g) → Grows c.args.spot.now g.text c.args.start c.args.growth.now c.act.new.growth
grown g c =
    let n : ℕ = size c.args.spot.now.course in
    let a = c.act.ensures.acted in
    let few : length c.args.growth.now.entered.items + 1 ≤ n =
    let e = ap (λ (m : Members). length m.items) c.if-not-insert.ensures.after ∙ length_push c.args.growth.now.entered.items c.args.place in
    let f = ap (λ (m : Members). m.capacity) c.if-not-insert.ensures.after in
    omega (arith, e, f, c.if-not-insert.ensures.few, c.requires.1.1.0.capacity) in
    subst (λ t. IsGrown (seen_from c.args.spot.now g.text) n c.args.spot.now.course.hi c.args.start c.args.spot.now.at c.args.growth.now.threads c.args.growth.now.entered t
    c.act.new.growth.entered) (sym a.made.threads)
    (subst (λ e. IsGrown (seen_from c.args.spot.now g.text) n c.args.spot.now.course.hi c.args.start c.args.spot.now.at c.args.growth.now.threads c.args.growth.now.entered
    (record c.args.growth.now.threads { items = c.args.growth.now.threads.items ++ resting_of c.args.start c.args.growth.now.slots.items a.move }) e)
    (sym (a.made.entered ∙ c.if-not-insert.ensures.after))
    (grown_by n c.args.spot.now.course.hi c.args.start c.args.spot.now.at c.args.place c.args.growth.now.slots.items a.move
    c.args.growth.now.threads c.args.growth.now.entered (seen_from c.args.spot.now g.text)
    (sym c.requires.0.setting.bound) c.requires.1.1.0 c.if-not-insert.ensures.member few a.goes
    (move_in g c)))

pub returns-clause-grown : goal.returns-clause-grown
returns-clause-grown g c = grown g (goal.at.returns-clause-grown g c).After-act

pub returns-clause-exploring : goal.returns-clause-exploring
returns-clause-exploring g c =
    let a = c.act.ensures.acted in
    let after = (goal.at.returns-clause-exploring g c).After-act in
    let more = ap (λ (m : Members). length m.items) (a.made.entered ∙ c.if-not-insert.ensures.after)
    ∙ length_push c.args.growth.now.entered.items c.args.place in
    record {
      sound = (grown g after).sound;
      some = omega (arith, more);
      frames = rw (a.made.threads, a.made.frames)
          (frames_inside (size c.args.spot.now.course) c.args.growth.now.threads.width c.args.growth.now.slots.items a.move
          (reverse c.args.growth.now.stack.items) c.args.growth.now.wide.0 (move_in g after) c.requires.1.1.1.0);
      deep = omega (arith, more, c.act.ensures.deep, c.requires.1.1.1.1);
    }
