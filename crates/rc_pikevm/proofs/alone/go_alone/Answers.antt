use Rattle.std.proofs.Common.{◌≡◌, ℕ, ◌+◌, [], ◌∷◌, min, refl, sym, ap, subst, ◌∙◌, arith}
use Rattle.rc_pikevm.specs.Near.{size}
use Rattle.rc_pikevm.specs.Moves.{seen_by}
use Rattle.rc_pikevm.specs.Threads.{ThreadList, thread_of}
use Rattle.rc_pikevm.specs.Passing.{IsLined}
use Rattle.rc_pikevm.specs.Races.{IsCutOff}
use Rattle.rc_pikevm.specs.Alone.{IsAhead}
use Rattle.rc_pikevm.specs.Underway.{HasCome}
use Rattle.rc_pikevm.specs.declared.rule.Rule.{Rule}
use Rattle.rc_pikevm.specs.Windows.{IsBegun}
use Rattle.rc_pikevm.proofs.StepLemmas.{in_at}
use Rattle.rc_pikevm.proofs.TurnLemmas.{none_from}
use Rattle.rc_pikevm.proofs.UnderwayLemmas.{moves_by, turns_by, widened}
use Rattle.rc_pikevm.proofs.RaceAloneLemmas.{ahead_sought, ahead_cut, ahead_later}
use Rattle.rc_pikevm.proofs.AloneLemmas.{only_thread, lined_moved, ends_only}
use Rattle.rc_pikevm.proofs.alone.go_alone.Given.{Over}
use Rattle.rc_pikevm.proofs.alone.go_alone.Goals as goal
use Rattle.rc_pikevm.proofs.alone.go_alone.Goals.{After-get, After-move_alone}

one : (g : Over) (c : After-get g) → c.args.scratch.now.curr.items ≡ thread_of c.get.result.0 c.get.result.1.now ∷ []
one g c =
    only_thread c.args.scratch.now.curr.items (thread_of c.get.result.0 c.get.result.1.now) (omega (arith, c.len.ensures.value, c.if-len-ne1.false))
    c.get.ensures.item

pub run-ended-requires : goal.run-ended-requires
run-ended-requires g c =
    let here : c.get.result.0.at ≡ c.args.at = (c.is_ahead.ensures c.if-not-is_ahead.false).0 in (
      c.requires.0,
      (
        c.requires.1.0,
        (
          subst (λ x. IsBegun g.text x c.args.window.now) (sym here) c.requires.1.1.0,
          (
            omega (arith, here, c.requires.1.1.1.1.0),
            (
              (in_at (size c.args.course) c.args.at (min c.args.course.hi (c.args.at + 3)) c.args.scratch.now.curr.items 0
                  (thread_of c.get.result.0 c.get.result.1.now) c.requires.1.1.1.1.1.1.inside c.get.ensures.item).0,
              (c.opening-way.ensures.inside, c.opening-way.ensures.way),
            ),
          ),
        ),
      ),
    )

-- the lone thread has gone on
gone : (g : Over) (c : After-move_alone g) (rule : Rule) (from : ℕ) → c.args.scratch.now.curr.items ≡ thread_of c.get.result.0 c.get.result.1.now ∷ [] →
    HasCome rule c.args.course g.text c.args.scratch.now.next.threads.width from c.args.at c.args.scratch.now c.args.best.now →
    HasCome rule c.args.course g.text c.args.scratch.now.next.threads.width from c.run-ended.result.0.at c.move_alone.new.scratch c.args.best.now
gone g c rule from e p =
    let t = thread_of c.get.result.0 c.get.result.1.now in
    let first = c.is_ahead.ensures c.if-not-is_ahead.false in
    let here : c.get.result.0.at ≡ c.args.at = first.0 in
    let ahead : IsAhead c.args.best.now t.start c.args.at = first.1 in
    let open_is = none_from c.args.best.now c.is_none.result c.is_none.ensures in
    moves_by t c.run-ended.result.0 c.is_none.result p e (c.move_alone.ensures.curr t e) c.move_alone.ensures.found c.move_alone.ensures.insertions here
    c.run-ended.ensures.start c.run-ended.ensures.place_in (omega (arith, here, c.run-ended.ensures.later)) c.run-ended.ensures.within open_is
    c.run-ended.ensures.carries
    (λ all x. c.run-ended.ensures.races all t.slots c.args.scratch.now.next.threads.width c.args.best.now c.args.scratch.now.found.items
    (ahead_sought c.args.best.now t.start c.args.at ahead)
    (λ e. subst (IsCutOff c.args.best.now) (sym here) (ahead_cut c.args.best.now t.start c.args.at ahead (sym open_is ∙ e))) x)

pub returns-in_default-clause-come : goal.returns-in_default-clause-come
returns-in_default-clause-come g c rule from p =
    gone g (goal.at.returns-in_default-clause-come g c).After-move_alone rule from (one g (goal.at.returns-in_default-clause-come g c).After-get) p

-- the lone thread is in line there
lined-there : (g : Over) (c : After-move_alone g) → c.args.scratch.now.curr.items ≡ thread_of c.get.result.0 c.get.result.1.now ∷ [] →
    IsLined (seen_by c.args.course g.text) (size c.args.course) c.args.course.hi c.args.scratch.now.next.threads.width c.run-ended.result.0.at
    c.move_alone.new.scratch.insertions c.move_alone.new.scratch.curr
lined-there g c e =
    let t = thread_of c.get.result.0 c.get.result.1.now in
    let here : c.get.result.0.at ≡ c.args.at = (c.is_ahead.ensures c.if-not-is_ahead.false).0 in
    lined_moved (seen_by c.args.course g.text) (size c.args.course) c.args.course.hi c.args.scratch.now.next.threads.width c.args.at c.args.scratch.now.insertions
    c.move_alone.new.scratch.insertions c.args.scratch.now.curr c.move_alone.new.scratch.curr t c.run-ended.result.0 e
    (c.move_alone.ensures.curr t e) (omega (arith, here, c.run-ended.ensures.later)) c.move_alone.ensures.insertions
    c.requires.1.1.1.1.1.1 c.run-ended.ensures.start c.run-ended.ensures.place_in c.run-ended.ensures.within

pub end_walk-requires : goal.end_walk-requires
end_walk-requires g c =
    let t = thread_of c.get.result.0 c.get.result.1.now in
    let e = one g (goal.at.end_walk-requires g c).After-get in
    let p = lined-there g (goal.at.end_walk-requires g c).After-move_alone e in
    let ended = rw c.in-Some.is at c.run-ended.ensures.ended in (
      subst (λ w. IsLined (seen_by c.args.course g.text) (size c.args.course) c.args.course.hi w c.run-ended.result.0.at c.move_alone.new.scratch.insertions c.move_alone.new.scratch.curr)
          (sym c.move_alone.ensures.width) p,
      (
        omega (arith, c.requires.1.1.1.1.1.0, c.move_alone.ensures.insertions, c.run-ended.ensures.within, c.args.course.small),
        ends_only (seen_by c.args.course g.text) c.run-ended.result.0.at c.move_alone.new.scratch.curr.items
            (thread_of c.run-ended.result.0 t.slots) c.in-Some.number (ap (λ (l : ThreadList). l.items) (c.move_alone.ensures.curr t e)) refl ended.0,
      ),
    )

pub returns-clause-come : goal.returns-clause-come
returns-clause-come g c rule from p =
    let at : ℕ = c.run-ended.result.0.at in
    let wide = c.move_alone.ensures.width in
    let t = thread_of c.get.result.0 c.get.result.1.now in
    let e = one g (goal.at.returns-clause-come g c).After-get in
    let start : c.end_walk.result.start ≡ t.start =
    c.end_walk.ensures.start (thread_of c.run-ended.result.0 t.slots) (ap (λ (l : ThreadList). l.items) (c.move_alone.ensures.curr t e)) ∙ c.run-ended.ensures.start in
    let first = c.is_ahead.ensures c.if-not-is_ahead.false in
    let ahead : IsAhead c.args.best.now c.end_walk.result.start at =
    subst (λ x. IsAhead c.args.best.now x at) (sym start)
    (ahead_later c.args.best.now t.start c.args.at at (let f = first.0 in omega (arith, f, c.run-ended.ensures.later)) first.1) in
    widened wide
    (turns_by (widened (sym wide) (gone g (goal.at.returns-clause-come g c).After-move_alone rule from e p)) c.run-ended.ensures.within
    (c.end_walk.ensures.turns rule c.args.best.now ahead) c.end_walk.ensures.lined c.end_walk.ensures.counted
    (omega (arith, c.end_walk.ensures.few, c.run-ended.ensures.place_in)))
