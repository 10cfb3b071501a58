use Rattle.std.proofs.Common.{◌≡◌, ℕ, ◌+◌, ◌-◌, [], ◌++◌, map, sym, ap, subst, ◌∙◌, arith, Some}
use Rattle.rc_pikevm.specs.Threads.{ThreadList}
use Rattle.rc_pikevm.specs.Near.{seen_from}
use Rattle.rc_pikevm.specs.Trace.{done}
use Rattle.rc_pikevm.specs.Passing.{CarriesTo, PendingTo, pending, waiting_starts}
use Rattle.rc_pikevm.proofs.TurnLemmas.{none_from, inside_by, lined_next, ready_for, turned_on, turned_ends}
use Rattle.rc_pikevm.proofs.pass.turn.Given.{Over}
use Rattle.rc_pikevm.proofs.pass.turn.Goals as goal
use Rattle.rc_pikevm.proofs.pass.turn.Goals.{After-clear}

wide : (g : Over) (c : After-clear g) → c.clear.new.self.threads.width ≡ c.args.scratch.now.next.threads.width
wide g c = ap (λ (l : ThreadList). l.width) c.clear.ensures.threads

pub advance-end-requires : goal.advance-end-requires
advance-end-requires g c = (
  c.requires.0,
  (
    ready_for c.args.spot.now c.args.scratch.now.next.threads c.args.scratch.now.next.entered c.clear.new.self c.requires.1.1.0 c.clear.ensures.threads
        c.clear.ensures.entered c.args.scratch.now.alike.0 c.requires.1.0,
    (
      c.args.scratch.now.alike.2 ∙ sym (ap (λ (l : ThreadList). l.width) c.clear.ensures.threads),
      (c.requires.1.1.1.1.1.0, c.requires.1.1.1.1.1.1),
    ),
  ),
)

pub finish-requires-clause-inside : goal.finish-requires-clause-inside
finish-requires-clause-inside g c = inside_by c.advance-end.ensures.stepped.sound

pub returns-in-Some-clause-carries : goal.returns-in-Some-clause-carries
returns-in-Some-clause-carries g c limit le free o x =
    let width : ℕ = c.args.scratch.now.next.threads.width in
    let found : c.copy_from_slice.new.self.items ≡ c.advance-end.new.growth.slots.items = c.copy_from_slice.ensures.items ∙ c.deref.ensures.value ∙ c.finish.ensures.slots in
    turned_ends limit (seen_from c.args.spot.now g.text) width c.args.spot.now.course.last c.args.spot.now.at c.args.scratch.now.curr.items
    c.advance-end.new.growth.threads.items c.advance-end.new.growth.entered.items c.args.best c.args.scratch.now.found.items
    c.copy_from_slice.new.self.items o c.is_none.result
    (record { pattern = c.in-Some.number; start = c.in-Some.start; end = c.args.spot.now.at })
    (none_from c.args.best c.is_none.result c.is_none.ensures)
    (λ best o y. subst (λ w. CarriesTo limit (seen_from c.args.spot.now g.text) c.args.spot.now.at [] []
    (map pending c.args.scratch.now.curr.items ++ waiting_starts c.is_none.result w c.args.spot.now.at c.args.spot.now.course.last) best o)
    (wide g (goal.at.returns-in-Some-clause-carries g c).After-clear)
    (c.in-Some.ensures.carries limit le free best o
    (subst (λ l. CarriesTo limit (seen_from c.args.spot.now g.text) c.args.spot.now.at c.advance-end.new.growth.threads.items
    c.advance-end.new.growth.entered.items [] (Some (done c.in-Some.number c.in-Some.start c.args.spot.now.at l)) o) found y)))
    (subst (λ (l : ThreadList). PendingTo limit (seen_from c.args.spot.now g.text) width c.args.spot.now.course.last (c.args.spot.now.at + 1) l.items
    (Some (record { pattern = c.in-Some.number; start = c.in-Some.start; end = c.args.spot.now.at })) c.copy_from_slice.new.self.items o)
    c.finish.ensures.threads x)

pub returns-clause-carries : goal.returns-clause-carries
returns-clause-carries g c limit le free o x =
    let width : ℕ = c.args.scratch.now.next.threads.width in
    turned_on limit (seen_from c.args.spot.now g.text) width c.args.spot.now.course.last c.args.spot.now.at c.args.scratch.now.curr.items
    c.advance-end.new.growth.threads.items c.advance-end.new.growth.entered.items c.args.best c.args.scratch.now.found.items o c.is_none.result
    (none_from c.args.best c.is_none.result c.is_none.ensures)
    (λ best o y. subst (λ w. CarriesTo limit (seen_from c.args.spot.now g.text) c.args.spot.now.at [] []
    (map pending c.args.scratch.now.curr.items ++ waiting_starts c.is_none.result w c.args.spot.now.at c.args.spot.now.course.last) best o)
    (wide g (goal.at.returns-clause-carries g c).After-clear)
    (c.in_default.ensures.carries limit le free best o
    (subst (λ w. CarriesTo limit (seen_from c.args.spot.now g.text) c.args.spot.now.at c.advance-end.new.growth.threads.items
    c.advance-end.new.growth.entered.items (waiting_starts c.is_none.result w (c.args.spot.now.at + 1) c.args.spot.now.course.last) best o)
    (sym (wide g (goal.at.returns-clause-carries g c).After-clear)) y)))
    (rw (c.finish.ensures.threads, c.finish.ensures.found) at x)

pub returns-in-Some-clause-lined : goal.returns-in-Some-clause-lined
returns-in-Some-clause-lined g c =
    lined_next c.args.scratch.now.next.threads c.requires.0.setting.bound c.finish.ensures.threads c.clear.ensures.threads c.args.scratch.now.alike c.requires.1.1.0 c.in-Some.ensures.stepped
    c.finish.ensures.some

pub returns-clause-lined : goal.returns-clause-lined
returns-clause-lined g c =
    lined_next c.args.scratch.now.next.threads c.requires.0.setting.bound c.finish.ensures.threads c.clear.ensures.threads c.args.scratch.now.alike c.requires.1.1.0 c.in_default.ensures.stepped
    c.finish.ensures.some

pub returns-in-Some-clause-counted : goal.returns-in-Some-clause-counted
returns-in-Some-clause-counted g c =
    let e = c.in-Some.ensures.ended in
    let f = e.1 (c.args.spot.now.at - c.args.scratch.now.insertions) (omega arith) c.requires.1.1.0.begun in
    omega (arith, e.0, f, c.finish.ensures.counted)
