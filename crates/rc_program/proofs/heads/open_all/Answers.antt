use Rattle.std.proofs.Common.{◌≡◌, subst, arith, length}
use Rattle.rc_program.specs.Closing.{AreOpened}
use Rattle.rc_program.specs.Heads.{flags_in}
use Rattle.rc_program.specs.Places.{places_of}
use Rattle.rc_program.proofs.ClosingLemmas.{opened_begins, opened_more, opened_all}
use Rattle.rc_program.proofs.heads.open_all.Goals as goal

pub loop-next-init : goal.loop-next-init
loop-next-init c =
    opened_begins (places_of c.args.places.now) (flags_in c.args.tables.now) c.args.place c.clear.new.self.items c.open.new.opened.items c.clear.ensures.items c.in_ok-open.ensures

pub returns-then-next-len : goal.returns-then-next-len
returns-then-next-len c = λ _.
    let same : c.loop-next.next ≡ length c.loop-next.opened.items = omega arith in
    opened_all (places_of c.args.places.now) (flags_in c.args.tables.now) c.args.place c.loop-next.opened.items
    (subst (λ n. AreOpened (places_of c.args.places.now) (flags_in c.args.tables.now) c.args.place n c.loop-next.opened.items) same c.loop-next.invariant)

pub loop-next-preserved : goal.loop-next-preserved
loop-next-preserved c =
    opened_more (places_of c.args.places.now) (flags_in c.args.tables.now) c.args.place c.loop-next.next c.index-from.result.now c.loop-next.opened.items c.open_past.new.opened.items
    c.loop-next.invariant (omega (arith, c.if-next-len.false)) c.index-from.ensures c.in_ok-open_past.ensures
