use Rattle.std.proofs.Common.{◌<◌, ap, arith, length}
use Rattle.rc_program.specs.Columns.{IsAmong, range_of}
use Rattle.rc_program.specs.Places.{places_of}
use Rattle.rc_program.specs.declared.columns.SlotRange.{SlotRange}
use Rattle.rc_program.proofs.ColumnLemmas.{within_row}
use Rattle.rc_pikevm.proofs.search.put_groups.Goals as goal

pub bounds-row-slot : goal.bounds-row-slot
bounds-row-slot c =
    let places = places_of c.args.program.now.places.items in
    let r = range_of places c.args.pattern in
    let first = ap (λ (r : SlotRange). r.first) c.slots_of-range.ensures in
    let last = ap (λ (r : SlotRange). r.last) c.slots_of-range.ensures in
    let below = c.loop-slot-test.true in
    let end = c.past_last-end.ensures in
    let from = c.loop-slot.invariant.from in
    let among : IsAmong r c.loop-slot.slot = (omega (arith, first, from), omega (arith, last, below, end)) in
    let small : c.loop-slot.slot < length c.args.slots.now = omega (arith, below, end, c.fill.ensures.len) in
    let i = within_row places c.args.pattern c.loop-slot.slot (length c.args.slots.now) among small in
    omega (arith, i, first, c.requires)
