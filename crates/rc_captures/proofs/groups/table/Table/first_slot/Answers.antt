use Rattle.std.proofs.Common.{◌≡◌, ◌≢◌, ℕ, ◌+◌, ◌-◌, ◌*◌, ◌<◌, get_or, arith}
use Rattle.rc_captures.specs.Names.{names_in, group_len, first_slot, slot_len}
use Rattle.rc_captures.specs.declared.groups.table.Table.{Table}
use Rattle.rc_captures.proofs.Slots.{first_slot_below, slot_by_start}
use Rattle.rc_captures.proofs.groups.table.Table.first_slot.Goals as goal

-- the slot of an explicit group, where k is what was read of `starts`
slot_is : (t : Table) (p g k : ℕ) → g < group_len (names_in t.names.items) p → g ≢ 0 → k ≡ get_or t.starts.items p k → (k + 2 * (g - 1) ≡ first_slot (names_in t.names.items) p g) × (first_slot (names_in t.names.items) p g + 1 < slot_len (names_in t.names.items)) × (slot_len (names_in t.names.items) ≡ t.end)
slot_is t p g k within positive read =
    let h = slot_by_start (names_in t.names.items) p g k t.starts.items within positive t.started read in
    (h.0, h.1, omega (arith, t.counted))

pub returns-then-group-eq0-clause-below : goal.returns-then-group-eq0-clause-below
returns-then-group-eq0-clause-below c = first_slot_below (names_in c.args.self.now.names.items) c.args.pattern 0 (omega arith)

pub overflow_mul-result-else-group-eq0 : goal.overflow_mul-result-else-group-eq0
overflow_mul-result-else-group-eq0 c =
    let t = c.args.self.now in
    omega (arith, t.small, slot_is t c.args.pattern c.args.group c.index.result.now c.requires c.if-group-eq0.false c.index.ensures)

pub overflow_add-result : goal.overflow_add-result
overflow_add-result c =
    let t = c.args.self.now in
    omega (arith, t.small, slot_is t c.args.pattern c.args.group c.index.result.now c.requires c.if-group-eq0.false c.index.ensures)

pub returns-else-group-eq0-clause-value : goal.returns-else-group-eq0-clause-value
returns-else-group-eq0-clause-value c =
    let h = slot_is c.args.self.now c.args.pattern c.args.group c.index.result.now c.requires c.if-group-eq0.false c.index.ensures in
    h.0

pub returns-else-group-eq0-clause-below : goal.returns-else-group-eq0-clause-below
returns-else-group-eq0-clause-below c =
    omega (arith, slot_is c.args.self.now c.args.pattern c.args.group c.index.result.now c.requires c.if-group-eq0.false c.index.ensures)
