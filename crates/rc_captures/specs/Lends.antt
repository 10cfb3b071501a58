-- What captures end as once their slots were lent.
use Rattle.std.specs.Prelude.{ℕ, List, Option}
use Rattle.std.specs.Borrow.{Lends, MutBor, Fml, Array, u64}
use Rattle.std.specs.Vec.{with_items}
use Rattle.std.specs.contracts.option.Option.{the_row as option_row}
use Rattle.rc_captures.specs.declared.captures.Captures.{Captures}
use Rattle.rc_captures.specs.contracts.captures.Captures.{the_row}

-- the captures with these slots
abbrev pub with_slots : Captures → List (Option ℕ) → Captures
with_slots c kept = record c { slots = with_items c.slots kept }

-- the captures end with the last slots behind r
abbrev pub LendsSlots : MutBor Captures → MutBor (List (Option ℕ)) → Fml
LendsSlots c r = Lends the_row (Array (option_row u64) 0) c r (with_slots c.now)
