use Rattle.std.proofs.Common.{◌≡◌, ◌-◌, ◌++◌}
use Rattle.rc_literals.specs.Required.{copies_of}
use Rattle.rc_literals.proofs.required.copies_of.Given as goal

abbrev pub invariant-loop : goal.invariant-loop
invariant-loop l = l.copies.items ++ copies_of (l.count - l.counter) l.bytes ≡ copies_of l.count l.bytes
