use Rattle.std.proofs.Common.{◌≡◌, ◌++◌, replicate}
use Rattle.rc_literals.proofs.exact.add_literals.Given as goal

abbrev pub invariant-loop : goal.invariant-loop
invariant-loop l = record {
  needles : l.list.needles.items ≡ l.fn.list.needles.items;
  literals : l.literals.items ≡ l.fn.literals.items;
  owners : l.list.owners.items ≡ l.fn.list.owners.items ++ replicate l.counter l.pattern;
}
