use Rattle.std.proofs.Common.{◌≡◌, map, drop}
use Rattle.rc_pattern.specs.Meaning.{meaning}
use Rattle.rc_literals.specs.Exact.{literals_in}
use Rattle.rc_literals.specs.Literals.{owned_from}
use Rattle.rc_literals.proofs.CollectLemmas.{behind}
use Rattle.rc_literals.proofs.exact.literals_of_each.Given as goal

abbrev pub invariant-loop-i : goal.invariant-loop-i
invariant-loop-i l = owned_from 0 (map meaning l.hirs) ≡ behind (literals_in l.list) (owned_from l.i (map meaning (drop l.i l.hirs)))
