use Rattle.std.proofs.Common.{◌≡◌, drop}
use Rattle.rc_needles.specs.Tables.{needles_in}
use Rattle.rc_literals.specs.Required.{shortest}
use Rattle.rc_literals.proofs.required.shortest.Given as goal

abbrev pub invariant-loop-i : goal.invariant-loop-i
invariant-loop-i l = l.least ≡ shortest (needles_in (drop l.i l.needles))
