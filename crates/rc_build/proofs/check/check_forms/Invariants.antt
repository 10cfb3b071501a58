use Rattle.std.proofs.Common.{take}
use Rattle.std.specs.Prelude.{All}
use Rattle.rc_build.proofs.CheckLemmas.{MeansWellFormed}
use Rattle.rc_build.proofs.check.check_forms.Given as goal

abbrev pub invariant-loop-i : goal.invariant-loop-i
invariant-loop-i l = All MeansWellFormed (take l.i l.hirs)
