use Rattle.std.proofs.Common.{take}
use Rattle.std.specs.Prelude.{All}
use Rattle.rc_build.proofs.CheckLemmas.{MeansWellFormed}
use Rattle.rc_build.proofs.weighing.are_well_formed.Given as goal

abbrev pub invariant-loop-hir : goal.invariant-loop-hir
invariant-loop-hir l = All MeansWellFormed (take l.hir-index l.hirs)
