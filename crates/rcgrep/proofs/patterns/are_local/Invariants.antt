use Rattle.std.proofs.Common.{take}
use Rattle.std.specs.Prelude.{All}
use Rattle.rcgrep.proofs.LocalLemmas.{MeansLocal}
use Rattle.rcgrep.proofs.patterns.are_local.Given as goal

abbrev pub invariant-loop-hir : goal.invariant-loop-hir
invariant-loop-hir l = All MeansLocal (take l.hir-index l.hirs)
