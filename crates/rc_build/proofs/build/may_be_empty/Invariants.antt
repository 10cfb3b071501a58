use Rattle.std.proofs.Common.{◌≡◌, map, drop}
use Rattle.rc_pattern.specs.Meaning.{meaning}
use Rattle.rc_program.specs.Sought.{may_be_empty}
use Rattle.rc_build.proofs.build.may_be_empty.Given as goal

abbrev pub invariant-loop-hir : goal.invariant-loop-hir
invariant-loop-hir l = may_be_empty (map meaning l.hirs) ≡ may_be_empty (map meaning (drop l.hir-index l.hirs))
