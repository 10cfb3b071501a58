use Rattle.std.proofs.Common.{◌≡◌, map, take}
use Rattle.rc_pattern.specs.Meaning.{meaning}
use Rattle.rc_pattern.specs.WellFormed.{group_names}
use Rattle.rc_captures.specs.Names.{names_in}
use Rattle.rc_build.proofs.compile.all_names.Given as goal

abbrev pub invariant-loop-hir : goal.invariant-loop-hir
invariant-loop-hir l = names_in l.names.items ≡ map group_names (map meaning (take l.hir-index l.hirs))
