use Rattle.std.proofs.Common.{◌≡◌, map, take, []}
use Rattle.rc_pattern.specs.Meaning.{meaning}
use Rattle.rc_captures.specs.Names.{names_in}
use Rattle.rc_build.proofs.compile.no_names.Given as goal

abbrev pub invariant-loop-hir : goal.invariant-loop-hir
invariant-loop-hir l = names_in l.names.items ≡ map (λ _. []) (map meaning (take l._hir-index l.hirs))
