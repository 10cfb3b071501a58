use Rattle.std.proofs.Common.{◌≡◌, ◌+◌, map, drop}
use Rattle.rc_pattern.specs.Meaning.{meaning}
use Rattle.api_meta.specs.Counts.{agreed, static_groups}
use Rattle.api_meta.proofs.counts.static_groups.Given as goal

abbrev pub invariant-loop-hir : goal.invariant-loop-hir
invariant-loop-hir l = static_groups (map meaning l.hirs) ≡ agreed l.groups (map meaning (drop (l.hir-index + 1) l.hirs))
