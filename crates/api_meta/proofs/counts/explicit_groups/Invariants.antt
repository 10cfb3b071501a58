use Rattle.std.proofs.Common.{◌≡◌, ◌+◌, map, drop}
use Rattle.rc_pattern.specs.Meaning.{meaning}
use Rattle.rc_program.specs.Laws.{all_groups}
use Rattle.api_meta.proofs.counts.explicit_groups.Given as goal

abbrev pub invariant-loop-hir : goal.invariant-loop-hir
invariant-loop-hir l = l.total + all_groups (map meaning (drop l.hir-index l.hirs)) ≡ all_groups (map meaning l.hirs)
