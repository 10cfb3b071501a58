use Rattle.std.proofs.Common.{◌≡◌, ◌≤◌, ◌+◌, ◌^◌, min, map, drop}
use Rattle.rc_pattern.specs.Meaning.{meaning}
use Rattle.rc_pattern.specs.Weight.{sum_of_weights, list_weight}
use Rattle.rc_pattern.proofs.check.weights.capped_list_weight.Given as goal

abbrev pub invariant-loop-hir : goal.invariant-loop-hir
invariant-loop-hir l =
    (l.total ≤ 2 ^ 64) × (min (l.total + sum_of_weights (map meaning (drop l.hir-index l.hirs))) (2 ^ 64) ≡ min (list_weight (map meaning l.hirs)) (2 ^ 64))
