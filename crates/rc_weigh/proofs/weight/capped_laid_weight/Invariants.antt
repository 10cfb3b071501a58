use Rattle.std.proofs.Common.{◌≡◌, ◌≤◌, ◌+◌, ◌^◌, min, map, drop}
use Rattle.rc_pattern.specs.Meaning.{meaning}
use Rattle.rc_weigh.specs.Weight.{sum_of_laid, laid_list_weight}
use Rattle.rc_weigh.proofs.weight.capped_laid_weight.Given as goal

abbrev pub invariant-loop-hir : goal.invariant-loop-hir
invariant-loop-hir l =
    (l.total ≤ 2 ^ 64) × (min (l.total + sum_of_laid (map meaning (drop l.hir-index l.hirs))) (2 ^ 64) ≡ min (laid_list_weight (map meaning l.hirs)) (2 ^ 64))
