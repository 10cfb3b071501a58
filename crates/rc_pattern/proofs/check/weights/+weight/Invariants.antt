use Rattle.std.proofs.Common.{◌≡◌, ◌≤◌, ◌+◌, ◌^◌, min, map, drop}
use Rattle.rc_pattern.specs.Meaning.{meaning, cat_all, alt_all}
use Rattle.rc_pattern.specs.Weight.{weight}
use Rattle.rc_pattern.proofs.check.weights.+weight.Given as goal

abbrev pub invariant-concat_weight-loop-sub : goal.invariant-concat_weight-loop-sub
invariant-concat_weight-loop-sub l =
    (l.total ≤ 2 ^ 64)
    × (min (l.total + weight (cat_all (map meaning (drop l.sub-index l.subs)))) (2 ^ 64) ≡ min (weight (cat_all (map meaning l.subs))) (2 ^ 64))

abbrev pub invariant-alternation_weight-loop-sub : goal.invariant-alternation_weight-loop-sub
invariant-alternation_weight-loop-sub l =
    (l.total ≤ 2 ^ 64)
    × (min (l.total + weight (alt_all (map meaning (drop l.sub-index l.subs)))) (2 ^ 64) ≡ min (weight (alt_all (map meaning l.subs))) (2 ^ 64))
