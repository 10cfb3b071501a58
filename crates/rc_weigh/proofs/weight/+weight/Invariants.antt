use Rattle.std.proofs.Common.{◌≡◌, ◌≤◌, ◌+◌, ◌^◌, min, map, drop}
use Rattle.rc_pattern.specs.Meaning.{meaning, cat_all, alt_all}
use Rattle.rc_pattern.specs.WellFormed.{HasBounds}
use Rattle.rc_weigh.specs.Weight.{laid_weight}
use Rattle.rc_weigh.proofs.weight.+weight.Given as goal

abbrev pub invariant-concat_weight-loop-sub : goal.invariant-concat_weight-loop-sub
invariant-concat_weight-loop-sub l =
    (l.total ≤ 2 ^ 64) × HasBounds (cat_all (map meaning (drop l.sub-index l.subs)))
    × (min (l.total + laid_weight (cat_all (map meaning (drop l.sub-index l.subs)))) (2 ^ 64) ≡ min (laid_weight (cat_all (map meaning l.subs))) (2 ^ 64))

abbrev pub invariant-alternation_weight-loop-sub : goal.invariant-alternation_weight-loop-sub
invariant-alternation_weight-loop-sub l =
    (l.total ≤ 2 ^ 64) × HasBounds (alt_all (map meaning (drop l.sub-index l.subs)))
    × (min (l.total + laid_weight (alt_all (map meaning (drop l.sub-index l.subs)))) (2 ^ 64) ≡ min (laid_weight (alt_all (map meaning l.subs))) (2 ^ 64))
