use Rattle.std.proofs.Common.{◌≤◌, ◌+◌, max, map, drop}
use Rattle.rc_pattern.specs.Meaning.{meaning, cat_all}
use Rattle.rc_pattern.specs.WellFormed.{depth}
use Rattle.rc_pattern.proofs.check.depths.+depth.Given as goal

abbrev pub invariant-depths_within-loop-sub : goal.invariant-depths_within-loop-sub
invariant-depths_within-loop-sub l =
    let all = depth (cat_all (map meaning l.subs)) in let left = depth (cat_all (map meaning (drop l.sub-index l.subs))) in
    (left ≤ all) × (all ≤ max (l.most + 1) left)
