use Rattle.std.proofs.Common.{◌≡◌, ◌≤◌, ◌^◌, ◌-◌, drop, max, min}
use Rattle.rc_program.specs.Columns.{widest}
use Rattle.rc_program.proofs.columns.widest.Given as goal

abbrev pub invariant-loop-range : goal.invariant-loop-range
invariant-loop-range l = record {
  same : min (widest l.ranges) (2 ^ 64 - 1) ≡ min (max l.most (widest (drop l.range-index l.ranges))) (2 ^ 64 - 1);
  small : l.most ≤ 2 ^ 64 - 1;
}
