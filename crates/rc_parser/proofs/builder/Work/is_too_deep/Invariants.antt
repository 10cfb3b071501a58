use Rattle.std.proofs.Common.{◌≡◌, ◌≤◌, ◌<◌, ◌^◌, length, map, reverse, take}
use Rattle.rc_parser.specs.Nesting.{closed_depth, least_depth}
use Rattle.rc_parser.specs.View.{outside, state}
use Rattle.rc_parser.proofs.builder.Work.is_too_deep.Given as goal

abbrev pub invariant-loop-left : goal.invariant-loop-left
invariant-loop-left l = record {
  within : l.left ≤ length l.self.outer.items;
  least : closed_depth l.depth (map outside (reverse (take l.left l.self.outer.items))) ≡ least_depth (state l.self);
  bound : l.depth < 2 ^ 34;
}

abbrev pub decreases-loop-left : goal.decreases-loop-left
decreases-loop-left l = l.left
