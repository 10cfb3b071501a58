use Rattle.std.proofs.Common.{◌≤◌, ◌+◌, ◌-◌, ◌*◌, [], drop, length, vec_len}
use Rattle.rc_utf8.specs.Bytes.{tree_of}
use Rattle.rc_utf8.specs.Places.{Lays, all_left_at, sequences_of}
use Rattle.rc_utf8.proofs.program.tree.+tree.Given as goal

abbrev pub decreases-add_group : goal.decreases-add_group
decreases-add_group l = 2 * (4 - l.level)

abbrev pub decreases-add_tree : goal.decreases-add_tree
decreases-add_tree l = 2 * (4 - l.level) + 1

abbrev pub invariant-add_tree-loop-at : goal.invariant-add_tree-loop-at
invariant-add_tree-loop-at l = record {
  inside : l.at ≤ length l.sequences;
  laid : Lays l.exits.count l.exits.tail l.exits.next
      (tree_of (all_left_at l.level (sequences_of l.sequences))) (tree_of (all_left_at l.level (sequences_of (drop l.at l.sequences))))
      (l.first + vec_len l.initial.blocks) (l.first + vec_len l.blocks) [] l.ways.items l.initial.blocks.items l.blocks.items;
}

abbrev pub decreases-add_tree-loop-at : goal.decreases-add_tree-loop-at
decreases-add_tree-loop-at l = length l.sequences - l.at
