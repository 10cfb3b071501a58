use Rattle.std.proofs.Common.{◌≡◌, map, IsTrue}
use Rattle.rc_pattern.specs.Meaning.{meaning, joined}
use Rattle.rc_pattern.specs.Kinds.{all_have_plain_nodes}
use Rattle.rc_pattern.proofs.hir.members.joined_literals.Given as goal

abbrev pub invariant-loop-member : goal.invariant-loop-member
invariant-loop-member l = (map meaning l.all.items ≡ joined (map meaning l.yielded))
    × (IsTrue (all_have_plain_nodes l.yielded) → IsTrue (all_have_plain_nodes l.all.items))
