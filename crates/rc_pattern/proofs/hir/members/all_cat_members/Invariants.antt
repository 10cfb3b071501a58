use Rattle.std.proofs.Common.{◌≡◌, map, IsTrue}
use Rattle.std.specs.List.{flat_map}
use Rattle.rc_pattern.specs.Meaning.{meaning, cat_members}
use Rattle.rc_pattern.specs.Kinds.{all_have_plain_nodes}
use Rattle.rc_pattern.proofs.hir.members.all_cat_members.Given as goal

abbrev pub invariant-loop-sub : goal.invariant-loop-sub
invariant-loop-sub l = (map meaning l.members.items ≡ flat_map cat_members (map meaning l.yielded))
    × (IsTrue (all_have_plain_nodes l.yielded) → IsTrue (all_have_plain_nodes l.members.items))
