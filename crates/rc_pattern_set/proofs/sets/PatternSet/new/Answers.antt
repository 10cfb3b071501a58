use Rattle.std.proofs.Common.{sym}
use Rattle.rc_pattern_set.proofs.SetLemmas.{no_members, none_in}
use Rattle.rc_pattern_set.proofs.sets.PatternSet.new.Goals as goal

pub invariant_of-result : goal.invariant_of-result
invariant_of-result c =
    rw (c.in_ok-marks.ensures.items_if_clones_equal (λ y e. e))
    (sym (no_members 0 c.args.capacity), λ p h. absurd (none_in c.args.capacity p h))
