use Rattle.std.proofs.Common.{◌≡◌, ◌++◌, map, drop, option_map}
use Rattle.rc_pattern.specs.Meaning.{alt_all, meaning}
use Rattle.rc_literals.specs.Literals.{member_literals}
use Rattle.rc_needles.specs.Tables.{needles_in}
use Rattle.rc_literals.proofs.exact.members.Given as goal

abbrev pub invariant-loop-sub : goal.invariant-loop-sub
invariant-loop-sub l =
    member_literals (alt_all (map meaning l.subs.items))
    ≡ option_map (λ ws. needles_in l.literals.items ++ ws) (member_literals (alt_all (map meaning (drop l.sub-index l.subs.items))))
