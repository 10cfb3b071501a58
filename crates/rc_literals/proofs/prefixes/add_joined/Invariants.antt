use Rattle.std.proofs.Common.{◌≡◌, ◌++◌, drop, map}
use Rattle.rc_needles.specs.Tables.{needles_in}
use Rattle.rc_literals.proofs.prefixes.add_joined.Given as goal

abbrev pub invariant-loop-rest : goal.invariant-loop-rest
invariant-loop-rest l =
    needles_in l.initial.list.items ++ map (λ v. l.needle ++ v) (needles_in l.behind)
    ≡ needles_in l.list.items ++ map (λ v. l.needle ++ v) (needles_in (drop l.rest-index l.behind))
