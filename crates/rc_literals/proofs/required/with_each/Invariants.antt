use Rattle.std.proofs.Common.{◌≡◌, ◌∷◌, ◌++◌, drop, map}
use Rattle.rc_needles.specs.Tables.{needles_in}
use Rattle.rc_literals.proofs.required.with_each.Given as goal

abbrev pub invariant-loop-rest : goal.invariant-loop-rest
invariant-loop-rest l =
    map (λ w. l.byte ∷ w) (needles_in l.behind) ≡ needles_in l.list.items ++ map (λ w. l.byte ∷ w) (needles_in (drop l.rest-index l.behind))
