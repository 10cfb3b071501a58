use Rattle.std.proofs.Common.{◌∷◌, [], Some}
use Rattle.rc_literals.specs.Extraction.{greatest_count}
use Rattle.rc_needles.specs.Tables.{needles_in}
use Rattle.rc_literals.proofs.ExtractionLemmas.{IsLeft}
use Rattle.rc_literals.proofs.prefixes.add_needles.Given as goal

abbrev pub invariant-loop-needle : goal.invariant-loop-needle
invariant-loop-needle l =
    IsLeft greatest_count (λ v. Some (v.items ∷ [])) (needles_in l.initial.list.items) (needles_in l.list.items) l.needles l.needle-index
