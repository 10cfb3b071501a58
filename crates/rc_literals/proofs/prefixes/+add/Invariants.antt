use Rattle.rc_pattern.specs.Meaning.{meaning}
use Rattle.rc_literals.specs.Extraction.{first_bytes, greatest_count}
use Rattle.rc_needles.specs.Tables.{needles_in}
use Rattle.rc_literals.proofs.ExtractionLemmas.{IsLeft}
use Rattle.rc_literals.proofs.prefixes.+add.Given as goal

abbrev pub invariant-add_alternation-loop-sub : goal.invariant-add_alternation-loop-sub
invariant-add_alternation-loop-sub l =
    IsLeft greatest_count (λ h. first_bytes (meaning h)) (needles_in l.initial.list.items) (needles_in l.list.items) l.subs l.sub-index
