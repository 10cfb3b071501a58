use Rattle.rc_pattern.specs.Meaning.{meaning}
use Rattle.rc_literals.specs.Extraction.{greatest_whole, spelled_bytes}
use Rattle.rc_needles.specs.Tables.{needles_in}
use Rattle.rc_literals.proofs.ExtractionLemmas.{IsLeft}
use Rattle.rc_literals.proofs.prefixes.+add_whole.Given as goal

abbrev pub invariant-add_whole_alternation-loop-sub : goal.invariant-add_whole_alternation-loop-sub
invariant-add_whole_alternation-loop-sub l =
    IsLeft greatest_whole (λ h. spelled_bytes (meaning h)) (needles_in l.initial.list.items) (needles_in l.list.items) l.subs l.sub-index
