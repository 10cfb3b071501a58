use Rattle.rc_full_lists.proofs.PartLemmas.{part_sound, part_again}
use Rattle.rc_full_lists.proofs.parts.gives_the_part.Goals as goal

pub returns : goal.returns
returns c = λ s t p u. (part_sound s t p u, part_again s t p u)
