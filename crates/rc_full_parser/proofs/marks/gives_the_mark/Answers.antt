use Rattle.rc_full_parser.proofs.MarkLemmas.{mark_sound, mark_again}
use Rattle.rc_full_parser.proofs.marks.gives_the_mark.Goals as goal

pub returns : goal.returns
returns c = λ s t k u. (mark_sound s t k u, mark_again s t k u)
