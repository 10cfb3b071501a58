use Rattle.rc_full_tokens.proofs.CountLemmas.{count_sound, count_again}
use Rattle.rc_full_tokens.proofs.counts.gives_the_count.Goals as goal

pub returns : goal.returns
returns c = λ e t n max u. (count_sound e t n max u, count_again e t n max u)
