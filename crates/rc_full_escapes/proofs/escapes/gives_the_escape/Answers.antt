use Rattle.rc_full_escapes.proofs.EscapeLemmas.{all_sound, all_again}
use Rattle.rc_full_escapes.proofs.escapes.gives_the_escape.Goals as goal

pub returns : goal.returns
returns c = λ octal t e u. (all_sound octal t e u, all_again octal t e u)
