use Rattle.rc_tokens.proofs.SoundLemmas.{lex_sound}
use Rattle.rc_tokens.proofs.AgainLemmas.{lex_again}
use Rattle.rc_tokens.proofs.lexer.gives_the_mark.Goals as goal

pub returns : goal.returns
returns c = λ t k u. (lex_sound t k u, lex_again t k u)
