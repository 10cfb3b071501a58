use Rattle.std.proofs.Common.{sym, ◌∙◌}
use Rattle.rc_program.proofs.WordLemmas.{is_word_scalar-ascii}
use Rattle.rc_program.proofs.look.is_word_char.Goals as goal

pub returns-then-code-lt128 : goal.returns-then-code-lt128
returns-then-code-lt128 c = c.is_word_byte.ensures ∙ sym (is_word_scalar-ascii c.args.c c.if-code-lt128.true)
