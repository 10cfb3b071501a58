use Rattle.std.proofs.Common.{sym, ◌∙◌}
use Rattle.rc_program.specs.Looks.{side_before}
use Rattle.rc_pikevm.proofs.PlainLemmas.{plain_word, plain_whole}
use Rattle.rc_pikevm.proofs.sides.ends_word.Goals as goal

pub returns-clause-word : goal.returns-clause-word
returns-clause-word c = c.is_word_before.ensures ∙ sym (plain_word (side_before c.args.before.now) c.requires)

pub returns-clause-whole : goal.returns-clause-whole
returns-clause-whole c = plain_whole (side_before c.args.before.now) c.requires
