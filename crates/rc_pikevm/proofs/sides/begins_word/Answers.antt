use Rattle.std.proofs.Common.{sym, ◌∙◌}
use Rattle.rc_program.specs.Looks.{side_after}
use Rattle.rc_pikevm.proofs.PlainLemmas.{plain_word, plain_whole}
use Rattle.rc_pikevm.proofs.sides.begins_word.Goals as goal

pub returns-clause-word : goal.returns-clause-word
returns-clause-word c = c.is_word_after.ensures ∙ sym (plain_word (side_after c.args.after.now) c.requires)

pub returns-clause-whole : goal.returns-clause-whole
returns-clause-whole c = plain_whole (side_after c.args.after.now) c.requires
