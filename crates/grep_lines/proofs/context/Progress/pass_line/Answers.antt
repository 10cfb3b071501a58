use Rattle.std.proofs.Common.{◌∙◌}
use Rattle.grep_lines.proofs.PassLemmas.{none_kept, passes_context, passes_other, passes_selected}
use Rattle.grep_lines.proofs.context.Progress.pass_line.Goals as goal

pub returns-then-is_selected-clause-passed : goal.returns-then-is_selected-clause-passed
returns-then-is_selected-clause-passed c = λ line is.
    passes_selected c.args.extent c.args.self.now (none_kept c.args.extent c.args.self.now c.requires.sound c.requires.none_before) line c.from.result (c.from.ensures ∙ is)
    c.args.is_selected c.if-is_selected.true

pub returns-then-self-gt0-clause-passed : goal.returns-then-self-gt0-clause-passed
returns-then-self-gt0-clause-passed c = λ line is.
    passes_context c.args.extent c.args.self.now (none_kept c.args.extent c.args.self.now c.requires.sound c.requires.none_before) line c.from.result (c.from.ensures ∙ is)
    c.args.is_selected c.if-is_selected.false c.if-self-gt0.true

pub returns-else-self-gt0-clause-passed : goal.returns-else-self-gt0-clause-passed
returns-else-self-gt0-clause-passed c = λ line is.
    passes_other c.args.extent c.args.self.now (none_kept c.args.extent c.args.self.now c.requires.sound c.requires.none_before) line c.from.result (c.from.ensures ∙ is)
    c.args.is_selected c.if-is_selected.false c.if-self-gt0.false c.requires.none_before
