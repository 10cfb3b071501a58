use Rattle.std.proofs.Common.{sym, ◌∙◌}
use Rattle.rc_pattern.proofs.DropLemmas.{steps_Concat, steps_Alternation, last_left, repetition_left, capture_left}
use Rattle.rc_pattern.proofs.drops.drop_node.Goals as goal

pub returns-in-Empty : goal.returns-in-Empty
returns-in-Empty c = last_left c.args.waiting c.args.node c.last_of.result c.last_of.ensures

pub returns-in-Repetition : goal.returns-in-Repetition
returns-in-Repetition c =
    repetition_left c.args.node c.into_inner.result c.in-Repetition.repetition c.args.waiting (sym c.into_kind.ensures ∙ c.in-Repetition.is) c.into_inner.ensures

pub returns-in-Capture : goal.returns-in-Capture
returns-in-Capture c =
    capture_left c.args.node c.into_inner-in-Capture.result c.in-Capture.capture c.args.waiting (sym c.into_kind.ensures ∙ c.in-Capture.is)
    c.into_inner-in-Capture.ensures

pub returns-in-Concat : goal.returns-in-Concat
returns-in-Concat c =
    c.enter.ensures c.args.node (steps_Concat c.args.node c.in-Concat.subs (sym c.into_kind.ensures ∙ c.in-Concat.is))

pub returns : goal.returns
returns c =
    c.enter-in-Alternation.ensures c.args.node (steps_Alternation c.args.node c.in-Alternation.subs (sym c.into_kind.ensures ∙ c.in-Alternation.is))
