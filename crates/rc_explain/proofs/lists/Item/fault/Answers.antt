use Rattle.rc_explain.proofs.lists.Item.fault.Goals as goal

pub returns : goal.returns
returns c = λ text at item cls. c.range_fault.ensures text (c.in_ok-hyphen.ensures.line text at item)
