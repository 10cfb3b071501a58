use Rattle.rc_pikevm.proofs.closure.act.Given as goal

abbrev pub ghost-after_byte : goal.ghost-after_byte
ghost-after_byte g a = g.text

abbrev pub ghost-after_one_of : goal.ghost-after_one_of
ghost-after_one_of g a = g.text

abbrev pub ghost-after_scalar : goal.ghost-after_scalar
ghost-after_scalar g a = g.text

abbrev pub ghost-is_open : goal.ghost-is_open
ghost-is_open g a = g.text

abbrev pub ghost-may_end : goal.ghost-may_end
ghost-may_end g a = g.text

abbrev pub ghost-is_dead : goal.ghost-is_dead
ghost-is_dead g a = g.text
