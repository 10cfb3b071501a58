use Rattle.rc_pikevm.proofs.alone.may_set_out.Given as goal

abbrev pub ghost-leads_nowhere : goal.ghost-leads_nowhere
ghost-leads_nowhere g a = g.text

abbrev pub ghost-is_shut : goal.ghost-is_shut
ghost-is_shut g a = g.text
