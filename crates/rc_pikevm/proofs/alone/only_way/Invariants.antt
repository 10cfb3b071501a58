use Rattle.rc_pikevm.proofs.alone.only_way.Given as goal

abbrev pub ghost-leads_nowhere : goal.ghost-leads_nowhere
ghost-leads_nowhere g a = g.text

abbrev pub ghost-is_closed : goal.ghost-is_closed
ghost-is_closed g a = g.text

abbrev pub ghost-is_dead : goal.ghost-is_dead
ghost-is_dead g a = g.text
