use Rattle.rc_pikevm.proofs.alone.run_fast_path.Given as goal

abbrev pub ghost-begin : goal.ghost-begin
ghost-begin g a = g.text

abbrev pub ghost-go_alone : goal.ghost-go_alone
ghost-go_alone g a = g.text
