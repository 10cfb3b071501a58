use Rattle.rc_pattern.proofs.DropLemmas.{all_left}
use Rattle.rc_pattern.proofs.drops.drop_all.Given as goal

abbrev pub decreases-loop-left : goal.decreases-loop-left
decreases-loop-left l = all_left l.left
