use Rattle.rc_pattern.proofs.DropLemmas.{left_falls}
use Rattle.rc_pattern.proofs.drops.drop_all.Goals as goal

pub loop-left-smaller : goal.loop-left-smaller
loop-left-smaller c = left_falls c.drop_node-left.result c.loop-left.left c.in-Some.node c.in-Some.waiting c.in-Some.is c.drop_node-left.ensures
