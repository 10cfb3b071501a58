use Rattle.rc_class_sets.proofs.RangeLemmas.{ranges_law}
use Rattle.rc_class_sets.proofs.sets.ranges_are_one.Goals as goal

pub returns : goal.returns
returns c = ranges_law
