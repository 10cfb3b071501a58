use Rattle.rc_class_sets.proofs.FoldLemmas.{fold_order_law}
use Rattle.rc_class_sets.proofs.folding.folds_in_any_order.Goals as goal

pub returns : goal.returns
returns c = fold_order_law
