use Rattle.rc_class_sets.proofs.FoldLemmas.{fold_law}
use Rattle.rc_class_sets.proofs.folding.folds_by_simple_folding.Goals as goal

pub returns : goal.returns
returns c = fold_law
