use Rattle.std.proofs.Common.{◌≡◌, ◌++◌, drop}
use Rattle.unicode.specs.CaseFolding.{fold_pairs}
use Rattle.rc_tokens.specs.ClassView.{pairs}
use Rattle.rc_class_sets.specs.Others.{with_others}
use Rattle.rc_class_sets.proofs.folding.with_others.Given as goal

abbrev pub invariant-loop-i : goal.invariant-loop-i
invariant-loop-i l = with_others fold_pairs (pairs l.ranges) ≡ pairs l.all.items ++ with_others fold_pairs (pairs (drop l.i l.ranges))
