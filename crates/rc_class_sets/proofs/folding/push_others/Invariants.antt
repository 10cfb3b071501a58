use Rattle.std.proofs.Common.{◌≡◌, ◌++◌, drop}
use Rattle.unicode.specs.CaseFolding.{fold_pairs}
use Rattle.rc_tokens.specs.ClassView.{pair, pairs}
use Rattle.rc_class_sets.specs.Others.{others}
use Rattle.rc_class_sets.proofs.folding.push_others.Given as goal

abbrev pub invariant-loop-i : goal.invariant-loop-i
invariant-loop-i l = pairs l.fn.ranges.items ++ others (pair l.range) fold_pairs ≡ pairs l.ranges.items ++ others (pair l.range) (drop l.i fold_pairs)
