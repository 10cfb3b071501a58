use Rattle.std.proofs.Common.{ℕ, ◌<◌, get_or}
use Rattle.rc_determinize.specs.Steps.{HasPlace}
use Rattle.rc_determinize.proofs.backward.first_root.Given as goal

abbrev pub invariant-loop-i : goal.invariant-loop-i
invariant-loop-i l = (k : ℕ) → k < l.i → ¬ HasPlace (get_or l.roots k 0) l.set.items
