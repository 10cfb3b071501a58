use Rattle.std.proofs.Common.{length, ◌-◌}
use Rattle.rc_determinize.proofs.BackLemmas.{IsTurn}
use Rattle.rc_determinize.proofs.backward.go_back.Given as goal

abbrev pub invariant-places : goal.invariant-places
invariant-places l = IsTurn l.reversed l.behind l.ahead l.before l.initial.entered.items l.entered l.listed l.index

abbrev pub decreases-places : goal.decreases-places
decreases-places l = length l.reversed.into.items - l.index
