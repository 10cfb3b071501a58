use Rattle.std.proofs.Common.{◌+◌, ◌-◌, ◌≤◌, length}
use Rattle.rc_needles.proofs.TeddyLemmas.{NoneSifted}
use Rattle.rc_needles.proofs.teddy.Teddy.place_by_places.Given as goal

abbrev pub invariant-loop-at : goal.invariant-loop-at
invariant-loop-at l = record { within : l.at + 2 ≤ length l.piece; passed : NoneSifted l.self l.piece 0 l.at }

abbrev pub decreases-loop-at : goal.decreases-loop-at
decreases-loop-at l = l.last - l.at
