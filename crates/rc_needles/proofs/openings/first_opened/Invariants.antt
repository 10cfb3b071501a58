use Rattle.rc_needles.specs.Openings.{ArePassed}
use Rattle.rc_needles.proofs.openings.first_opened.Given as goal

abbrev pub invariant-loop-at : goal.invariant-loop-at
invariant-loop-at l = ArePassed l.words l.piece l.from l.at
