use Rattle.std.proofs.Common.{◌≤◌, length, max}
use Rattle.rc_explain.specs.Reading.{IsNumber}
use Rattle.rc_explain.proofs.repetitions.number_at.Given as goal

abbrev pub invariant-loop-i : goal.invariant-loop-i
invariant-loop-i l = IsNumber l.mark l.from l.i l.number × (l.i ≤ max (length l.mark) l.from)
