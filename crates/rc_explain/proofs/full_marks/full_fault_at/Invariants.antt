use Rattle.rc_explain.specs.Reading.{AreOpen}
use Rattle.rc_explain.proofs.full_marks.full_fault_at.Given as goal

abbrev pub invariant-loop : goal.invariant-loop
invariant-loop l = AreOpen l.text l.scan.standing.groups.items
