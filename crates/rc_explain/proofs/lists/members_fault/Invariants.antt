use Rattle.rc_explain.specs.Reading.{IsClassBefore}
use Rattle.rc_explain.proofs.lists.members_fault.Given as goal

abbrev pub invariant-loop : goal.invariant-loop
invariant-loop l = IsClassBefore l.mark l.at l.class
