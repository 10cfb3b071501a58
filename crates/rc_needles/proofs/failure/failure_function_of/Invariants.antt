use Rattle.std.proofs.Common.{◌≡◌, length}
use Rattle.rc_needles.specs.Failures.{AreFailures, IsLongestBorder}
use Rattle.rc_needles.proofs.failure.failure_function_of.Given as goal

abbrev pub invariant-loop-at : goal.invariant-loop-at
invariant-loop-at l = record {
  count : length l.failures.items ≡ l.at;
  are : AreFailures l.needle l.failures.items;
  border : IsLongestBorder l.needle l.at l.border;
}
