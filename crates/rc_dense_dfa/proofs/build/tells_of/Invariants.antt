use Rattle.std.specs.Prelude.{◌≡◌, ◌≤◌, length}
use Rattle.rc_dense_dfa.specs.Rows.{AreTells}
use Rattle.rc_dense_dfa.proofs.build.tells_of.Given as goal

abbrev pub invariant-loop-number : goal.invariant-loop-number
invariant-loop-number l = record {
  len : length l.tells.items ≡ l.number;
  within : l.number ≤ length l.states;
  tells : AreTells l.states l.tells.items;
}
