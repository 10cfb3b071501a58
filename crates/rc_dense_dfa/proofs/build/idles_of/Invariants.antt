use Rattle.std.specs.Prelude.{◌≡◌, ◌≤◌, length}
use Rattle.rc_dense_dfa.specs.Rows.{AreIdles}
use Rattle.rc_dense_dfa.proofs.build.idles_of.Given as goal

abbrev pub invariant-loop-number : goal.invariant-loop-number
invariant-loop-number l = record {
  len : length l.idles.items ≡ l.number;
  within : l.number ≤ length l.states;
  idles : AreIdles l.states l.idles.items;
}
