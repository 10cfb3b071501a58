use Rattle.std.specs.Prelude.{◌≡◌, ◌≤◌, ◌-◌, length}
use Rattle.rc_dfa.specs.Automata.{samples_of}
use Rattle.rc_dense_dfa.specs.Rows.{IsMaker, Grows, AreRows, AreEnds}
use Rattle.rc_dense_dfa.proofs.build.rows_of.Given as goal

abbrev pub ghost-row : goal.ghost-row
ghost-row g a = g.m

abbrev pub ghost-end_of : goal.ghost-end_of
ghost-end_of g a = g.m

abbrev pub invariant-loop-number : goal.invariant-loop-number
invariant-loop-number g l = record {
  maker : IsMaker g.m l.maker;
  grows : Grows l.fn.maker.names l.maker.names;
  within : l.number ≤ length l.maker.names.states;
  rows : AreRows g.m (samples_of l.automaton) l.maker.names.states l.number 0 l.cells.items;
  ends : AreEnds g.m l.maker.names.states l.ends.items;
  len : length l.ends.items ≡ l.number;
}

abbrev pub decreases-loop-number : goal.decreases-loop-number
decreases-loop-number g l = 2305843009213693952 - l.number
