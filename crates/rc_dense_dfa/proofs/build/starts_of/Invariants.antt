use Rattle.std.specs.Prelude.{◌≤◌}
use Rattle.rc_dfa.specs.Automata.{samples_of}
use Rattle.rc_dense_dfa.specs.Rows.{IsMaker, Grows, AreStarts}
use Rattle.rc_dense_dfa.proofs.build.starts_of.Given as goal

abbrev pub ghost-starts_by : goal.ghost-starts_by
ghost-starts_by g a = g.m

abbrev pub ghost-start_at_end : goal.ghost-start_at_end
ghost-start_at_end g a = g.m

abbrev pub invariant-loop-mode : goal.invariant-loop-mode
invariant-loop-mode g l = record {
  maker : IsMaker g.m l.maker;
  grows : Grows l.fn.maker.names l.maker.names;
  within : l.mode ≤ l.modes;
  starts : AreStarts g.m (samples_of l.automaton) l.maker.names.states l.mode 0 l.starts.items;
}
