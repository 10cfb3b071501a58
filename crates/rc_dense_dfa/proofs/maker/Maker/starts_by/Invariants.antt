use Rattle.rc_dfa.specs.Automata.{samples_of}
use Rattle.rc_dense_dfa.specs.Tables.{mode_of}
use Rattle.rc_dense_dfa.specs.Rows.{IsMaker, Grows, AreStarts}
use Rattle.rc_dense_dfa.proofs.maker.Maker.starts_by.Given as goal

abbrev pub ghost-start : goal.ghost-start
ghost-start g a = g.m

abbrev pub invariant-loop-byte : goal.invariant-loop-byte
invariant-loop-byte g l = record {
  maker : IsMaker g.m l.self;
  grows : Grows l.fn.self.names l.self.names;
  starts : AreStarts g.m (samples_of l.automaton) l.self.names.states (mode_of l.anchored) l.byte-index l.starts.items;
}
