use Rattle.rc_dfa.specs.Automata.{samples_of}
use Rattle.rc_dense_dfa.specs.Rows.{IsMaker, Grows, AreRows}
use Rattle.rc_dense_dfa.proofs.maker.Maker.row.Given as goal

abbrev pub ghost-cell : goal.ghost-cell
ghost-cell g a = g.m

abbrev pub invariant-loop-byte : goal.invariant-loop-byte
invariant-loop-byte g l = record {
  maker : IsMaker g.m l.self;
  grows : Grows l.fn.self.names l.self.names;
  rows : AreRows g.m (samples_of l.automaton) l.self.names.states l.number l.byte-index l.cells.items;
}
