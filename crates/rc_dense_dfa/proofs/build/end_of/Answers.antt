use Rattle.std.proofs.Common.{None}
use Rattle.rc_dfa.specs.Automata.{machine_of}
use Rattle.rc_determinize.specs.Places.{state_of}
use Rattle.rc_dense_dfa.proofs.MakerLemmas.{led}
use Rattle.rc_dense_dfa.proofs.build.end_of.Goals as goal

pub returns-clause-end : goal.returns-clause-end
returns-clause-end g c = λ s e.
    let k = machine_of c.args.automaton.now c.args.direction in
    (state_of c.lead.new.self.to, led g.m k s (state_of c.lead.new.self.to) None c.requires.0 (c.in_ok-lead.ensures.leads s e), c.in-Some.ensures)
