use Rattle.rc_dfa.specs.Automata.{machine_of}
use Rattle.rc_determinize.specs.Places.{state_of}
use Rattle.rc_dense_dfa.proofs.ReachLemmas.{reached_below}
use Rattle.rc_dense_dfa.proofs.maker.Maker.lead.Goals as goal

pub step-requires-clause-below : goal.step-requires-clause-below
step-requires-clause-below c =
    let n = c.requires.maker.named in
    reached_below (machine_of c.args.automaton.now c.args.direction) (state_of c.get-from.result.now) n.machine
    (n.are_states.reached c.args.number (state_of c.get-from.result.now) c.get-from.ensures)
