use Rattle.rc_dfa.proofs.AutomatonLemmas.{is_machine, is_classing}
use Rattle.rc_dfa.proofs.automaton.Automaton.classes.Goals as goal

pub returns-clause-machine : goal.returns-clause-machine
returns-clause-machine c = is_machine c.args.self.now

pub returns-clause-classing : goal.returns-clause-classing
returns-clause-classing c = is_classing c.args.self.now
