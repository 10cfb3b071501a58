use Rattle.rc_dfa.proofs.SymbolLemmas.{is_columning}
use Rattle.rc_dfa.proofs.automaton.Automaton.columns.Goals as goal

pub returns-in-Bytes-clause-columning : goal.returns-in-Bytes-clause-columning
returns-in-Bytes-clause-columning c = is_columning c.args.self.now

pub returns-in-Symbols-clause-columning : goal.returns-in-Symbols-clause-columning
returns-in-Symbols-clause-columning c = is_columning c.args.self.now
