use Rattle.std.proofs.Common.{◌↔◌, IsTrue, sym, subst}
use Rattle.rc_dfa.specs.Automata.{machine_of}
use Rattle.rc_lazy_dfa.specs.Stores.{MayReadLetter}
use Rattle.rc_lazy_dfa.proofs.letters.may_read.Goals as goal

pub returns-in-Alone : goal.returns-in-Alone
returns-in-Alone c = λ d.
    subst (λ y. IsTrue c.may_read.result ↔ MayReadLetter (machine_of c.args.automaton.now d) y) (sym c.in-Alone.is) (c.may_read.ensures d)
