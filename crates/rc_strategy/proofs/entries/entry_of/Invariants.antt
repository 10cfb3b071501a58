use Rattle.rc_strategy.proofs.EntryLemmas.{IsAt}
use Rattle.rc_strategy.proofs.entries.entry_of.Given as goal

abbrev pub invariant-choices : goal.invariant-choices
invariant-choices l = IsAt l.program l.pattern l._before l.choice
