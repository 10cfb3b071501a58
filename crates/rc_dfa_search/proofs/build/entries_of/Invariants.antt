use Rattle.std.proofs.Common.{drop}
use Rattle.rc_dfa_search.proofs.ChoiceLemmas.{IsChoice}
use Rattle.rc_dfa_search.proofs.build.entries_of.Given as goal

abbrev pub invariant-choices : goal.invariant-choices
invariant-choices g l = IsChoice g.hs (drop l._pattern g.hs) l.choice l.entries.items
