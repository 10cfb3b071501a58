use Rattle.std.proofs.Common.{sym, subst}
use Rattle.live_matches.specs.Entries.{Rise}
use Rattle.live_matches.proofs.entries.Entries.take_after.Goals as goal

pub invariant_of-self : goal.invariant_of-self
invariant_of-self c = subst (Rise c.self.inside.len 0) (sym c.take_after.ensures.before) c.self.invariant
