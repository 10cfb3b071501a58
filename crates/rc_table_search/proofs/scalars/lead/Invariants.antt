use Rattle.std.specs.Prelude.{◌≤◌}
use Rattle.rc_table_search.proofs.scalars.lead.Given as goal

abbrev pub invariant-loop-first : goal.invariant-loop-first
invariant-loop-first l = record { within : l.first ≤ l.place }

abbrev pub decreases-loop-first : goal.decreases-loop-first
decreases-loop-first l = l.first
