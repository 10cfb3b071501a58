use Rattle.std.proofs.Common.{length}
use Rattle.rc_tokens.specs.Text.{Characters}
use Rattle.rc_full_lists.specs.Openings.{Hyphens}
use Rattle.rc_full_lists.proofs.openings.behind_hyphens.Given as goal

abbrev pub invariant-loop-behind : goal.invariant-loop-behind
invariant-loop-behind l = (v : Characters) → Hyphens l.fn.verbose l.rest v → Hyphens l.fn.verbose l.text v

abbrev pub decreases-loop-behind : goal.decreases-loop-behind
decreases-loop-behind l = length l.rest
