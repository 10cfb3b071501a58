use Rattle.std.proofs.Common.{◌≡◌, Some, map, drop}
use Rattle.rc_pattern.specs.Meaning.{meaning}
use Rattle.api_meta.specs.Reaching.{longest_after}
use Rattle.api_meta.proofs.reach.greatest_length.Given as goal

abbrev pub invariant-loop-hir : goal.invariant-loop-hir
invariant-loop-hir l = longest_after (Some 0) (map meaning l.hirs) ≡ longest_after l.longest (map meaning (drop l.hir-index l.hirs))
