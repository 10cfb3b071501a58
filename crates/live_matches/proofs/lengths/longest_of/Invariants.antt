use Rattle.std.proofs.Common.{◌≡◌, IfSome, Some, drop, map}
use Rattle.rc_pattern.specs.Meaning.{meaning}
use Rattle.api_meta.specs.Reaching.{longest_after}
use Rattle.live_matches.proofs.lengths.longest_of.Given as goal

-- the patterns that are left make the same of the length so far
abbrev pub invariant-patterns : goal.invariant-patterns
invariant-patterns l =
    IfSome l.longest (λ n. longest_after (Some 0) (map meaning l.hirs) ≡ longest_after (Some n) (map meaning (drop l.hir-index l.hirs)))
