use Rattle.std.proofs.Common.{◌≡◌, map}
use Rattle.rc_pattern.specs.Meaning.{meaning}
use Rattle.rcgrep.specs.Fitted.{fitted_of}
use Rattle.rcgrep.proofs.patterns.all_fitted.Given as goal

-- the patterns so far
abbrev pub invariant-loop-hir : goal.invariant-loop-hir
invariant-loop-hir l = map meaning l.all.items ≡ map (fitted_of l.fit) (map meaning l.yielded)
