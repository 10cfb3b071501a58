use Rattle.std.proofs.Common.{◌≡◌, ◌++◌, map, drop}
use Rattle.rc_pattern.specs.Meaning.{meaning}
use Rattle.rc_pattern.proofs.check.copies.+copy.Given as goal

abbrev pub invariant-push_copies-loop-hir : goal.invariant-push_copies-loop-hir
invariant-push_copies-loop-hir l =
    map meaning l.copies.items ++ map meaning (drop l.hir-index l.hirs) ≡ map meaning l.initial.copies.items ++ map meaning l.hirs
