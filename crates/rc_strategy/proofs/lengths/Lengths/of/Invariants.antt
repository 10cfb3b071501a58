use Rattle.std.proofs.Common.{◌≡◌, map, take}
use Rattle.std.specs.Prelude.{All}
use Rattle.rc_pattern.specs.Meaning.{meaning}
use Rattle.rc_reach.specs.Laws.{greatest_len}
use Rattle.rc_strategy.specs.Lengths.{Bounds}
use Rattle.rc_strategy.proofs.lengths.Lengths.of.Given as goal

abbrev pub invariant-loop-hir : goal.invariant-loop-hir
invariant-loop-hir l =
    All (Bounds l.spans) (map meaning (take l.hir-index l.hirs)) × (l.spans.greatest ≡ greatest_len (map meaning (take l.hir-index l.hirs)))
