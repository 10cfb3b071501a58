use Rattle.std.proofs.Common.{◌≡◌, length}
use Rattle.grep_files.proofs.WalkLemmas.{Moved}
use Rattle.grep_files.proofs.walk.Walk.enter.Given as goal

-- the paths that were taken stand before what was left
abbrev pub invariant-loop-path : goal.invariant-loop-path
invariant-loop-path l = record {
  choice : l.self.choice ≡ l.fn.self.choice;
  moved : Moved l.initial.paths.items l.fn.self.left.items l.paths.items l.self.left.items;
}

abbrev pub decreases-loop-path : goal.decreases-loop-path
decreases-loop-path l = length l.paths.items
