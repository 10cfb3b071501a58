use Rattle.std.proofs.Common.{◌≡◌, [], drop}
use Rattle.grep_files.specs.Marks.{marks}
use Rattle.grep_files.proofs.glob.marked_by_none.Given as goal

abbrev pub invariant-loop-place : goal.invariant-loop-place
invariant-loop-place l = l.marks.items ≡ marks [] (drop l._place l.name)
