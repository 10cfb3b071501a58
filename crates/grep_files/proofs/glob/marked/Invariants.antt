use Rattle.std.proofs.Common.{◌≡◌, drop}
use Rattle.grep_files.specs.Globs.{fits}
use Rattle.grep_files.specs.Marks.{marks}
use Rattle.grep_files.proofs.glob.marked.Given as goal

abbrev pub invariant-loop-place : goal.invariant-loop-place
invariant-loop-place l = record {
  marks : l.marks.items ≡ marks l.glob (drop l.place l.name);
  last : l.is_fit ≡ fits l.glob (drop l.place l.name);
}
