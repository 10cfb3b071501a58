use Rattle.std.proofs.Common.{◌≡◌, drop}
use Rattle.grep_options.specs.Words.{first, has_name}
use Rattle.grep_options.proofs.read.by_name.Given as goal

-- the option is the first of those that are left
abbrev pub invariant-loop-entry : goal.invariant-loop-entry
invariant-loop-entry l = first (has_name l.name) l.table ≡ first (has_name l.name) (drop l.entry-index l.table)
