use Rattle.std.proofs.Common.{◌≡◌, drop}
use Rattle.grep_options.specs.Words.{first, has_letter}
use Rattle.grep_options.proofs.read.by_letter.Given as goal

-- the option is the first of those that are left
abbrev pub invariant-loop-entry : goal.invariant-loop-entry
invariant-loop-entry l = first (has_letter l.letter) l.table ≡ first (has_letter l.letter) (drop l.entry-index l.table)
