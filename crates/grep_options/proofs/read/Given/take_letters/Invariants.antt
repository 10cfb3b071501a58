use Rattle.std.proofs.Common.{chars, length}
use Rattle.std.specs.Str.Iter.{chars_rest}
use Rattle.grep_options.proofs.WordLemmas.{Left}
use Rattle.grep_options.proofs.read.Given.take_letters.Given as goal

-- what the letters that are left say goes on with what those before say
abbrev pub invariant-loop-letter : goal.invariant-loop-letter
invariant-loop-letter l = Left l.fn.self l.self l.table l.word (chars l.text) (chars_rest l.letters)

abbrev pub decreases-loop-letter : goal.decreases-loop-letter
decreases-loop-letter l = length (chars_rest l.letters)
