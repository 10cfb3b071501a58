use Rattle.std.proofs.Common.{◌≡◌, drop, map}
use Rattle.grep_options.specs.Given.{chosen_of, operands_of, turn_of}
use Rattle.grep_options.specs.Words.{with_these, words_give}
use Rattle.grep_options.specs.Words.Turn.{any}
use Rattle.grep_options.proofs.read.read_words.Given as goal

-- what the words that are left give goes on with what is given
abbrev pub invariant-loop-word : goal.invariant-loop-word
invariant-loop-word l = words_give l.table any (map (λ w. w.now) l.words)
    ≡ with_these (chosen_of l.given) (operands_of l.given) (words_give l.table (turn_of l.next) (map (λ w. w.now) (drop l.word-index l.words)))
