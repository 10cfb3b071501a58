use Rattle.std.proofs.Common.{Bor, ◌∙◌, ◌+◌, ap, drop, map}
use Rattle.std.proofs.lemmas.List.{at_drop_more}
use Rattle.grep_options.specs.Given.{chosen_of, operands_of, turn_of}
use Rattle.grep_options.specs.Words.{Text, next_says, with_these, words_give}
use Rattle.grep_options.proofs.WordLemmas.{grown_step}
use Rattle.grep_options.proofs.read.read_words.Goals as goal

pub loop-word-preserved : goal.loop-word-preserved
loop-word-preserved c =
    let table = c.args.table.now in
    let left = map (λ (w : Bor Text). w.now) (drop (c.loop-word.word-index + 1) c.args.words.now) in
    c.loop-word.invariant
    ∙ ap (with_these (chosen_of c.loop-word.given) (operands_of c.loop-word.given))
    (at_drop_more (λ ws. words_give table (turn_of c.loop-word.next) (map (λ (w : Bor Text). w.now) ws)) c.args.words.now c.loop-word.word-index _ c.loop-word-test.true)
    ∙ grown_step c.loop-word.given c.take.new.self (λ t. words_give table t left) _ (turn_of c.in_ok-next.next) (next_says table (turn_of c.loop-word.next) _) c.in_ok-next.ensures
