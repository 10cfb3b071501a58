use Rattle.rc_words.proofs.AnswerLemmas.{word_law}
use Rattle.rc_words.proofs.laws.matches_are_words.Goals as goal

pub returns : goal.returns
returns c = word_law
