use Rattle.grep_options.proofs.WordLemmas.{memory_taken}
use Rattle.grep_options.proofs.read.Given.take_word.Goals as goal

pub returns-in_err-push : goal.returns-in_err-push
returns-in_err-push c = memory_taken c.args.self.now (record { options = c.args.self.now.options; operands = c.push.new.self }) _ _ _ c.from_residual.ensures
