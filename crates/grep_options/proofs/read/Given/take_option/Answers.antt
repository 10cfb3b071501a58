use Rattle.grep_options.proofs.WordLemmas.{memory_taken}
use Rattle.grep_options.proofs.read.Given.take_option.Goals as goal

pub returns-in_err-push : goal.returns-in_err-push
returns-in_err-push c = memory_taken c.args.self.now (record { options = c.push.new.self; operands = c.args.self.now.operands }) _ _ _ c.from_residual.ensures
