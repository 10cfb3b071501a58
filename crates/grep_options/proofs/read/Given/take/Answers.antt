use Rattle.grep_options.proofs.WordLemmas.{memory_taken}
use Rattle.grep_options.proofs.read.Given.take.Goals as goal

pub returns-in_err-push-in-Value : goal.returns-in_err-push-in-Value
returns-in_err-push-in-Value c = memory_taken c.args.self.now (record { options = c.push.new.self; operands = c.args.self.now.operands }) _ _ _ c.from_residual.ensures

pub returns-in_err-push-in-Operand : goal.returns-in_err-push-in-Operand
returns-in_err-push-in-Operand c =
    memory_taken c.args.self.now (record { options = c.args.self.now.options; operands = c.push-in-Operand.new.self }) _ _ _ c.from_residual-in_err-push-in-Operand.ensures
