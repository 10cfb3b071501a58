use Rattle.rc_pikevm.proofs.PlainLemmas.{plain_before}
use Rattle.rc_pikevm.proofs.sides.is_ascii_before.Goals as goal

pub returns-else-is_empty : goal.returns-else-is_empty
returns-else-is_empty c = plain_before c.args.before.now
