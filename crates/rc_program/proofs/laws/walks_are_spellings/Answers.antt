use Rattle.rc_program.proofs.WholeLemmas.{program_law}
use Rattle.rc_program.proofs.laws.walks_are_spellings.Goals as goal

pub returns : goal.returns
returns c = program_law
