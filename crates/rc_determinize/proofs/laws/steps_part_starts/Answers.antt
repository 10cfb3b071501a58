use Rattle.rc_determinize.proofs.LongestStepLemmas.{longest_step_law}
use Rattle.rc_determinize.proofs.laws.steps_part_starts.Goals as goal

pub returns : goal.returns
returns c = longest_step_law
