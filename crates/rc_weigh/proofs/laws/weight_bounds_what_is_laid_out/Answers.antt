use Rattle.rc_weigh.proofs.LighterLemmas.{list_lighter}
use Rattle.rc_weigh.proofs.ProgramLemmas.{program_bounds, program_small, shown_lighter}
use Rattle.rc_weigh.proofs.laws.weight_bounds_what_is_laid_out.Goals as goal

pub returns : goal.returns
returns c = record { bounds = program_bounds; small = program_small; shown_lighter = shown_lighter; lighter = list_lighter }
