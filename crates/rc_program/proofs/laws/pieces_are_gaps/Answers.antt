use Rattle.rc_program.proofs.PieceLemmas.{pieces_law}
use Rattle.rc_program.proofs.laws.pieces_are_gaps.Goals as goal

pub returns : goal.returns
returns c = pieces_law
