use Rattle.rc_full_tokens.proofs.GapLemmas.{one_gap_law}
use Rattle.rc_full_tokens.proofs.gaps.gaps_end_once.Goals as goal

pub returns : goal.returns
returns c = one_gap_law
